-- Which trees are read as literals from 1.
use Rattle.std.proofs.Common.{◌≡◌, ℕ, zero, suc, ◌<◌, List, [], ◌∷◌, ◌++◌, length, true, false, true≢false, map, refl, sym, ◌∙◌, arith}
use Rattle.std.specs.Prelude.{pos, negsuc}
use Rattle.hol_types.specs.Exact.{both_true}
use Rattle.hol_types.specs.Ty.{BoolTy, IntTy}
use Rattle.hol_types.specs.TyEq.{ty_eq}
use Rattle.hol_types.proofs.TyEqLemmas.{ty_eq_sound}
use Rattle.hol_terms.specs.Term.{Term, FreeTm, BoundTm, ConstTm, NumTm, AppTm, LamTm, ty_of}
use Rattle.hol_terms.specs.Constants as hol
use Rattle.goal_text.specs.declared.word.Operator.{Operator}
use Rattle.goal_text.specs.declared.word.Operator.TheVariants as operators
use Rattle.goal_text.specs.Operations.{takes, fits, all_are, to_the_right, to_the_left, neighbours, differs, differences, meaning}
use Rattle.goal_text.specs.Terms.{applied, negative}
use Rattle.goal_text.specs.Given.{IsPositive}

-- a literal from 1 is a number
pub positive_is_number : (t : Term) → IsPositive t → ty_of t ≡ IntTy
positive_is_number (NumTm (pos (suc n))) h = refl
positive_is_number (NumTm (pos zero)) h = absurd h
positive_is_number (NumTm (negsuc n)) h = absurd h
positive_is_number (FreeTm kind name type) h = absurd h
positive_is_number (BoundTm index type) h = absurd h
positive_is_number (ConstTm name type) h = absurd h
positive_is_number (AppTm f x) h = absurd h
positive_is_number (LamTm type body) h = absurd h

-- the negative of a number isn't one
pub negative_not_positive : (n : ℕ) → IsPositive (negative (NumTm (pos n))) → ⊥
negative_not_positive zero h = h
negative_not_positive (suc n) h = h

-- an application
abbrev IsApp : Term → Type 0
IsApp (AppTm f x) = Unit {0}
IsApp (FreeTm kind name type) = ⊥
IsApp (BoundTm index type) = ⊥
IsApp (ConstTm name type) = ⊥
IsApp (NumTm value) = ⊥
IsApp (LamTm type body) = ⊥

app_not_positive : (t : Term) → IsApp t → IsPositive t → ⊥
app_not_positive (AppTm f x) h k = k
app_not_positive (FreeTm kind name type) h k = k
app_not_positive (BoundTm index type) h k = k
app_not_positive (ConstTm name type) h k = k
app_not_positive (NumTm value) h k = h
app_not_positive (LamTm type body) h k = k

applied_is_app : (f : Term) (xs : List Term) → IsApp f → IsApp (applied f xs)
applied_is_app f [] h = h
applied_is_app f (x ∷ xs) h = applied_is_app (AppTm f x) xs tt

-- what is applied to one argument or more isn't one
pub applied_not_positive : (f : Term) (xs : List Term) → 0 < length xs → IsPositive (applied f xs) → ⊥
applied_not_positive f [] h k = omega arith
applied_not_positive f (x ∷ xs) h k = app_not_positive (applied (AppTm f x) xs) (applied_is_app (AppTm f x) xs tt) k

-- ---- operations

abbrev MakesApp : (Term → Term → Term) → Type 0
MakesApp op = (a b : Term) → IsApp (op a b)

right_is_app : (op : Term → Term → Term) → MakesApp op → (a : Term) (ts : List Term) → IsApp a → IsApp (to_the_right op a ts)
right_is_app op k a [] h = h
right_is_app op k a (t ∷ ts) h = k a (to_the_right op t ts)

left_is_app : (op : Term → Term → Term) → MakesApp op → (a : Term) (ts : List Term) → IsApp a → IsApp (to_the_left op a ts)
left_is_app op k a [] h = h
left_is_app op k a (t ∷ ts) h = left_is_app op k (op a t) ts (k a t)

-- the one formula of `and` or `or`
formula_not_positive : (a : Term) → all_are BoolTy (ty_of a ∷ []) ≡ true → IsPositive a → ⊥
formula_not_positive a h k = differ (ty_eq_sound BoolTy (ty_of a) (both_true (ty_eq BoolTy (ty_of a)) true h).0 ∙ positive_is_number a k)
  where
    differ : BoolTy ≡ IntTy → ⊥
    differ e = cc

no_fewer : {A : Type 0} → false ≡ true → A
no_fewer h = absurd (true≢false (sym h))

pub meaning_not_positive : (operator : Operator) (a : Term) (more : List Term) → takes operator (length (a ∷ more)) ≡ true → fits operator (map ty_of (a ∷ more)) ≡ true → IsPositive (meaning operator a more) → ⊥
meaning_not_positive operators.Not a more t f h = h
meaning_not_positive operators.And a [] t f h = formula_not_positive a f h
meaning_not_positive operators.And a (b ∷ more) t f h = h
meaning_not_positive operators.Or a [] t f h = formula_not_positive a f h
meaning_not_positive operators.Or a (b ∷ more) t f h = h
meaning_not_positive operators.Implies a [] t f h = no_fewer t
meaning_not_positive operators.Implies a (b ∷ more) t f h = h
meaning_not_positive operators.Equals a [] t f h = no_fewer t
meaning_not_positive operators.Equals a (b ∷ more) t f h =
    app_not_positive _ (right_is_app hol.conjunction (λ x y. tt) (hol.equation (ty_of a) a b) (neighbours (hol.equation (ty_of a)) b more) tt) h
meaning_not_positive operators.Distinct a [] t f h = no_fewer t
meaning_not_positive operators.Distinct a (b ∷ more) t f h =
    app_not_positive _ (right_is_app hol.conjunction (λ x y. tt) (hol.negation (hol.equation (ty_of a) a b)) (differs a more ++ differences (b ∷ more)) tt) h
meaning_not_positive operators.Xor a [] t f h = no_fewer t
meaning_not_positive operators.Xor a (b ∷ more) t f h = h
meaning_not_positive operators.Ite a [] t f h = no_fewer t
meaning_not_positive operators.Ite a (b ∷ []) t f h = no_fewer t
meaning_not_positive operators.Ite a (b ∷ c ∷ more) t f h = h
meaning_not_positive operators.Plus a [] t f h = no_fewer t
meaning_not_positive operators.Plus a (b ∷ more) t f h = app_not_positive _ (left_is_app hol.add (λ x y. tt) (hol.add a b) more tt) h
meaning_not_positive operators.Times a [] t f h = no_fewer t
meaning_not_positive operators.Times a (b ∷ more) t f h = app_not_positive _ (left_is_app hol.mul (λ x y. tt) (hol.mul a b) more tt) h
meaning_not_positive operators.Minus a [] t f h = h
meaning_not_positive operators.Minus a (b ∷ more) t f h = app_not_positive _ (left_is_app hol.sub (λ x y. tt) (hol.sub a b) more tt) h
meaning_not_positive operators.AtMost a [] t f h = no_fewer t
meaning_not_positive operators.AtMost a (b ∷ more) t f h = app_not_positive _ (right_is_app hol.conjunction (λ x y. tt) (hol.at_most a b) (neighbours hol.at_most b more) tt) h
meaning_not_positive operators.Less a [] t f h = no_fewer t
meaning_not_positive operators.Less a (b ∷ more) t f h = app_not_positive _ (right_is_app hol.conjunction (λ x y. tt) (hol.less a b) (neighbours hol.less b more) tt) h
meaning_not_positive operators.AtLeast a [] t f h = no_fewer t
meaning_not_positive operators.AtLeast a (b ∷ more) t f h = h
meaning_not_positive operators.Greater a [] t f h = no_fewer t
meaning_not_positive operators.Greater a (b ∷ more) t f h = h
meaning_not_positive operators.Div a [] t f h = no_fewer t
meaning_not_positive operators.Div a (b ∷ more) t f h = h
meaning_not_positive operators.Mod a [] t f h = no_fewer t
meaning_not_positive operators.Mod a (b ∷ more) t f h = h
