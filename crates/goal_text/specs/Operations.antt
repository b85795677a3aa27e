-- The operations of the grammar: how many parts each takes, of which types, and the term that it is read as.
use Rattle.std.specs.Prelude.{ℕ, List, [], ◌∷◌, ◌++◌, map, Bool, true, ◌&&◌, nat_lt, nat_eq}
use Rattle.std.specs.List.{list_all}
use Rattle.hol_types.specs.Ty.{Ty, BoolTy, IntTy}
use Rattle.hol_types.specs.TyEq.{ty_eq}
use Rattle.hol_terms.specs.Term.{Term, LamTm, ty_of}
use Rattle.hol_terms.specs.Constants.{true_tm, negation, conjunction, disjunction, implication, equation, conditional, add, mul, neg, sub, at_most, less, quotient, remainder, for_all, exists}
use Rattle.goal_text.specs.declared.word.Operator.{Operator}
use Rattle.goal_text.specs.declared.word.Operator.TheVariants.{Not, And, Or, Implies, Equals, Distinct, Xor, Ite, Plus, Times, Minus, AtMost, Less, AtLeast, Greater, Div, Mod}
use Rattle.goal_text.specs.declared.word.Binder.{Binder}
use Rattle.goal_text.specs.declared.word.Binder.TheVariants.{Forall, Exists, Lambda}
use Rattle.goal_text.specs.Names.{Binders}

-- ---- how many parts

abbrev pub takes : Operator → ℕ → Bool
takes Not n = nat_eq n 1
takes And n = nat_lt 0 n
takes Or n = nat_lt 0 n
takes Implies n = nat_lt 1 n
takes Equals n = nat_lt 1 n
takes Distinct n = nat_lt 1 n
takes Xor n = nat_eq n 2
takes Ite n = nat_eq n 3
takes Plus n = nat_lt 1 n
takes Times n = nat_lt 1 n
takes Minus n = nat_lt 0 n
takes AtMost n = nat_lt 1 n
takes Less n = nat_lt 1 n
takes AtLeast n = nat_eq n 2
takes Greater n = nat_eq n 2
takes Div n = nat_eq n 2
takes Mod n = nat_eq n 2

-- ---- of which types

-- each of them is this type
abbrev pub all_are : Ty → List Ty → Bool
all_are t ts = list_all (ty_eq t) ts

-- they are one type
abbrev pub are_alike : List Ty → Bool
are_alike [] = true
are_alike (t ∷ ts) = all_are t ts

-- Bool, and then one type
abbrev pub are_choice : List Ty → Bool
are_choice [] = true
are_choice (t ∷ ts) = ty_eq BoolTy t && are_alike ts

abbrev pub fits : Operator → List Ty → Bool
fits Not ts = all_are BoolTy ts
fits And ts = all_are BoolTy ts
fits Or ts = all_are BoolTy ts
fits Implies ts = all_are BoolTy ts
fits Equals ts = are_alike ts
fits Distinct ts = are_alike ts
fits Xor ts = all_are BoolTy ts
fits Ite ts = are_choice ts
fits Plus ts = all_are IntTy ts
fits Times ts = all_are IntTy ts
fits Minus ts = all_are IntTy ts
fits AtMost ts = all_are IntTy ts
fits Less ts = all_are IntTy ts
fits AtLeast ts = all_are IntTy ts
fits Greater ts = all_are IntTy ts
fits Div ts = all_are IntTy ts
fits Mod ts = all_are IntTy ts

-- ---- the term

-- an operation between each two neighbours, nested to the right
abbrev pub to_the_right : (Term → Term → Term) → Term → List Term → Term
to_the_right op a [] = a
to_the_right op a (b ∷ more) = op a (to_the_right op b more)

-- an operation between each two neighbours, nested to the left
abbrev pub to_the_left : (Term → Term → Term) → Term → List Term → Term
to_the_left op a [] = a
to_the_left op a (b ∷ more) = to_the_left op (op a b) more

-- a relation of each two neighbours
abbrev pub neighbours : (Term → Term → Term) → Term → List Term → List Term
neighbours op a [] = []
neighbours op a (b ∷ more) = op a b ∷ neighbours op b more

-- the conjunction of formulas, of which there is one at least
abbrev pub all_of : List Term → Term
all_of [] = true_tm
all_of (a ∷ more) = to_the_right conjunction a more

-- a differs from each of them
abbrev pub differs : Term → List Term → List Term
differs a more = map (λ b. negation (equation (ty_of a) a b)) more

-- each differs from each behind it
abbrev pub differences : List Term → List Term
differences [] = []
differences (a ∷ more) = differs a more ++ differences more

-- an operation on the first two parts
abbrev pub on_two : (Term → Term → Term) → Term → List Term → Term
on_two op a [] = a
on_two op a (b ∷ more) = op a b

-- an operation on the first three parts
abbrev pub on_three : (Term → Term → Term → Term) → Term → List Term → Term
on_three op a [] = a
on_three op a (b ∷ []) = a
on_three op a (b ∷ c ∷ more) = op a b c

-- the negative of one part; the difference of more
abbrev pub minus : Term → List Term → Term
minus a [] = neg a
minus a (b ∷ more) = to_the_left sub a (b ∷ more)

-- what an operation on the first part and the others is read as
abbrev pub meaning : Operator → Term → List Term → Term
meaning Not a more = negation a
meaning And a more = to_the_right conjunction a more
meaning Or a more = to_the_right disjunction a more
meaning Implies a more = to_the_right implication a more
meaning Equals a more = all_of (neighbours (equation (ty_of a)) a more)
meaning Distinct a more = all_of (differences (a ∷ more))
meaning Xor a more = on_two (λ x y. negation (equation BoolTy x y)) a more
meaning Ite a more = on_three (λ c x y. conditional (ty_of x) c x y) a more
meaning Plus a more = to_the_left add a more
meaning Times a more = to_the_left mul a more
meaning Minus a more = minus a more
meaning AtMost a more = all_of (neighbours at_most a more)
meaning Less a more = all_of (neighbours less a more)
meaning AtLeast a more = on_two (λ x y. at_most y x) a more
meaning Greater a more = on_two (λ x y. less y x) a more
meaning Div a more = on_two quotient a more
meaning Mod a more = on_two remainder a more

-- ---- binders

-- the type of a body
abbrev pub fits_body : Binder → Ty → Bool
fits_body Forall t = ty_eq BoolTy t
fits_body Exists t = ty_eq BoolTy t
fits_body Lambda t = true

-- a body under a variable of the type
abbrev pub under : Binder → Ty → Term → Term
under Forall t body = for_all t (LamTm t body)
under Exists t body = exists t (LamTm t body)
under Lambda t body = LamTm t body

-- a body under variables, the innermost first
abbrev pub under_all : Binder → Binders → Term → Term
under_all binder [] body = body
under_all binder (b ∷ outer) body = under_all binder outer (under binder b.1 body)
