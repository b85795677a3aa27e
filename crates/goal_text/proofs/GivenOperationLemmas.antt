-- Operations on given terms of the types that the grammar asks are given.
use Rattle.std.proofs.Common.{◌≡◌, ℕ, ◌^◌, ◌<◌, List, [], ◌∷◌, ◌++◌, true, map, refl, sym, subst, ◌∙◌}
use Rattle.std.specs.Prelude.{pos}
use Rattle.hol_types.specs.Exact.{both_true}
use Rattle.hol_types.specs.Ty.{Ty, BoolTy, IntTy}
use Rattle.hol_types.specs.TyEq.{ty_eq}
use Rattle.hol_types.proofs.TyEqLemmas.{ty_eq_sound}
use Rattle.hol_terms.specs.Term.{Term, NumTm, ty_of}
use Rattle.hol_terms.specs.Constants as hol
use Rattle.goal_text.specs.declared.word.Operator.{Operator}
use Rattle.goal_text.specs.declared.word.Operator.TheVariants as operators
use Rattle.goal_text.specs.Names.{Constructors, Constants}
use Rattle.goal_text.specs.Operations.{fits, all_are, are_alike, to_the_right, to_the_left, neighbours, all_of, differs, differences, on_two, on_three, minus, meaning}
use Rattle.goal_text.specs.Given.{IsPositive, IsGiven, given_true, given_not, given_and, given_or, given_implies, given_equation, given_conditional, given_add, given_mul, given_sub, given_neg, given_at_most, given_less, given_quotient, given_remainder}

-- a literal from 1
pub record IsDivisor (t : Term) : Type 0 where
  pub value : ℕ
  pub is : t ≡ NumTm (pos value)
  pub from_one : 0 < value
  pub small : value < 2 ^ 127

module _ (types : Constructors) (consts : Constants) (bs : List Ty) where
  -- a given term of the type
  record HasGiven (type : Ty) (t : Term) : Type 0 where
    given : IsGiven types consts bs t
    typed : ty_of t ≡ type

  -- each is given
  abbrev pub AreGiven : List Term → Type 0
  AreGiven [] = Unit {0}
  AreGiven (t ∷ ts) = IsGiven types consts bs t × AreGiven ts

  -- each is given and of the type
  abbrev HaveGiven : Ty → List Term → Type 0
  HaveGiven type [] = Unit {0}
  HaveGiven type (t ∷ ts) = HasGiven type t × HaveGiven type ts

  have_given : (type : Ty) (ts : List Term) → AreGiven ts → all_are type (map ty_of ts) ≡ true → HaveGiven type ts
  have_given type [] all h = tt
  have_given type (t ∷ ts) all h =
      let both = both_true (ty_eq type (ty_of t)) (all_are type (map ty_of ts)) h in
      (record { given = all.0; typed = sym (ty_eq_sound type (ty_of t) both.0) }, have_given type ts all.1 both.1)

  abbrev Makes : Ty → Ty → (Term → Term → Term) → Type 0
  Makes type made op = (a b : Term) → HasGiven type a → HasGiven type b → HasGiven made (op a b)

  right_given : (type : Ty) (op : Term → Term → Term) → Makes type type op → (a : Term) (ts : List Term) → HasGiven type a → HaveGiven type ts → HasGiven type (to_the_right op a ts)
  right_given type op k a [] h all = h
  right_given type op k a (t ∷ ts) h all = k a (to_the_right op t ts) h (right_given type op k t ts all.0 all.1)

  left_given : (type : Ty) (op : Term → Term → Term) → Makes type type op → (a : Term) (ts : List Term) → HasGiven type a → HaveGiven type ts → HasGiven type (to_the_left op a ts)
  left_given type op k a [] h all = h
  left_given type op k a (t ∷ ts) h all = left_given type op k (op a t) ts (k a t h all.0) all.1

  neighbours_given : (type : Ty) (op : Term → Term → Term) → Makes type BoolTy op → (a : Term) (ts : List Term) → HasGiven type a → HaveGiven type ts → HaveGiven BoolTy (neighbours op a ts)
  neighbours_given type op k a [] h all = tt
  neighbours_given type op k a (t ∷ ts) h all = (k a t h all.0, neighbours_given type op k t ts all.0 all.1)

  append_given : (type : Ty) (ts us : List Term) → HaveGiven type ts → HaveGiven type us → HaveGiven type (ts ++ us)
  append_given type [] us a b = b
  append_given type (t ∷ ts) us a b = (a.0, append_given type ts us a.1 b)

  -- ---- each operation

  negation_made : (a : Term) → HasGiven BoolTy a → HasGiven BoolTy (hol.negation a)
  negation_made a h = record { given = given_not h.given h.typed; typed = refl }

  conjunction_made : Makes BoolTy BoolTy hol.conjunction
  conjunction_made a b h k = record { given = given_and h.given h.typed k.given k.typed; typed = refl }

  disjunction_made : Makes BoolTy BoolTy hol.disjunction
  disjunction_made a b h k = record { given = given_or h.given h.typed k.given k.typed; typed = refl }

  implication_made : Makes BoolTy BoolTy hol.implication
  implication_made a b h k = record { given = given_implies h.given h.typed k.given k.typed; typed = refl }

  equation_made : (type : Ty) → Makes type BoolTy (hol.equation type)
  equation_made type a b h k = record { given = subst (λ t. IsGiven types consts bs (hol.equation t a b)) h.typed (given_equation h.given k.given (k.typed ∙ sym h.typed)); typed = refl }

  add_made : Makes IntTy IntTy hol.add
  add_made a b h k = record { given = given_add h.given h.typed k.given k.typed; typed = refl }

  mul_made : Makes IntTy IntTy hol.mul
  mul_made a b h k = record { given = given_mul h.given h.typed k.given k.typed; typed = refl }

  sub_made : Makes IntTy IntTy hol.sub
  sub_made a b h k = record { given = given_sub h.given h.typed k.given k.typed; typed = refl }

  at_most_made : Makes IntTy BoolTy hol.at_most
  at_most_made a b h k = record { given = given_at_most h.given h.typed k.given k.typed; typed = refl }

  less_made : Makes IntTy BoolTy hol.less
  less_made a b h k = record { given = given_less h.given h.typed k.given k.typed; typed = refl }

  -- ---- formulas of several

  all_of_given : (ts : List Term) → HaveGiven BoolTy ts → HasGiven BoolTy (all_of ts)
  all_of_given [] all = record { given = given_true; typed = refl }
  all_of_given (t ∷ ts) all = right_given BoolTy hol.conjunction conjunction_made t ts all.0 all.1

  differs_given : (a : Term) (ts : List Term) → IsGiven types consts bs a → HaveGiven (ty_of a) ts → HaveGiven BoolTy (differs a ts)
  differs_given a [] h all = tt
  differs_given a (t ∷ ts) h all = (negation_made (hol.equation (ty_of a) a t) (equation_made (ty_of a) a t (record { given = h; typed = refl }) all.0), differs_given a ts h all.1)

  at_type : (type : Ty) (a : Term) (ts : List Term) → ty_of a ≡ type → HaveGiven type ts → HaveGiven (ty_of a) ts
  at_type type a ts e all = subst (λ t. HaveGiven t ts) (sym e) all

  differences_given : (type : Ty) (ts : List Term) → HaveGiven type ts → HaveGiven BoolTy (differences ts)
  differences_given type [] all = tt
  differences_given type (t ∷ ts) all =
      append_given BoolTy (differs t ts) (differences ts) (differs_given t ts all.0.given (at_type type t ts all.0.typed all.1)) (differences_given type ts all.1)

  -- ---- what an operation is read as

  -- what is known of the parts of an operation besides: the second is a literal from 1, or the only one is no literal from 1
  abbrev pub PartsFit : Operator → Term → List Term → Type 0
  PartsFit operators.Minus a [] = IsPositive a → ⊥
  PartsFit operators.Div a (b ∷ more) = IsDivisor b
  PartsFit operators.Mod a (b ∷ more) = IsDivisor b
  PartsFit operator a more = Unit {0}

  -- the types of the parts behind the first
  behind : (type : Ty) (a : Term) (more : List Term) → all_are type (map ty_of (a ∷ more)) ≡ true → AreGiven more → HaveGiven type more
  behind type a more h all = have_given type more all (both_true (ty_eq type (ty_of a)) (all_are type (map ty_of more)) h).1

  first : (type : Ty) (a : Term) (more : List Term) → all_are type (map ty_of (a ∷ more)) ≡ true → IsGiven types consts bs a → HasGiven type a
  first type a more h g = record { given = g; typed = sym (ty_eq_sound type (ty_of a) (both_true (ty_eq type (ty_of a)) (all_are type (map ty_of more)) h).0) }

  choice_given : (a : Term) (more : List Term) → IsGiven types consts bs a → AreGiven more → fits operators.Ite (map ty_of (a ∷ more)) ≡ true → IsGiven types consts bs (on_three (λ c x y. hol.conditional (ty_of x) c x y) a more)
  choice_given a [] g all h = g
  choice_given a (b ∷ []) g all h = g
  choice_given a (b ∷ c ∷ more) g all h =
      let both = both_true (ty_eq BoolTy (ty_of a)) (are_alike (map ty_of (b ∷ c ∷ more))) h in
      let alike = both_true (ty_eq (ty_of b) (ty_of c)) (all_are (ty_of b) (map ty_of more)) both.1 in
      given_conditional g (sym (ty_eq_sound BoolTy (ty_of a) both.0)) all.0 all.1.0 (sym (ty_eq_sound (ty_of b) (ty_of c) alike.0))

  xor_given : (a : Term) (more : List Term) → HasGiven BoolTy a → HaveGiven BoolTy more → IsGiven types consts bs (on_two (λ x y. hol.negation (hol.equation BoolTy x y)) a more)
  xor_given a [] h all = h.given
  xor_given a (b ∷ more) h all = (negation_made (hol.equation BoolTy a b) (equation_made BoolTy a b h all.0)).given

  minus_given : (a : Term) (more : List Term) → HasGiven IntTy a → HaveGiven IntTy more → PartsFit operators.Minus a more → IsGiven types consts bs (minus a more)
  minus_given a [] h all fit = given_neg h.given h.typed fit
  minus_given a (b ∷ more) h all fit = (left_given IntTy hol.sub sub_made a (b ∷ more) h all).given

  turned_given : (op : Term → Term → Term) → Makes IntTy BoolTy op → (a : Term) (more : List Term) → HasGiven IntTy a → HaveGiven IntTy more → IsGiven types consts bs (on_two (λ x y. op y x) a more)
  turned_given op k a [] h all = h.given
  turned_given op k a (b ∷ more) h all = (k b a all.0 h).given

  quotient_given : (a : Term) (more : List Term) → HasGiven IntTy a → PartsFit operators.Div a more → IsGiven types consts bs (on_two hol.quotient a more)
  quotient_given a [] h fit = h.given
  quotient_given a (b ∷ more) h fit = subst (λ n. IsGiven types consts bs (hol.quotient a n)) (sym fit.is) (given_quotient h.given h.typed fit.from_one fit.small)

  remainder_given : (a : Term) (more : List Term) → HasGiven IntTy a → PartsFit operators.Mod a more → IsGiven types consts bs (on_two hol.remainder a more)
  remainder_given a [] h fit = h.given
  remainder_given a (b ∷ more) h fit = subst (λ n. IsGiven types consts bs (hol.remainder a n)) (sym fit.is) (given_remainder h.given h.typed fit.from_one fit.small)

  pub meaning_given : (operator : Operator) (a : Term) (more : List Term) → IsGiven types consts bs a → AreGiven more → fits operator (map ty_of (a ∷ more)) ≡ true → PartsFit operator a more
      → IsGiven types consts bs (meaning operator a more)
  meaning_given operators.Not a more g all h fit = (negation_made a (first BoolTy a more h g)).given
  meaning_given operators.And a more g all h fit = (right_given BoolTy hol.conjunction conjunction_made a more (first BoolTy a more h g) (behind BoolTy a more h all)).given
  meaning_given operators.Or a more g all h fit = (right_given BoolTy hol.disjunction disjunction_made a more (first BoolTy a more h g) (behind BoolTy a more h all)).given
  meaning_given operators.Implies a more g all h fit = (right_given BoolTy hol.implication implication_made a more (first BoolTy a more h g) (behind BoolTy a more h all)).given
  meaning_given operators.Equals a more g all h fit =
      (all_of_given (neighbours (hol.equation (ty_of a)) a more) (neighbours_given (ty_of a) (hol.equation (ty_of a)) (equation_made (ty_of a)) a more (record { given = g; typed = refl }) (have_given (ty_of a) more all h))).given
  meaning_given operators.Distinct a more g all h fit =
      (all_of_given (differences (a ∷ more)) (differences_given (ty_of a) (a ∷ more) ((record { given = g; typed = refl }), have_given (ty_of a) more all h))).given
  meaning_given operators.Xor a more g all h fit = xor_given a more (first BoolTy a more h g) (behind BoolTy a more h all)
  meaning_given operators.Ite a more g all h fit = choice_given a more g all h
  meaning_given operators.Plus a more g all h fit = (left_given IntTy hol.add add_made a more (first IntTy a more h g) (behind IntTy a more h all)).given
  meaning_given operators.Times a more g all h fit = (left_given IntTy hol.mul mul_made a more (first IntTy a more h g) (behind IntTy a more h all)).given
  meaning_given operators.Minus a more g all h fit = minus_given a more (first IntTy a more h g) (behind IntTy a more h all) fit
  meaning_given operators.AtMost a more g all h fit = (all_of_given (neighbours hol.at_most a more) (neighbours_given IntTy hol.at_most at_most_made a more (first IntTy a more h g) (behind IntTy a more h all))).given
  meaning_given operators.Less a more g all h fit = (all_of_given (neighbours hol.less a more) (neighbours_given IntTy hol.less less_made a more (first IntTy a more h g) (behind IntTy a more h all))).given
  meaning_given operators.AtLeast a more g all h fit = turned_given hol.at_most at_most_made a more (first IntTy a more h g) (behind IntTy a more h all)
  meaning_given operators.Greater a more g all h fit = turned_given hol.less less_made a more (first IntTy a more h g) (behind IntTy a more h all)
  meaning_given operators.Div a more g all h fit = quotient_given a more (first IntTy a more h g) fit
  meaning_given operators.Mod a more g all h fit = remainder_given a more (first IntTy a more h g) fit
