-- Which applications of constants are terms and formulas, and what their parts then are.
use Rattle.std.proofs.Common.{◌≡◌, ℕ, List, refl, sym, ap, ◌∙◌, ℤ, arith}
use Rattle.hol_types.specs.Ty.{Ty, BoolTy, IntTy, VarTy, FunTy, ConsTy}
use Rattle.hol_terms.specs.Term.{Term, ConstTm, AppTm, ty_of, result_ty}
use Rattle.hol_terms.specs.Formula.{IsTerm, IsFormula}
use Rattle.hol_terms.specs.IntAxiom.{IsInt, IsLiteral, IsIntAxiom, add_commutes, add_associates, add_zero, add_inverse, mul_commutes, mul_associates, mul_one, mul_distributes, sub_is, le_reflexive, le_antisymmetric, le_transitive, le_total, le_add, le_mul, lt_is, not_le_is, literals_add, literals_mul, literal_neg, literals_le, literals_not_le, div_mod, mod_range}
use Rattle.hol_terms.specs.Constants.{FunTy2, true_tm, false_tm, negation, conjunction, disjunction, implication, equation, conditional, for_all, exists, chosen, literal, number}

-- a term of the type
pub record Has (t : Term) (ty : Ty) : Type 0 where
  pub term : IsTerm t
  pub type : ty_of t ≡ ty

pub has_formula : {t : Term} → IsFormula t → Has t BoolTy
has_formula h = record { term = record { typed = h.typed; closed = h.closed }; type = h.bool }

pub formula_has : {t : Term} → Has t BoolTy → IsFormula t
formula_has h = record { typed = h.term.typed; closed = h.term.closed; bool = h.type }

pub has_own : {t : Term} → IsTerm t → Has t (ty_of t)
has_own h = record { term = h; type = refl }

-- ---- applications

pub has_const : (name : List ℕ) (ty : Ty) → Has (ConstTm name ty) ty
has_const name ty = record { term = record { typed = tt; closed = tt }; type = refl }

fits : (f a b : Ty) → f ≡ FunTy a b → f ≡ FunTy a (result_ty f)
fits f a b e = rw e refl

pub has_app : {f x : Term} {a b : Ty} → Has f (FunTy a b) → Has x a → Has (AppTm f x) b
has_app {f} {x} {a} {b} hf hx = record {
  term = record {
    typed = (hf.term.typed, hx.term.typed, rw hx.type (fits (ty_of f) a b hf.type));
    closed = (hf.term.closed, hx.term.closed);
  };
  type = ap result_ty hf.type;
}

pub has_function : {f x : Term} {b : Ty} → Has (AppTm f x) b → Has f (FunTy (ty_of x) b)
has_function {f} {x} h = record {
  term = record { typed = h.term.typed.0; closed = h.term.closed.0 };
  type = h.term.typed.2 ∙ ap (λ c. FunTy (ty_of x) c) h.type;
}

pub has_argument : {f x : Term} {b : Ty} → Has (AppTm f x) b → Has x (ty_of x)
has_argument h = record { term = record { typed = h.term.typed.1; closed = h.term.closed.1 }; type = refl }

-- what a function takes
from_ty : Ty → Ty
from_ty (FunTy a b) = a
from_ty BoolTy = BoolTy
from_ty IntTy = IntTy
from_ty (VarTy n) = VarTy n
from_ty (ConsTy n ts) = ConsTy n ts

pub same_from : {a b c d : Ty} → FunTy a b ≡ FunTy c d → a ≡ c
unfolding from_ty
same_from e = ap from_ty e

pub same_result : {a b c d : Ty} → FunTy a b ≡ FunTy c d → b ≡ d
same_result e = ap result_ty e

-- a function that is known to take one type takes an argument of that type
pub has_taken : {f x : Term} {a b c : Ty} → ty_of f ≡ FunTy a c → Has (AppTm f x) b → Has x a
has_taken {f} {x} {a} {b} {c} e h = record { term = (has_argument h).term; type = same_from (sym (has_function h).type ∙ e) }

pub has_given : {f x : Term} {a b c : Ty} → ty_of f ≡ FunTy a c → Has (AppTm f x) b → c ≡ b
has_given {f} {x} {a} {b} {c} e h = same_result (sym e ∙ (has_function h).type)

-- a constant of two arguments
pub has_two : {name : List ℕ} {x y : Term} {a b c : Ty} → Has x a → Has y b → Has (AppTm (AppTm (ConstTm name (FunTy2 a b c)) x) y) c
has_two {name} {x} {y} {a} {b} {c} hx hy = has_app (has_app (has_const name (FunTy2 a b c)) hx) hy

pub has_two_first : {name : List ℕ} {x y : Term} {a b c d : Ty} → Has (AppTm (AppTm (ConstTm name (FunTy2 a b c)) x) y) d → Has x a
has_two_first h = has_taken refl (has_function h)

pub has_two_second : {name : List ℕ} {x y : Term} {a b c d : Ty} → Has (AppTm (AppTm (ConstTm name (FunTy2 a b c)) x) y) d → Has y b
has_two_second h = has_taken refl h

-- ---- formulas

pub true_is_formula : IsFormula true_tm
true_is_formula = record { typed = tt; closed = tt; bool = refl }

pub false_is_formula : IsFormula false_tm
false_is_formula = record { typed = tt; closed = tt; bool = refl }

pub negation_is_formula : {a : Term} → IsFormula a → IsFormula (negation a)
negation_is_formula h = formula_has (has_app (has_const _ _) (has_formula h))

pub negation_part : {a : Term} → IsFormula (negation a) → IsFormula a
negation_part h = formula_has (has_taken refl (has_formula h))

pub implication_is_formula : {a b : Term} → IsFormula a → IsFormula b → IsFormula (implication a b)
implication_is_formula h k = formula_has (has_two (has_formula h) (has_formula k))

pub implication_left : {a b : Term} → IsFormula (implication a b) → IsFormula a
implication_left h = formula_has (has_two_first (has_formula h))

pub implication_right : {a b : Term} → IsFormula (implication a b) → IsFormula b
implication_right h = formula_has (has_two_second (has_formula h))

pub conjunction_is_formula : {a b : Term} → IsFormula a → IsFormula b → IsFormula (conjunction a b)
conjunction_is_formula h k = formula_has (has_two (has_formula h) (has_formula k))

pub conjunction_left : {a b : Term} → IsFormula (conjunction a b) → IsFormula a
conjunction_left h = formula_has (has_two_first (has_formula h))

pub conjunction_right : {a b : Term} → IsFormula (conjunction a b) → IsFormula b
conjunction_right h = formula_has (has_two_second (has_formula h))

pub disjunction_is_formula : {a b : Term} → IsFormula a → IsFormula b → IsFormula (disjunction a b)
disjunction_is_formula h k = formula_has (has_two (has_formula h) (has_formula k))

pub disjunction_left : {a b : Term} → IsFormula (disjunction a b) → IsFormula a
disjunction_left h = formula_has (has_two_first (has_formula h))

pub disjunction_right : {a b : Term} → IsFormula (disjunction a b) → IsFormula b
disjunction_right h = formula_has (has_two_second (has_formula h))

pub equation_is_formula : {ty : Ty} {a b : Term} → Has a ty → Has b ty → IsFormula (equation ty a b)
equation_is_formula h k = formula_has (has_two h k)

pub equation_left : {ty : Ty} {a b : Term} → IsFormula (equation ty a b) → Has a ty
equation_left h = has_two_first (has_formula h)

pub equation_right : {ty : Ty} {a b : Term} → IsFormula (equation ty a b) → Has b ty
equation_right h = has_two_second (has_formula h)

pub has_conditional : {ty : Ty} {c a b : Term} → IsFormula c → Has a ty → Has b ty → Has (conditional ty c a b) ty
has_conditional h k l = has_app (has_two (has_formula h) k) l

pub for_all_is_formula : {ty : Ty} {p : Term} → Has p (FunTy ty BoolTy) → IsFormula (for_all ty p)
for_all_is_formula h = formula_has (has_app (has_const _ _) h)

pub for_all_part : {ty : Ty} {p : Term} → IsFormula (for_all ty p) → Has p (FunTy ty BoolTy)
for_all_part h = has_taken refl (has_formula h)

pub exists_is_formula : {ty : Ty} {p : Term} → Has p (FunTy ty BoolTy) → IsFormula (exists ty p)
exists_is_formula h = formula_has (has_app (has_const _ _) h)

pub exists_part : {ty : Ty} {p : Term} → IsFormula (exists ty p) → Has p (FunTy ty BoolTy)
exists_part h = has_taken refl (has_formula h)

pub has_chosen : {ty : Ty} {p : Term} → Has p (FunTy ty BoolTy) → Has (chosen ty p) ty
has_chosen h = has_app (has_const _ _) h

-- ---- integers

pub has_int : {t : Term} → IsInt t → Has t IntTy
has_int h = record { term = h.term; type = h.int }

pub has_literal : {z : ℤ} → IsLiteral z → Has (literal z) IntTy
has_literal h = record { term = record { typed = h; closed = tt }; type = refl }

has_zero : Has (number 0) IntTy
has_zero = has_literal (omega arith, omega arith)

has_one : Has (number 1) IntTy
has_one = has_literal (omega arith, omega arith)

-- each integer axiom is a formula
pub axiom_is_formula : {row : ℕ} {args : List Term} {f : Term} → IsIntAxiom row args f → IsFormula f
axiom_is_formula (add_commutes a b) = let x = has_int a in let y = has_int b in equation_is_formula (has_two x y) (has_two y x)
axiom_is_formula (add_associates a b c) = let x = has_int a in let y = has_int b in let z = has_int c in equation_is_formula (has_two (has_two x y) z) (has_two x (has_two y z))
axiom_is_formula (add_zero a) = equation_is_formula (has_two (has_int a) has_zero) (has_int a)
axiom_is_formula (add_inverse a) = equation_is_formula (has_two (has_int a) (has_app (has_const _ _) (has_int a))) has_zero
axiom_is_formula (mul_commutes a b) = let x = has_int a in let y = has_int b in equation_is_formula (has_two x y) (has_two y x)
axiom_is_formula (mul_associates a b c) = let x = has_int a in let y = has_int b in let z = has_int c in equation_is_formula (has_two (has_two x y) z) (has_two x (has_two y z))
axiom_is_formula (mul_one a) = equation_is_formula (has_two (has_int a) has_one) (has_int a)
axiom_is_formula (mul_distributes a b c) =
    let x = has_int a in let y = has_int b in let z = has_int c in equation_is_formula (has_two x (has_two y z)) (has_two (has_two x y) (has_two x z))
axiom_is_formula (sub_is a b) = let x = has_int a in let y = has_int b in equation_is_formula (has_two x y) (has_two x (has_app (has_const _ _) y))
axiom_is_formula (le_reflexive a) = formula_has (has_two (has_int a) (has_int a))
axiom_is_formula (le_antisymmetric a b) = let x = has_int a in let y = has_int b in formula_has (has_two (has_two (has_two x y) (has_two y x)) (has_two x y))
axiom_is_formula (le_transitive a b c) =
    let x = has_int a in let y = has_int b in let z = has_int c in formula_has (has_two (has_two (has_two x y) (has_two y z)) (has_two x z))
axiom_is_formula (le_total a b) = let x = has_int a in let y = has_int b in formula_has (has_two (has_two x y) (has_two y x))
axiom_is_formula (le_add a b c) =
    let x = has_int a in let y = has_int b in let z = has_int c in formula_has (has_two (has_two x y) (has_two (has_two x z) (has_two y z)))
axiom_is_formula (le_mul a b) =
    let x = has_int a in let y = has_int b in formula_has (has_two (has_two (has_two has_zero x) (has_two has_zero y)) (has_two has_zero (has_two x y)))
axiom_is_formula (lt_is a b) = let x = has_int a in let y = has_int b in formula_has (has_two (has_two x y) (has_two (has_two x has_one) y))
axiom_is_formula (not_le_is a b) =
    let x = has_int a in let y = has_int b in formula_has (has_two (has_app (has_const _ _) (has_two x y)) (has_two (has_two y has_one) x))
axiom_is_formula (literals_add m n k) = formula_has (has_two (has_two (has_literal m) (has_literal n)) (has_literal k))
axiom_is_formula (literals_mul m n k) = formula_has (has_two (has_two (has_literal m) (has_literal n)) (has_literal k))
axiom_is_formula (literal_neg m k) = formula_has (has_two (has_app (has_const _ _) (has_literal m)) (has_literal k))
axiom_is_formula (literals_le m n le) = formula_has (has_two (has_two (has_literal m) (has_literal n)) (has_formula true_is_formula))
axiom_is_formula (literals_not_le m n lt) = formula_has (has_two (has_two (has_literal m) (has_literal n)) (has_formula false_is_formula))
axiom_is_formula (div_mod a n positive) =
    let x = has_int a in let y = has_literal n in formula_has (has_two x (has_two (has_two y (has_two x y)) (has_two x y)))
axiom_is_formula (mod_range a n positive) =
    let x = has_int a in
    let y = has_literal n in
    formula_has (has_two (has_two has_zero (has_two x y)) (has_two (has_two (has_two x y) has_one) y))
