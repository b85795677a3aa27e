-- Small cases of the definitions, by computation. Expected values are worked out by hand.
use Rattle.std.proofs.Common.{◌≡◌, ℕ, ◌^◌, ◌-◌, List, [], ◌∷◌, refl, inl, true, false, codes, pos, negsuc, arith}
use Rattle.hol_types.specs.Ty.{Ty, BoolTy, IntTy, VarTy, FunTy, ConsTy, no_types, more_types}
use Rattle.hol_types.specs.TyEq.{ty_eq, tys_eq}
use Rattle.hol_types.specs.TypeSubst.{TypeSubst, instance_of}
use Rattle.hol_terms.specs.Term.{Term, FreeTm, BoundTm, ConstTm, AppTm, LamTm, Typed, ty_of}
use Rattle.hol_terms.specs.TermEq.{kind_eq, term_eq}
use Rattle.hol_terms.specs.Substitution.{subst_free, subst_bound, close_free, subst_types, free_variables, type_variables}
use Rattle.hol_terms.specs.Formula.{IsTerm, IsFormula, NotFreeInAny, ChangesNone, without}
use Rattle.hol_terms.specs.declared.node.FreeKind.TheVariants.{Open, Symbol}
use Rattle.hol_terms.specs.Constants.{true_tm, false_tm, negation, conjunction, disjunction, implication, equation, conditional, for_all, exists, chosen, number, literal, add, mul, neg, sub, quotient, remainder, at_most, less}
use Rattle.hol_terms.specs.IntAxiom.{IsInt, IsLiteral, IsIntAxiom, int_equation, bool_equation, add_commutes, literals_add, literals_le, literals_not_le, lt_is, div_mod}
use Rattle.hol_terms.specs.Derivable.{Derivable, by_assume, by_fact, by_weaken, by_imp_i, by_imp_e, by_and_i, by_not_e, by_false_e, by_classical, by_all_i, by_all_e, by_ex_i, by_ex_e, by_refl, by_subst, by_ext, by_iff_i, by_beta, by_choice, by_int_axiom}
use Rattle.hol_terms.proofs.SetLemmas.{same_refl}

-- ---- what the cases speak of

abbrev p : Term
p = ConstTm (codes "p") BoolTy

abbrev q : Term
q = ConstTm (codes "q") BoolTy

-- integer variables, one of another kind, and a predicate on the integers
abbrev x : Term
x = FreeTm Open (codes "x") IntTy

abbrev y : Term
y = FreeTm Open (codes "y") IntTy

abbrev x_symbol : Term
x_symbol = FreeTm Symbol (codes "x") IntTy

abbrev even : Term → Term
even t = AppTm (ConstTm (codes "even") (FunTy IntTy BoolTy)) t

-- a type variable, and Int for it
abbrev a_ty : Ty
a_ty = VarTy (codes "a")

abbrev int_for_a : TypeSubst
int_for_a = (codes "a", IntTy) ∷ []

abbrev x_a : Term
x_a = FreeTm Open (codes "x") a_ty

p_is_formula : IsFormula p
p_is_formula = record { typed = tt; closed = tt; bool = refl }

q_is_formula : IsFormula q
q_is_formula = record { typed = tt; closed = tt; bool = refl }

p_implies_q : IsFormula (implication p q)
p_implies_q = record { typed = ((tt, tt, refl), tt, refl); closed = ((tt, tt), tt); bool = refl }

x_is_term : IsTerm x
x_is_term = record { typed = tt; closed = tt }

x_is_int : IsInt x
x_is_int = record { term = x_is_term; int = refl }

y_is_int : IsInt y
y_is_int = record { term = record { typed = tt; closed = tt }; int = refl }

-- ---- equality

equal_types : ty_eq (ConsTy (codes "set") (more_types IntTy no_types)) (ConsTy (codes "set") (more_types IntTy no_types)) ≡ true
unfolding ty_eq tys_eq
equal_types = refl

types_with_other_arguments : ty_eq (ConsTy (codes "set") (more_types IntTy no_types)) (ConsTy (codes "set") (more_types BoolTy no_types)) ≡ false
unfolding ty_eq tys_eq
types_with_other_arguments = refl

variables_of_another_kind : term_eq x x_symbol ≡ false
unfolding term_eq kind_eq
variables_of_another_kind = refl

variables_of_another_type : term_eq x x_a ≡ false
unfolding term_eq kind_eq ty_eq
variables_of_another_type = refl

-- ---- substitution

-- x + y with y for x
variable_replaced : subst_free x y (add x y) ≡ add y y
unfolding term_eq kind_eq ty_eq
variable_replaced = refl

-- the variable of another type stays
other_type_kept : subst_free x y (even x_a) ≡ even x_a
unfolding term_eq kind_eq ty_eq
other_type_kept = refl

-- under a lambda the Bound of the outer binder has the index 1
body_opened : subst_bound (LamTm BoolTy (add (BoundTm 1 IntTy) x)) 0 y ≡ LamTm BoolTy (add y x)
body_opened = refl

inner_bound_kept : subst_bound (LamTm IntTy (add (BoundTm 0 IntTy) (BoundTm 1 IntTy))) 0 y ≡ LamTm IntTy (add (BoundTm 0 IntTy) y)
inner_bound_kept = refl

variable_closed : close_free (LamTm BoolTy (add x y)) 0 x ≡ LamTm BoolTy (add (BoundTm 1 IntTy) y)
unfolding term_eq kind_eq ty_eq
variable_closed = refl

closed_and_opened : subst_bound (close_free (even x) 0 x) 0 x ≡ even x
unfolding term_eq kind_eq ty_eq
closed_and_opened = refl

types_replaced : subst_types int_for_a (LamTm a_ty (equation a_ty (BoundTm 0 a_ty) x_a)) ≡ LamTm IntTy (equation IntTy (BoundTm 0 IntTy) x)
types_replaced = refl

-- a type variable that isn't in the list stays, and of one name the first counts
first_counts : instance_of ((codes "a", IntTy) ∷ (codes "a", BoolTy) ∷ []) (FunTy a_ty (VarTy (codes "b"))) ≡ FunTy IntTy (VarTy (codes "b"))
first_counts = refl

free_ones : free_variables (AppTm (LamTm IntTy (add (BoundTm 0 IntTy) x)) y) ≡ x ∷ y ∷ []
free_ones = refl

type_variables_met : type_variables (AppTm (LamTm a_ty (BoundTm 0 a_ty)) x_a) ≡ codes "a" ∷ codes "a" ∷ codes "a" ∷ []
type_variables_met = refl

-- ---- sets

one_left : without p (p ∷ q ∷ p ∷ []) ≡ q ∷ []
unfolding without term_eq ty_eq
one_left = refl

nothing_to_drop : without p (q ∷ []) ≡ q ∷ []
unfolding without term_eq ty_eq
nothing_to_drop = refl

-- ---- types of the constants

equation_type : (t : Ty) (a b : Term) → ty_of (equation t a b) ≡ BoolTy
equation_type t a b = refl

conditional_type : (t : Ty) (c a b : Term) → ty_of (conditional t c a b) ≡ t
conditional_type t c a b = refl

connective_types : (a b : Term) → ty_of (negation a) ∷ ty_of (conjunction a b) ∷ ty_of (disjunction a b) ∷ ty_of (implication a b) ∷ [] ≡ BoolTy ∷ BoolTy ∷ BoolTy ∷ BoolTy ∷ []
connective_types a b = refl

order_types : (a b : Term) → ty_of (at_most a b) ∷ ty_of (less a b) ∷ [] ≡ BoolTy ∷ BoolTy ∷ []
order_types a b = refl

integer_types : (a b : Term) → ty_of (add a b) ∷ ty_of (mul a b) ∷ ty_of (neg a) ∷ ty_of (sub a b) ∷ ty_of (quotient a b) ∷ ty_of (remainder a b) ∷ [] ≡ IntTy ∷ IntTy ∷ IntTy ∷ IntTy ∷ IntTy ∷ IntTy ∷ []
integer_types a b = refl

quantifier_types : (t : Ty) (r : Term) → ty_of (for_all t r) ∷ ty_of (exists t r) ∷ ty_of (chosen t r) ∷ [] ≡ BoolTy ∷ BoolTy ∷ t ∷ []
quantifier_types t r = refl

-- `not` of a number isn't typed, and 2^127 is no literal
not_of_a_number : Typed (negation (number 1)) → ⊥
not_of_a_number h = absurd (bool_isnt_int h.2)
  where
    bool_isnt_int : FunTy BoolTy BoolTy ≡ FunTy IntTy BoolTy → ⊥
    bool_isnt_int e = cc

number_too_large : IsLiteral (pos (2 ^ 127)) → ⊥
number_too_large h = omega arith

least_literal : IsLiteral (negsuc (2 ^ 127 - 2))
least_literal = (omega arith, omega arith)

-- ---- rules

imp_i_discharges : Derivable [] [] (implication p p)
unfolding without term_eq ty_eq
imp_i_discharges = by_imp_i p_is_formula (by_assume p_is_formula)

modus_ponens : (facts : List Term) → Derivable facts (implication p q ∷ p ∷ []) q
modus_ponens facts = by_imp_e (by_assume p_implies_q) (by_assume p_is_formula)

weakened : Derivable [] (q ∷ p ∷ []) p
weakened = by_weaken q_is_formula (by_assume p_is_formula) (same_refl (q ∷ p ∷ []))

fact_at_int : Derivable (equation a_ty x_a x_a ∷ []) [] (equation IntTy x x)
fact_at_int = by_fact int_for_a (equation a_ty x_a x_a) (inl refl)

-- from not p and p everything, so p is classical
contradiction : Derivable [] (negation p ∷ p ∷ []) false_tm
contradiction = by_not_e (by_assume (record { typed = (tt, tt, refl); closed = (tt, tt); bool = refl })) (by_assume p_is_formula)

anything : Derivable [] (negation p ∷ p ∷ []) q
anything = by_false_e q_is_formula contradiction

classical_p : Derivable [] (p ∷ []) p
unfolding without term_eq ty_eq
classical_p = by_classical p_is_formula contradiction

both : Derivable [] (p ∷ q ∷ []) (conjunction p q)
both = by_and_i (by_assume p_is_formula) (by_assume q_is_formula)

-- all x. x = x, and from it 1 = 1
all_equal : Derivable [] [] (for_all IntTy (LamTm IntTy (equation IntTy (BoundTm 0 IntTy) (BoundTm 0 IntTy))))
unfolding term_eq kind_eq ty_eq
all_equal = by_all_i x tt tt (by_refl x_is_term)

one_is_term : IsTerm (number 1)
one_is_term = record { typed = (omega arith, omega arith); closed = tt }

one_equals_one : Derivable [] [] (equation IntTy (number 1) (number 1))
one_equals_one = by_all_e one_is_term refl all_equal

-- (\x. x + y) 1 = 1 + y
reduced : IsTerm (AppTm (LamTm IntTy (add (BoundTm 0 IntTy) y)) (number 1)) → Derivable [] [] (equation IntTy (AppTm (LamTm IntTy (add (BoundTm 0 IntTy) y)) (number 1)) (add (number 1) y))
reduced is = by_beta is

iff_itself : Derivable [] [] (equation BoolTy p p)
unfolding without term_eq ty_eq
iff_itself = by_iff_i (by_assume p_is_formula) (by_assume p_is_formula)

-- from x = y and even x, even y
rewritten : IsTerm (LamTm IntTy (even (BoundTm 0 IntTy))) → IsFormula (equation IntTy x y) → IsFormula (even x) → Derivable [] (equation IntTy x y ∷ even x ∷ []) (even y)
rewritten is equal is_even = by_subst is (by_assume equal) (by_assume is_even)

some_even : Term
some_even = exists IntTy (LamTm IntTy (even (BoundTm 0 IntTy)))

witnessed : (facts : List Term) → IsFormula some_even → Derivable facts [] (even (number 2)) → Derivable facts [] some_even
unfolding some_even
witnessed facts is d = by_ex_i two refl is d
  where
    two : IsTerm (number 2)
    two = record { typed = (omega arith, omega arith); closed = tt }

-- what follows from even x follows from an even number
from_witness : (facts : List Term) → IsFormula (even x) → Derivable facts [] some_even → Derivable facts (even x ∷ []) p → Derivable facts [] p
unfolding some_even without term_eq kind_eq ty_eq
from_witness facts is d e = by_ex_e x tt refl (λ h. h) (λ h. h) tt d e

-- functions that agree on x are equal
extensional : (facts : List Term) (f g : List ℕ) → Derivable facts [] (equation IntTy (AppTm (ConstTm f (FunTy IntTy IntTy)) x) (AppTm (ConstTm g (FunTy IntTy IntTy)) x)) → Derivable facts [] (equation (FunTy IntTy IntTy) (ConstTm f (FunTy IntTy IntTy)) (ConstTm g (FunTy IntTy IntTy)))
extensional facts f g d = by_ext x tt (λ h. h) (λ h. h) tt d

-- ---- conditions that fail

-- x is free in even x, so it can't be generalised under that hypothesis
hypothesis_speaks_of_x : NotFreeInAny x (even x ∷ []) → ⊥
hypothesis_speaks_of_x h = h.0 (inl refl)

-- Int for 'a changes a hypothesis in which 'a stands
hypothesis_changes : ChangesNone int_for_a (equation a_ty x_a x_a ∷ []) → ⊥
hypothesis_changes h = int_isnt_a (h.0 (codes "a") (inl refl))
  where
    int_isnt_a : IntTy ≡ a_ty → ⊥
    int_isnt_a e = cc

-- true at the type Int is another constant, and no formula
other_true : IsFormula (ConstTm (codes "true") IntTy) → ⊥
other_true h = int_isnt_bool h.bool
  where
    int_isnt_bool : IntTy ≡ BoolTy → ⊥
    int_isnt_bool e = cc

-- ---- a witness by choice

chosen_witness : (facts : List Term) → Derivable facts [] (exists IntTy (LamTm IntTy (even (BoundTm 0 IntTy)))) → Derivable facts [] (even (chosen IntTy (LamTm IntTy (even (BoundTm 0 IntTy)))))
chosen_witness facts d = by_choice d

-- ---- integer axioms

commuted : IsIntAxiom 0 (x ∷ y ∷ []) (int_equation (add x y) (add y x))
commuted = add_commutes x_is_int y_is_int

sum_of_literals : IsIntAxiom 17 (literal (pos 2) ∷ literal (negsuc 4) ∷ []) (int_equation (add (literal (pos 2)) (literal (negsuc 4))) (literal (negsuc 2)))
sum_of_literals = literals_add (omega arith, omega arith) (omega arith, omega arith) (omega arith, omega arith)

literal_order : IsIntAxiom 20 (number 2 ∷ number 3 ∷ []) (bool_equation (at_most (number 2) (number 3)) true_tm)
literal_order = literals_le (omega arith, omega arith) (omega arith, omega arith) (omega arith)

literal_order_fails : IsIntAxiom 20 (number 3 ∷ number 2 ∷ []) (bool_equation (at_most (number 3) (number 2)) false_tm)
literal_order_fails = literals_not_le (omega arith, omega arith) (omega arith, omega arith) (omega arith)

divided : IsIntAxiom 21 (x ∷ number 7 ∷ []) (int_equation x (add (mul (number 7) (quotient x (number 7))) (remainder x (number 7))))
divided = div_mod x_is_int (omega arith, omega arith) (omega arith)

strictly_less : Derivable [] [] (equation BoolTy (less x y) (at_most (add x (number 1)) y))
strictly_less = by_int_axiom (lt_is x_is_int y_is_int)
