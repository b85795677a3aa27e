-- The integer axioms. Source: the integers as a discretely ordered commutative ring, with quotient and
-- remainder by a positive number.
use Rattle.std.specs.Prelude.{◌≡◌, ℕ, ℤ, pos, ◌+ℤ◌, ◌*ℤ◌, ◌≤ℤ◌, ◌<ℤ◌, List, [], ◌∷◌}
use Rattle.std.specs.Prelude.{neg_ℤ}
use Rattle.hol_types.specs.Ty.{BoolTy, IntTy}
use Rattle.hol_terms.specs.Term.{Term, Typed, ty_of}
use Rattle.hol_terms.specs.Formula.{IsTerm}
use Rattle.hol_terms.specs.Constants.{true_tm, false_tm, negation, conjunction, disjunction, implication, equation, literal, number, add, mul, neg, sub, quotient, remainder, at_most, less}

-- a term of type Int
pub record IsInt (t : Term) : Type 0 where
  pub term : IsTerm t
  pub int : ty_of t ≡ IntTy

-- a number that is below 2^127 in absolute value
abbrev pub IsLiteral : ℤ → Type 0
IsLiteral z = Typed (literal z)

-- equations of integers, and of formulas
abbrev pub int_equation : Term → Term → Term
int_equation a b = equation IntTy a b

abbrev pub bool_equation : Term → Term → Term
bool_equation a b = equation BoolTy a b

-- The formula is the row of that number at these arguments. Here a, b, c are Int terms, m and n literals.
pub data IsIntAxiom : ℕ → List Term → Term → Type 0 where
  add_commutes : {a b : Term} → IsInt a → IsInt b → IsIntAxiom 0 (a ∷ b ∷ []) (int_equation (add a b) (add b a))
  add_associates : {a b c : Term} → IsInt a → IsInt b → IsInt c → IsIntAxiom 1 (a ∷ b ∷ c ∷ []) (int_equation (add (add a b) c) (add a (add b c)))
  add_zero : {a : Term} → IsInt a → IsIntAxiom 2 (a ∷ []) (int_equation (add a (number 0)) a)
  add_inverse : {a : Term} → IsInt a → IsIntAxiom 3 (a ∷ []) (int_equation (add a (neg a)) (number 0))
  mul_commutes : {a b : Term} → IsInt a → IsInt b → IsIntAxiom 4 (a ∷ b ∷ []) (int_equation (mul a b) (mul b a))
  mul_associates : {a b c : Term} → IsInt a → IsInt b → IsInt c → IsIntAxiom 5 (a ∷ b ∷ c ∷ []) (int_equation (mul (mul a b) c) (mul a (mul b c)))
  mul_one : {a : Term} → IsInt a → IsIntAxiom 6 (a ∷ []) (int_equation (mul a (number 1)) a)
  mul_distributes : {a b c : Term} → IsInt a → IsInt b → IsInt c → IsIntAxiom 7 (a ∷ b ∷ c ∷ []) (int_equation (mul a (add b c)) (add (mul a b) (mul a c)))
  sub_is : {a b : Term} → IsInt a → IsInt b → IsIntAxiom 8 (a ∷ b ∷ []) (int_equation (sub a b) (add a (neg b)))
  le_reflexive : {a : Term} → IsInt a → IsIntAxiom 9 (a ∷ []) (at_most a a)
  le_antisymmetric : {a b : Term} → IsInt a → IsInt b → IsIntAxiom 10 (a ∷ b ∷ []) (implication (conjunction (at_most a b) (at_most b a)) (int_equation a b))
  le_transitive : {a b c : Term} → IsInt a → IsInt b → IsInt c → IsIntAxiom 11 (a ∷ b ∷ c ∷ []) (implication (conjunction (at_most a b) (at_most b c)) (at_most a c))
  le_total : {a b : Term} → IsInt a → IsInt b → IsIntAxiom 12 (a ∷ b ∷ []) (disjunction (at_most a b) (at_most b a))
  le_add : {a b c : Term} → IsInt a → IsInt b → IsInt c → IsIntAxiom 13 (a ∷ b ∷ c ∷ []) (implication (at_most a b) (at_most (add a c) (add b c)))
  le_mul : {a b : Term} → IsInt a → IsInt b → IsIntAxiom 14 (a ∷ b ∷ []) (implication (conjunction (at_most (number 0) a) (at_most (number 0) b)) (at_most (number 0) (mul a b)))
  lt_is : {a b : Term} → IsInt a → IsInt b → IsIntAxiom 15 (a ∷ b ∷ []) (bool_equation (less a b) (at_most (add a (number 1)) b))
  not_le_is : {a b : Term} → IsInt a → IsInt b → IsIntAxiom 16 (a ∷ b ∷ []) (bool_equation (negation (at_most a b)) (at_most (add b (number 1)) a))
  literals_add : {m n : ℤ} → IsLiteral m → IsLiteral n → IsLiteral (m +ℤ n) → IsIntAxiom 17 (literal m ∷ literal n ∷ []) (int_equation (add (literal m) (literal n)) (literal (m +ℤ n)))
  literals_mul : {m n : ℤ} → IsLiteral m → IsLiteral n → IsLiteral (m *ℤ n) → IsIntAxiom 18 (literal m ∷ literal n ∷ []) (int_equation (mul (literal m) (literal n)) (literal (m *ℤ n)))
  literal_neg : {m : ℤ} → IsLiteral m → IsLiteral (neg_ℤ m) → IsIntAxiom 19 (literal m ∷ []) (int_equation (neg (literal m)) (literal (neg_ℤ m)))
  literals_le : {m n : ℤ} → IsLiteral m → IsLiteral n → m ≤ℤ n → IsIntAxiom 20 (literal m ∷ literal n ∷ []) (bool_equation (at_most (literal m) (literal n)) true_tm)
  literals_not_le : {m n : ℤ} → IsLiteral m → IsLiteral n → n <ℤ m → IsIntAxiom 20 (literal m ∷ literal n ∷ []) (bool_equation (at_most (literal m) (literal n)) false_tm)
  div_mod : {a : Term} {n : ℤ} → IsInt a → IsLiteral n → pos 1 ≤ℤ n → IsIntAxiom 21 (a ∷ literal n ∷ []) (int_equation a (add (mul (literal n) (quotient a (literal n))) (remainder a (literal n))))
  mod_range : {a : Term} {n : ℤ} → IsInt a → IsLiteral n → pos 1 ≤ℤ n → IsIntAxiom 22 (a ∷ literal n ∷ []) (conjunction (at_most (number 0) (remainder a (literal n))) (at_most (add (remainder a (literal n)) (number 1)) (literal n)))
