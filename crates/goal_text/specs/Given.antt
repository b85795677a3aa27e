-- The types, the terms and the problems that the grammar of goal files gives.
use Rattle.std.specs.Prelude.{◌≡◌, ℕ, zero, suc, ◌+◌, ◌^◌, ◌<◌, List, [], ◌∷◌, Option, Some, None, IfSome, true, bytes_eq, pos, negsuc}
use Rattle.std.specs.Map.{lookup}
use Rattle.std.specs.List.{AllByRecursion}
use Rattle.hol_types.specs.Ty.{Ty, Tys, BoolTy, IntTy, VarTy, FunTy, ConsTy, no_types, more_types}
use Rattle.hol_terms.specs.Term.{Term, FreeTm, BoundTm, ConstTm, NumTm, AppTm, LamTm, ty_of}
use Rattle.hol_terms.specs.Constants.{true_tm, false_tm, negation, conjunction, disjunction, implication, equation, conditional, add, mul, neg, sub, at_most, less, quotient, remainder, for_all, exists}
use Rattle.goal_text.specs.Lexicon.{is_name, is_type_variable}
use Rattle.goal_text.specs.Names.{Constructors, Constants}
use Rattle.goal_text.specs.Matching.{is_ground, is_instance}
use Rattle.goal_text.specs.Items.{Items}
use Rattle.goal_text.specs.GoalRead.{GoalProblem}

-- ---- types

abbrev pub how_many : Tys → ℕ
how_many no_types = 0
how_many (more_types t ts) = how_many ts + 1

unfoldable mutual
  -- type variables are written as such, and each constructor is declared with so many arguments
  pub IsGivenType : Constructors → Ty → Type 0
  IsGivenType types BoolTy = Unit {0}
  IsGivenType types IntTy = Unit {0}
  IsGivenType types (VarTy name) = is_type_variable name ≡ true
  IsGivenType types (FunTy a b) = IsGivenType types a × IsGivenType types b
  IsGivenType types (ConsTy name ts) = (is_name name ≡ true) × (lookup (bytes_eq name) types ≡ Some (how_many ts)) × AreGivenTypes types ts

  pub AreGivenTypes : Constructors → Tys → Type 0
  AreGivenTypes types no_types = Unit {0}
  AreGivenTypes types (more_types t ts) = IsGivenType types t × AreGivenTypes types ts

-- ---- terms

-- the type of a variable, by the number of binders within its own
abbrev pub binder_at : List Ty → ℕ → Option Ty
binder_at [] index = None
binder_at (t ∷ ts) zero = Some t
binder_at (t ∷ ts) (suc index) = binder_at ts index

-- a literal from 1, whose negative is a literal too
abbrev pub IsPositive : Term → Type 0
IsPositive (NumTm (pos (suc n))) = Unit {0}
IsPositive (NumTm (pos zero)) = ⊥
IsPositive (NumTm (negsuc n)) = ⊥
IsPositive (FreeTm kind name type) = ⊥
IsPositive (BoundTm index type) = ⊥
IsPositive (ConstTm name type) = ⊥
IsPositive (AppTm f x) = ⊥
IsPositive (LamTm type body) = ⊥

-- the constant is declared; a type with type variables has the instance, and any other is the constant's own
pub record IsGivenConstant (types : Constructors) (consts : Constants) (name : List ℕ) (type : Ty) : Type 0 where
  pub named : is_name name ≡ true
  pub declared : Ty
  pub looked_up : lookup (bytes_eq name) consts ≡ Some declared
  pub own : is_ground declared ≡ true → type ≡ declared
  pub an_instance : is_instance declared type ≡ true
  pub given : IsGivenType types type

-- Terms under binders of these types, the innermost first.
pub data IsGiven (types : Constructors) (consts : Constants) : List Ty → Term → Type 0 where
  given_bound : {bs : List Ty} {i : ℕ} {t : Ty} → binder_at bs i ≡ Some t → IsGiven types consts bs (BoundTm i t)
  given_constant : {bs : List Ty} {name : List ℕ} {type : Ty} → IsGivenConstant types consts name type → IsGiven types consts bs (ConstTm name type)
  given_number : {bs : List Ty} {n : ℕ} → n < 2 ^ 127 → IsGiven types consts bs (NumTm (pos n))
  given_negative : {bs : List Ty} {n : ℕ} → suc n < 2 ^ 127 → IsGiven types consts bs (NumTm (negsuc n))
  given_true : {bs : List Ty} → IsGiven types consts bs true_tm
  given_false : {bs : List Ty} → IsGiven types consts bs false_tm
  given_not : {bs : List Ty} {a : Term} → IsGiven types consts bs a → ty_of a ≡ BoolTy → IsGiven types consts bs (negation a)
  given_and : {bs : List Ty} {a b : Term} → IsGiven types consts bs a → ty_of a ≡ BoolTy → IsGiven types consts bs b → ty_of b ≡ BoolTy → IsGiven types consts bs (conjunction a b)
  given_or : {bs : List Ty} {a b : Term} → IsGiven types consts bs a → ty_of a ≡ BoolTy → IsGiven types consts bs b → ty_of b ≡ BoolTy → IsGiven types consts bs (disjunction a b)
  given_implies : {bs : List Ty} {a b : Term} → IsGiven types consts bs a → ty_of a ≡ BoolTy → IsGiven types consts bs b → ty_of b ≡ BoolTy → IsGiven types consts bs (implication a b)
  given_equation : {bs : List Ty} {a b : Term} → IsGiven types consts bs a → IsGiven types consts bs b → ty_of b ≡ ty_of a → IsGiven types consts bs (equation (ty_of a) a b)
  given_conditional : {bs : List Ty} {c a b : Term} → IsGiven types consts bs c → ty_of c ≡ BoolTy → IsGiven types consts bs a → IsGiven types consts bs b → ty_of b ≡ ty_of a
      → IsGiven types consts bs (conditional (ty_of a) c a b)
  given_add : {bs : List Ty} {a b : Term} → IsGiven types consts bs a → ty_of a ≡ IntTy → IsGiven types consts bs b → ty_of b ≡ IntTy → IsGiven types consts bs (add a b)
  given_mul : {bs : List Ty} {a b : Term} → IsGiven types consts bs a → ty_of a ≡ IntTy → IsGiven types consts bs b → ty_of b ≡ IntTy → IsGiven types consts bs (mul a b)
  given_sub : {bs : List Ty} {a b : Term} → IsGiven types consts bs a → ty_of a ≡ IntTy → IsGiven types consts bs b → ty_of b ≡ IntTy → IsGiven types consts bs (sub a b)
  given_neg : {bs : List Ty} {a : Term} → IsGiven types consts bs a → ty_of a ≡ IntTy → (IsPositive a → ⊥) → IsGiven types consts bs (neg a)
  given_at_most : {bs : List Ty} {a b : Term} → IsGiven types consts bs a → ty_of a ≡ IntTy → IsGiven types consts bs b → ty_of b ≡ IntTy → IsGiven types consts bs (at_most a b)
  given_less : {bs : List Ty} {a b : Term} → IsGiven types consts bs a → ty_of a ≡ IntTy → IsGiven types consts bs b → ty_of b ≡ IntTy → IsGiven types consts bs (less a b)
  given_quotient : {bs : List Ty} {a : Term} {n : ℕ} → IsGiven types consts bs a → ty_of a ≡ IntTy → 0 < n → n < 2 ^ 127 → IsGiven types consts bs (quotient a (NumTm (pos n)))
  given_remainder : {bs : List Ty} {a : Term} {n : ℕ} → IsGiven types consts bs a → ty_of a ≡ IntTy → 0 < n → n < 2 ^ 127 → IsGiven types consts bs (remainder a (NumTm (pos n)))
  given_all : {bs : List Ty} {t : Ty} {b : Term} → IsGivenType types t → IsGiven types consts (t ∷ bs) b → ty_of b ≡ BoolTy → IsGiven types consts bs (for_all t (LamTm t b))
  given_ex : {bs : List Ty} {t : Ty} {b : Term} → IsGivenType types t → IsGiven types consts (t ∷ bs) b → ty_of b ≡ BoolTy → IsGiven types consts bs (exists t (LamTm t b))
  given_lambda : {bs : List Ty} {t : Ty} {b : Term} → IsGivenType types t → IsGiven types consts (t ∷ bs) b → IsGiven types consts bs (LamTm t b)
  given_application : {bs : List Ty} {f x : Term} {r : Ty} → IsGiven types consts bs f → IsGiven types consts bs x → ty_of f ≡ FunTy (ty_of x) r → IsGiven types consts bs (AppTm f x)

-- ---- problems

-- each type constructor is declared under a name, and no second time, with 0 to 8 arguments
abbrev pub AreDeclaredTypes : Constructors → Type 0
AreDeclaredTypes [] = Unit {0}
AreDeclaredTypes (c ∷ types) = (is_name c.0 ≡ true) × (lookup (bytes_eq c.0) types ≡ None) × (c.1 < 9) × AreDeclaredTypes types

-- each constant is declared under a name, and no second time, with a given type
abbrev pub AreDeclared : Constructors → Constants → Type 0
AreDeclared types [] = Unit {0}
AreDeclared types (c ∷ consts) = (is_name c.0 ≡ true) × (lookup (bytes_eq c.0) consts ≡ None) × IsGivenType types c.1 × AreDeclared types consts

-- a formula under no binders
pub record IsGivenFormula (types : Constructors) (consts : Constants) (t : Term) : Type 0 where
  pub given : IsGiven types consts [] t
  pub formula : ty_of t ≡ BoolTy

abbrev pub AreGivenFormulas : Constructors → Constants → List Term → Type 0
AreGivenFormulas types consts ts = AllByRecursion (IsGivenFormula types consts) ts

-- names are declared as the grammar has it, and facts and goal are formulas that it gives under these declarations
pub record IsGivenProblem (said : GoalProblem) : Type 0 where
  pub types : AreDeclaredTypes said.types
  pub consts : AreDeclared said.types said.consts
  pub facts : AreGivenFormulas said.types said.consts said.facts
  pub goal : IsGivenFormula said.types said.consts said.goal

-- the same of items, of which the goal may not be read yet
pub record AreGivenItems (items : Items) : Type 0 where
  pub types : AreDeclaredTypes items.types
  pub consts : AreDeclared items.types items.consts
  pub facts : AreGivenFormulas items.types items.consts items.facts
  pub goal : IfSome items.goal (IsGivenFormula items.types items.consts)
