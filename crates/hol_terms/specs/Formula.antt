-- Given terms, formulas, and finite sets of formulas.
use Rattle.std.specs.Prelude.{◌≡◌, ℕ, ◌⊎◌, List, [], ◌∷◌, if◌then◌else◌}
use Rattle.hol_types.specs.Ty.{BoolTy, VarTy}
use Rattle.hol_types.specs.TypeSubst.{TypeSubst, type_for}
use Rattle.hol_terms.specs.Term.{Term, Typed, ty_of}
use Rattle.hol_terms.specs.TermEq.{term_eq}
use Rattle.hol_terms.specs.Substitution.{IsClosed, free_variables, type_variables}

-- a typed term without a loose Bound
pub record IsTerm (t : Term) : Type 0 where
  pub typed : Typed t
  pub closed : IsClosed t

-- a typed term of type Bool without a loose Bound
pub record IsFormula (t : Term) : Type 0 where
  pub typed : Typed t
  pub closed : IsClosed t
  pub bool : ty_of t ≡ BoolTy

-- The item stands in the list. A list of formulas is read as the set of those that stand in it.
abbrev pub In : {A : Type 0} → A → List A → Type 0
In t [] = ⊥
In t (u ∷ us) = (t ≡ u) ⊎ In t us

-- each member is a formula
pub record AllFormulas (G : List Term) : Type 0 where
  pub each : (t : Term) → In t G → IsFormula t

-- each member of the one is in the other
pub record Within (G H : List Term) : Type 0 where
  pub inside : (t : Term) → In t G → In t H

-- each member of the one, but for a formula, is in the other
pub record WithinBut (t : Term) (G H : List Term) : Type 0 where
  pub inside : (u : Term) → In u G → (u ≡ t → ⊥) → In u H

-- the lists have the same members
pub record SameMembers (G H : List Term) : Type 0 where
  pub to : (t : Term) → In t G → In t H
  pub from : (t : Term) → In t H → In t G

-- the set without a formula
unfoldable pub without : Term → List Term → List Term
without t [] = []
without t (u ∷ us) = if term_eq u t then without t us else (u ∷ without t us)

-- the variable isn't free in a term
abbrev pub NotFreeIn : Term → Term → Type 0
NotFreeIn v t = In v (free_variables t) → ⊥

-- the variable is free in none of the formulas
abbrev pub NotFreeInAny : Term → List Term → Type 0
NotFreeInAny v [] = Unit {0}
NotFreeInAny v (g ∷ G) = NotFreeIn v g × NotFreeInAny v G

-- the substitution changes no type variable of the formulas
abbrev pub ChangesNone : TypeSubst → List Term → Type 0
ChangesNone s [] = Unit {0}
ChangesNone s (g ∷ G) = ((n : List ℕ) → In n (type_variables g) → type_for s n ≡ VarTy n) × ChangesNone s G
