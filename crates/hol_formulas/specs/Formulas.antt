-- Numbers of formulas in a store of terms.
use Rattle.std.specs.Prelude.{ℕ, List, map}
use Rattle.hol_types.specs.Ty.{Ty}
use Rattle.hol_terms.specs.Term.{Term, FreeTm}
use Rattle.hol_terms.specs.declared.node.FreeKind.TheVariants.{Open}
use Rattle.hol_terms.specs.Substitution.{free_variables}
use Rattle.hol_terms.specs.TermStore.{TermStore, HasTerm, term_tree}
use Rattle.hol_terms.specs.Formula.{In, IsFormula}

-- the trees of numbers
abbrev pub trees : TermStore → List ℕ → List Term
trees s ts = map (λ t. term_tree s t) ts

-- the number is that of a formula
pub record HasFormula (s : TermStore) (t : ℕ) : Type 0 where
  pub there : HasTerm s t
  pub formula : IsFormula (term_tree s t)

-- each of the numbers is that of a formula
pub record HasFormulas (s : TermStore) (ts : List ℕ) : Type 0 where
  pub each : (t : ℕ) → In t ts → HasFormula s t

-- the term has no Open variable
pub record HasNoOpen (t : Term) : Type 0 where
  pub none : (n : List ℕ) (ty : Ty) → In (FreeTm Open n ty) (free_variables t) → ⊥

-- each of the numbers is that of a formula without Open variables
pub record IsContext (s : TermStore) (context : List ℕ) : Type 0 where
  pub formulas : HasFormulas s context
  pub no_open : (t : ℕ) → In t context → HasNoOpen (term_tree s t)
