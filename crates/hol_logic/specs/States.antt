-- What a record states.
use Rattle.std.specs.Prelude.{◌≡◌, ℕ, List, Bool}
use Rattle.hol_terms.specs.Term.{Term, ty_of}
use Rattle.hol_terms.specs.TermStore.{HasTerm, term_tree}
use Rattle.hol_terms.specs.Formula.{IsFormula, SameMembers}
use Rattle.hol_terms.specs.Constants.{equation}
use Rattle.lcf_kernel.specs.KernelState.{KernelState, HasThm, concl_of, hyps_of, bare_of}
use Rattle.hol_formulas.specs.declared.formula.Sides.{Sides}
use Rattle.hol_logic.specs.DerivedForms.{IsEquation}

-- record r concludes the formula under these hypotheses outside the context, and was derived without facts where the flag says so
pub record States (k : KernelState) (r : ℕ) (formula : Term) (given : List Term) (is_bare : Bool) : Type 0 where
  pub there : HasThm k r
  pub concl : concl_of k r ≡ formula
  pub hyps : SameMembers (hyps_of k r) given
  pub bare : bare_of k r ≡ is_bare

-- record a concludes the equation of the terms with these numbers
pub record Equates (k : KernelState) (a : ℕ) (p : Sides) : Type 0 where
  pub there : HasThm k a
  pub left : HasTerm k.store p.left
  pub right : HasTerm k.store p.right
  pub concl : concl_of k a ≡ equation (ty_of (term_tree k.store p.left)) (term_tree k.store p.left) (term_tree k.store p.right)
  pub formula : IsFormula (concl_of k a)

-- record a concludes an equation
pub record Equal (k : KernelState) (a : ℕ) : Type 0 where
  pub there : HasThm k a
  pub equation : IsEquation (concl_of k a)
