-- Which hypotheses a record has at most, and numbers of formulas and their negations.
use Rattle.std.specs.Prelude.{◌≡◌, ℕ, List, true}
use Rattle.hol_terms.specs.Term.{Term}
use Rattle.hol_terms.specs.TermStore.{TermStore, term_tree}
use Rattle.hol_terms.specs.Formula.{Within}
use Rattle.hol_terms.specs.Constants.{negation}
use Rattle.hol_formulas.specs.Constants.{IsAt}
use Rattle.hol_formulas.specs.Formulas.{HasFormula}
use Rattle.lcf_kernel.specs.KernelState.{KernelState, hyps_of, bare_of}

-- record r has no hypotheses outside the context but these, and was derived without facts
pub record IsUnder (k : KernelState) (r : ℕ) (given : List Term) : Type 0 where
  pub hyps : Within (hyps_of k r) given
  pub bare : bare_of k r ≡ true

-- both numbers are those of formulas
pub record AreFormulas (s : TermStore) (a b : ℕ) : Type 0 where
  pub left : HasFormula s a
  pub right : HasFormula s b

-- and the other two are those of their negations
pub record AreDenials (s : TermStore) (a b not_a not_b : ℕ) : Type 0 where
  pub sides : AreFormulas s a b
  pub left : IsAt s not_a (negation (term_tree s a))
  pub right : IsAt s not_b (negation (term_tree s b))
