-- Constants without loose Bounds, no formulas, and no context.
use Rattle.std.proofs.Common.{[]}
use Rattle.hol_terms.specs.TermStore.{TermStore, term_tree}
use Rattle.hol_terms.specs.Substitution.{IsClosed}
use Rattle.hol_formulas.specs.Constants.{AreConstants}
use Rattle.hol_formulas.specs.Formulas.{HasFormulas, IsContext}
use Rattle.hol_formulas.specs.declared.formula.Constants.{Constants}

pub truth_closed : (s : TermStore) (c : Constants) → AreConstants s c → IsClosed (term_tree s c.truth)
truth_closed s c are = rw are.truth.is tt

pub falsity_closed : (s : TermStore) (c : Constants) → AreConstants s c → IsClosed (term_tree s c.falsity)
falsity_closed s c are = rw are.falsity.is tt

pub not_closed : (s : TermStore) (c : Constants) → AreConstants s c → IsClosed (term_tree s c.not)
not_closed s c are = rw are.not.is tt

pub no_formulas_there : (s : TermStore) → HasFormulas s []
no_formulas_there s = record { each = λ t h. absurd h }

pub no_context : (s : TermStore) → IsContext s []
no_context s = record { formulas = no_formulas_there s; no_open = λ t h. absurd h }
