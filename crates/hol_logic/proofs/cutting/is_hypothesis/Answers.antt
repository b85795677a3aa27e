use Rattle.std.proofs.Common.{◌∙◌, ◌↔◌, subst, IsTrue}
use Rattle.hol_terms.specs.TermStore.{term_tree}
use Rattle.hol_terms.specs.Formula.{In}
use Rattle.lcf_kernel.proofs.IdLemmas.{stands-searched}
use Rattle.hol_logic.proofs.HypothesisLemmas.{hypothesis_found}
use Rattle.hol_logic.proofs.cutting.is_hypothesis.Goals as goal

pub returns : goal.returns
returns c =
    let s = c.args.k.now.store in
    let ts = c.hyps.result.now in
    let found = c.is_ok.ensures.value ∙ stands-searched _ _ _ c.binary_search.ensures.position c.hyps.ensures.are.rises in
    subst (λ hs. IsTrue c.is_ok.result ↔ In (term_tree s c.args.t) hs) c.hyps.ensures.trees
    (hypothesis_found s ts c.args.t c.is_ok.result c.concl-said.ensures.apart c.requires.there c.hyps.ensures.are.formulas found)
