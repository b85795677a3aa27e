use Rattle.lcf_kernel.proofs.KeepLemmas.{keeps_all_trans}
use Rattle.kernel_tests.proofs.TestLemmas.{terms_still}
use Rattle.kernel_tests.proofs.script.run.Goals as goal

pub loop-line-preserved : goal.loop-line-preserved
loop-line-preserved g c = record {
  terms = terms_still _ _ c.in_ok-step.ensures.keeps _ c.loop-line.invariant.terms;
  records = c.in_ok-step.ensures.records;
  keeps = keeps_all_trans c.loop-line.invariant.keeps c.in_ok-step.ensures.keeps;
}
