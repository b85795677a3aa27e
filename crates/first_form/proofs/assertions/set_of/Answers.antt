use Rattle.first_form.proofs.AssertionLemmas.{set_step}
use Rattle.first_form.proofs.assertions.set_of.Goals as goal

pub loop-t-preserved : goal.loop-t-preserved
loop-t-preserved c = λ t. set_step c.loop-t.set.keys _ c.args.terms.now c.loop-t.t-index c.t-item.result t c.loop-t-test.true c.t-item.is c.in_ok-insert_full.ensures.keys (c.loop-t.invariant t)
