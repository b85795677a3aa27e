use Rattle.goal_text.proofs.HidingLemmas.{none_bound}
use Rattle.goal_text.proofs.binders.Binders.new.Goals as goal

pub invariant_of-result : goal.invariant_of-result
invariant_of-result c = none_bound c.new.result.items c.new-2.result c.new.ensures.items c.new-2.ensures
