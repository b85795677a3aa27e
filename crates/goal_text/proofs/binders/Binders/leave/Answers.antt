use Rattle.goal_text.proofs.HidingLemmas.{left_there, left_keeps}
use Rattle.goal_text.proofs.binders.Binders.leave.Goals as goal

pub unreachable-requires : goal.unreachable-requires
unreachable-requires c = left_there c.self.inside.stack.items c.pop.new.self.items c.in-Some.bound c.self.inside.newest c.in-Some.ensures.items c.self.invariant.0 c.in-Err.ensures.absent

pub invariant_of-self : goal.invariant_of-self
invariant_of-self c = left_keeps c.self.inside.stack.items c.pop.new.self.items c.in-Some.bound c.self.inside.newest c.set.new.self c.in-Some.ensures.items c.self.invariant c.in-Ok.ensures.ok
