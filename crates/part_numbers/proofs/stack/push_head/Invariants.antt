use Rattle.part_numbers.specs.Walk.{IsPassed}
use Rattle.part_numbers.proofs.stack.push_head.Given as goal

abbrev pub invariant-loop-f : goal.invariant-loop-f
invariant-loop-f g l = IsPassed (g.S.Terms.store l.fn.store) l.fn.t l.fn.stack.items l.stack.items l.head

abbrev pub decreases-loop-f : goal.decreases-loop-f
decreases-loop-f g l = l.head
