use Rattle.std.specs.Prelude.{length}
use Rattle.part_numbers.specs.Walk.{IsWalk, ahead}
use Rattle.part_numbers.proofs.parts.add_parts.Given as goal

abbrev pub invariant-loop-next : goal.invariant-loop-next
invariant-loop-next g l = IsWalk (g.S.Terms.store l.fn.store) l.fn.parts.keys l.fn.t l.parts.keys l.stack.items

abbrev pub decreases-loop-next : goal.decreases-loop-next
decreases-loop-next g l = length (ahead (g.S.Terms.store l.fn.store) l.stack.items)
