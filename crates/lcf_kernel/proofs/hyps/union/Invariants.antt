use Rattle.std.proofs.Common.{◌+◌, ◌-◌, length}
use Rattle.lcf_kernel.proofs.MergeLemmas.{IsMerging}
use Rattle.lcf_kernel.proofs.hyps.union.Given as goal

abbrev pub invariant-merge : goal.invariant-merge
invariant-merge l = IsMerging l.a l.b l.both.items l.i l.j

abbrev pub decreases-merge : goal.decreases-merge
decreases-merge l = (length l.a - l.i) + (length l.b - l.j)
