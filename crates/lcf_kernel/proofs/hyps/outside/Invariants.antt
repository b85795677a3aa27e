use Rattle.std.proofs.Common.{◌≡◌, filter, not, take}
use Rattle.lcf_kernel.specs.Hyps.{stands}
use Rattle.lcf_kernel.proofs.hyps.outside.Given as goal

abbrev pub invariant-loop-t : goal.invariant-loop-t
invariant-loop-t l = l.kept.items ≡ filter (λ u. not (stands u l.context)) (take l.t-index l.a)
