use Rattle.lcf_kernel.specs.KernelState.{KeepsAll}
use Rattle.hol_logic.proofs.fresh.fresh.Given as goal

abbrev pub invariant-loop : goal.invariant-loop
invariant-loop l = KeepsAll l.fn.k l.k
