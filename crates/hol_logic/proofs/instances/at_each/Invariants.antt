use Rattle.hol_match.specs.Inst.{inst_tree}
use Rattle.lcf_kernel.specs.KernelState.{concl_of}
use Rattle.hol_logic.proofs.InstanceLemmas.{IsInstantiated}
use Rattle.hol_logic.proofs.instances.at_each.Given as goal

abbrev pub invariant-loop-i : goal.invariant-loop-i
invariant-loop-i l = IsInstantiated l.fn.k l.k (inst_tree l.fn.k.store l.fn.k.store l.inst) (concl_of l.fn.k l.fn.said) l.fn.a l.r l.i

abbrev pub decreases-loop-i : goal.decreases-loop-i
decreases-loop-i l = l.i
