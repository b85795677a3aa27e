use Rattle.hol_match.specs.Inst.{inst_tree}
use Rattle.hol_logic.proofs.InstanceLemmas.{IsGeneralised}
use Rattle.hol_logic.proofs.instances.over_each.Given as goal

abbrev pub invariant-loop-i : goal.invariant-loop-i
invariant-loop-i l = IsGeneralised l.fn.k l.k (inst_tree l.fn.k.store l.fn.k.store l.inst) l.fn.a l.r l.i
