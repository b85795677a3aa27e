use Rattle.std.proofs.Common.{◌+◌, ◌*◌, take}
use Rattle.hol_types.specs.TypeStore.{IsTypeStore, joined}
use Rattle.hol_types.specs.KeepsTypes.{KeepsTypes}
use Rattle.hol_types.specs.TypeSubst.{subst_tree}
use Rattle.hol_types.specs.Instance.{AreInstances, AllTypeInstances}
use Rattle.hol_types.proofs.instance.+instance.Given as goal

abbrev pub decreases-part_instance : goal.decreases-part_instance
decreases-part_instance l = 3 * l.t + 2

abbrev pub decreases-instance_node : goal.decreases-instance_node
decreases-instance_node l = 3 * l.t + 1

abbrev pub decreases-instances_in : goal.decreases-instances_in
decreases-instances_in l = 3 * l.above

abbrev pub invariant-instances_in-loop-t : goal.invariant-instances_in-loop-t
invariant-instances_in-loop-t l = record {
  lawful : IsTypeStore (joined l.base l.own);
  keeps : KeepsTypes (joined l.base l.fn.own) (joined l.base l.own);
  done : AreInstances (subst_tree (joined l.base l.fn.own) l.s) (joined l.base l.fn.own) (joined l.base l.own) (take l.t-index l.ts) l.us.items;
  memo : AllTypeInstances (joined l.base l.own) l.s l.memo;
}
