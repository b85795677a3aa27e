use Rattle.hol_types.specs.TypeStore.{IsTypeStore, joined}
use Rattle.hol_types.specs.KeepsTypes.{KeepsTypes}
use Rattle.hol_types.specs.Instance.{AllTypeInstances}
use Rattle.hol_types.proofs.instance.instances_beneath.Given as goal

abbrev pub invariant-loop-part : goal.invariant-loop-part
invariant-loop-part l = record {
  lawful : IsTypeStore (joined l.base l.own);
  keeps : KeepsTypes (joined l.base l.fn.own) (joined l.base l.own);
  memo : AllTypeInstances (joined l.base l.own) l.s l.memo;
}
