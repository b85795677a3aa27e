use Rattle.hol_types.specs.Deep.{IsTypePart}
use Rattle.hol_types.specs.TypeStore.{joined, type_tree}
use Rattle.hol_types.proofs.KeepsLemmas.{keeps_types_trans}
use Rattle.hol_types.proofs.InstanceLemmas.{has_subst_kept}
use Rattle.hol_types.proofs.ListLemmas.{item_there}
use Rattle.hol_types.proofs.instance.instances_beneath.Goals as goal

pub part_instance-requires : goal.part_instance-requires
part_instance-requires c =
    let s = joined c.args.base.now c.args.own.now in
    let P = IsTypePart s (type_tree s c.args.t) in
    let item = item_there P c.in_ok-parts.parts.items c.as_slice-part-items.result.now c.as_slice-part-items.ensures.value c.in_ok-parts.ensures c.loop-part.part-index c.part-item.result c.loop-part-test.true c.part-item.is in
    let k = c.loop-part.invariant.keeps in
    record { lawful = c.loop-part.invariant.lawful; there = k.types c.part-item.result item.there; subst = has_subst_kept _ _ k c.args.s.now c.requires.subst; memo = c.loop-part.invariant.memo }

pub returns-in_err-part_instance-clause-keeps : goal.returns-in_err-part_instance-clause-keeps
returns-in_err-part_instance-clause-keeps c = keeps_types_trans c.loop-part.invariant.keeps c.in_err-part_instance.ensures.keeps

pub loop-part-preserved : goal.loop-part-preserved
loop-part-preserved c = record {
  lawful = c.in_ok-part_instance.ensures.lawful;
  keeps = keeps_types_trans c.loop-part.invariant.keeps c.in_ok-part_instance.ensures.keeps;
  memo = c.in_ok-part_instance.ensures.memo;
}
