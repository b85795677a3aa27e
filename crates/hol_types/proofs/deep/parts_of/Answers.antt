use Rattle.std.proofs.Common.{◌≡◌, ◌<◌, length, refl, arith, rules}
use Rattle.hol_types.proofs.ListLemmas.{all_added, item_there}
use Rattle.hol_types.specs.Deep.{IsTypePart}
use Rattle.hol_types.specs.TypeStore.{joined, type_tree}
use Rattle.hol_types.proofs.DeepLemmas.{part_itself}
use Rattle.hol_types.proofs.deep.parts_of.Goals as goal

pub loop-at-init : goal.loop-at-init
loop-at-init c =
    let s = joined c.args.base.now c.args.own.now in
    all_added (IsTypePart s (type_tree s c.args.t)) c.args.t _ _ c.in_ok-add_part.ensures (part_itself s c.args.t c.requires.there) (rw c.new-parts.ensures.items tt)

pub add_beneath-requires : goal.add_beneath-requires
add_beneath-requires c =
    let s = joined c.args.base.now c.args.own.now in
    let P = IsTypePart s (type_tree s c.args.t) in
    let count : c.len.result ≡ length c.loop-at.parts.items = search rules in
    let below : c.loop-at.at < length c.loop-at.parts.items = omega (arith, count, c.if-at-len.false) in
    let item = item_there P c.loop-at.parts.items c.loop-at.parts.items refl c.loop-at.invariant c.loop-at.at c.index-part.result.now below c.index-part.ensures in
    record { lawful = c.requires.lawful; there = item.there }

pub loop-at-preserved : goal.loop-at-preserved
loop-at-preserved c =
    let s = joined c.args.base.now c.args.own.now in
    let P = IsTypePart s (type_tree s c.args.t) in
    let count : c.len.result ≡ length c.loop-at.parts.items = search rules in
    let below : c.loop-at.at < length c.loop-at.parts.items = omega (arith, count, c.if-at-len.false) in
    let item = item_there P c.loop-at.parts.items c.loop-at.parts.items refl c.loop-at.invariant c.loop-at.at c.index-part.result.now below c.index-part.ensures in
    c.in_ok-add_beneath.ensures (type_tree s c.args.t) item c.loop-at.invariant
