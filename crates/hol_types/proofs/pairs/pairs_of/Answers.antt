use Rattle.std.proofs.Common.{◌<◌, length, refl, arith}
use Rattle.hol_types.specs.TypeStore.{joined, type_tree}
use Rattle.hol_types.specs.Pairs.{IsPair}
use Rattle.hol_types.proofs.ListLemmas.{all_added, item_there}
use Rattle.hol_types.proofs.PairLemmas.{pair_itself}
use Rattle.hol_types.proofs.pairs.pairs_of.Goals as goal

pub loop-at-init : goal.loop-at-init
loop-at-init c =
    let s = joined c.args.base.now c.args.own.now in
    all_added (IsPair s (type_tree s c.args.pattern) (type_tree s c.args.t)) _ _ _ c.in_ok-add_pair.ensures (pair_itself s (type_tree s c.args.pattern) (type_tree s c.args.t) c.args.pattern c.args.t c.requires.pattern c.requires.there) (rw c.new-pairs.ensures.items tt)

pub add_sides-requires : goal.add_sides-requires
add_sides-requires c =
    let s = joined c.args.base.now c.args.own.now in
    let below : c.loop-at.at < length c.loop-at.pairs.items = omega (arith, c.len.ensures, c.if-at-len.false, c.loop-at.pairs.ok) in
    let item = item_there (IsPair s (type_tree s c.args.pattern) (type_tree s c.args.t)) c.loop-at.pairs.items c.loop-at.pairs.items refl c.loop-at.invariant c.loop-at.at c.index-pair.result.now below c.index-pair.ensures in
    record { lawful = c.requires.lawful; part = item.part; there = item.there }

pub loop-at-preserved : goal.loop-at-preserved
loop-at-preserved c =
    let s = joined c.args.base.now c.args.own.now in
    let below : c.loop-at.at < length c.loop-at.pairs.items = omega (arith, c.len.ensures, c.if-at-len.false, c.loop-at.pairs.ok) in
    let item = item_there (IsPair s (type_tree s c.args.pattern) (type_tree s c.args.t)) c.loop-at.pairs.items c.loop-at.pairs.items refl c.loop-at.invariant c.loop-at.at c.index-pair.result.now below c.index-pair.ensures in
    c.in_ok-add_sides.ensures (type_tree s c.args.pattern) (type_tree s c.args.t) item c.loop-at.invariant
