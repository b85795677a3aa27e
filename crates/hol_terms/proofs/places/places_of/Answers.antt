use Rattle.std.proofs.Common.{◌≡◌, ◌<◌, ◌^◌, length, refl, arith, rules}
use Rattle.hol_types.proofs.ListLemmas.{all_added, item_there}
use Rattle.hol_terms.specs.Deep.{IsPlace}
use Rattle.hol_terms.specs.TermStore.{joined, term_tree}
use Rattle.hol_terms.proofs.DeepLemmas.{place_itself}
use Rattle.hol_terms.proofs.places.places_of.Goals as goal

pub loop-at-init : goal.loop-at-init
loop-at-init c =
    let s = joined c.args.base.now c.args.own.now in
    let small : c.args.t < 2 ^ 32 = omega arith in
    all_added (IsPlace s (term_tree s c.args.t)) (record { term = c.args.t; index = 0 }) _ _ c.in_ok-add_place.ensures (place_itself s c.args.t c.requires.there small) (rw c.new-places.ensures.items tt)

pub add_places-requires : goal.add_places-requires
add_places-requires c =
    let s = joined c.args.base.now c.args.own.now in
    let P = IsPlace s (term_tree s c.args.t) in
    let count : c.len.result ≡ length c.loop-at.places.items = search rules in
    let below : c.loop-at.at < length c.loop-at.places.items = omega (arith, count, c.if-at-len.false) in
    let item = item_there P c.loop-at.places.items c.loop-at.places.items refl c.loop-at.invariant c.loop-at.at c.index-part.result.now below c.index-part.ensures in
    record { lawful = c.requires.lawful; there = item.there; room = item.room }

pub loop-at-preserved : goal.loop-at-preserved
loop-at-preserved c =
    let s = joined c.args.base.now c.args.own.now in
    let P = IsPlace s (term_tree s c.args.t) in
    let count : c.len.result ≡ length c.loop-at.places.items = search rules in
    let below : c.loop-at.at < length c.loop-at.places.items = omega (arith, count, c.if-at-len.false) in
    let item = item_there P c.loop-at.places.items c.loop-at.places.items refl c.loop-at.invariant c.loop-at.at c.index-part.result.now below c.index-part.ensures in
    c.in_ok-add_places.ensures (term_tree s c.args.t) item c.loop-at.invariant
