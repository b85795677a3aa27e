use Rattle.hol_types.proofs.ListLemmas.{item_there}
use Rattle.hol_terms.specs.Deep.{IsPlace}
use Rattle.hol_terms.specs.TermStore.{joined, term_tree}
use Rattle.hol_terms.proofs.fits.places_fit.Goals as goal

pub part_fits-requires : goal.part_fits-requires
part_fits-requires c =
    let s = joined c.args.base.now c.args.own.now in
    let P = IsPlace s (term_tree s c.args.body) in
    let item = item_there P c.in_ok-places.places.items c.as_slice-place-items.result.now c.as_slice-place-items.ensures.value c.in_ok-places.ensures c.loop-place.place-index c.place-item.result c.loop-place-test.true c.place-item.is in
    record { lawful = c.requires.lawful; there = item.there; ty = c.requires.ty; room = item.room; seen = c.loop-place.invariant }
