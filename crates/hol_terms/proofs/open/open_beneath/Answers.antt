use Rattle.std.proofs.Common.{◌∙◌}
use Rattle.hol_types.proofs.ListLemmas.{item_there}
use Rattle.hol_terms.specs.Deep.{IsPlace}
use Rattle.hol_terms.specs.TermStore.{term_tree}
use Rattle.hol_terms.proofs.KeepsLemmas.{keeps_trans}
use Rattle.hol_terms.proofs.open.open_beneath.Goals as goal

pub open_part-requires : goal.open_part-requires
open_part-requires g c =
    let s = g.S.Terms.store c.args.store.now in
    let P = IsPlace s (term_tree s c.args.body) in
    let item = item_there P c.in_ok-places.places.items c.as_slice-place-items.result.now c.as_slice-place-items.ensures.value c.in_ok-places.ensures c.loop-place.place-index c.place-item.result c.loop-place-test.true c.place-item.is in
    let inv = c.loop-place.invariant in
    let k = inv.keeps in
    let same_u = k.trees c.args.u c.requires.new in
    let same = k.trees c.place-item.result.term item.there in
    let fits = item.fits _ c.requires.fits in
    record { term = k.terms c.place-item.result.term item.there; new = k.terms c.args.u c.requires.new; typed = rw same_u c.requires.typed; closed = rw same_u c.requires.closed; fits = rw (same, same_u) fits; room = item.room; memo = rw same_u inv.memo }

pub loop-place-preserved : goal.loop-place-preserved
loop-place-preserved g c =
    let inv = c.loop-place.invariant in
    let k = inv.keeps in
    let now = c.in_ok-open_part.ensures in
    record { memo = rw (k.trees c.args.u c.requires.new) at now.memo; keeps = keeps_trans inv.keeps now.keeps; rest = now.rest ∙ inv.rest }

pub returns-in_err-open_part-clause-keeps : goal.returns-in_err-open_part-clause-keeps
returns-in_err-open_part-clause-keeps g c = keeps_trans c.loop-place.invariant.keeps c.in_err-open_part.ensures.keeps
