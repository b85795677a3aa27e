use Rattle.hol_types.proofs.ListLemmas.{item_there}
use Rattle.hol_terms.specs.Deep.{IsPart}
use Rattle.hol_terms.specs.TermStore.{term_tree}
use Rattle.hol_terms.proofs.DeepLemmas.{free_in_part}
use Rattle.hol_terms.proofs.free_in.parts_have.Goals as goal

pub part_has-requires : goal.part_has-requires
part_has-requires g c =
    let s = g.S.Terms.store c.args.store.now in
    let P = IsPart s (term_tree s c.args.t) in
    let item = item_there P c.in_ok-parts.parts.items c.as_slice-part-items.result.now c.as_slice-part-items.ensures.value c.in_ok-parts.ensures c.loop-part.part-index c.part-item.result c.loop-part-test.true c.part-item.is in
    record { variable = c.requires.variable; term = item.there; seen = c.loop-part.invariant }

pub returns-then-has-clause-free : goal.returns-then-has-clause-free
returns-then-has-clause-free g c =
    let s = g.S.Terms.store c.args.store.now in
    let P = IsPart s (term_tree s c.args.t) in
    let item = item_there P c.in_ok-parts.parts.items c.as_slice-part-items.result.now c.as_slice-part-items.ensures.value c.in_ok-parts.ensures c.loop-part.part-index c.part-item.result c.loop-part-test.true c.part-item.is in
    λ _. free_in_part _ (term_tree s c.args.t) _ item.part (c.in_ok-has.ensures.free.0 c.if-has.true)
