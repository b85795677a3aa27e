use Rattle.hol_types.proofs.ListLemmas.{item_there}
use Rattle.hol_terms.specs.Deep.{IsPart}
use Rattle.hol_terms.specs.TermStore.{term_tree}
use Rattle.hol_formulas.proofs.FoundLemmas.{adds_none, adds_part, adds_both}
use Rattle.hol_formulas.proofs.variables.find_in_term.Goals as goal

pub loop-part-init : goal.loop-part-init
loop-part-init g c =
    let s = g.S.Terms.store c.args.store.now in
    record { seen = c.requires.seen; adds = adds_none s c.args.found.now.items (term_tree s c.args.t) }

pub find_in_part-requires : goal.find_in_part-requires
find_in_part-requires g c =
    let s = g.S.Terms.store c.args.store.now in
    let P = IsPart s (term_tree s c.args.t) in
    let item = item_there P c.in_ok-parts.parts.items c.as_slice-part-items.result.now c.as_slice-part-items.ensures.value c.in_ok-parts.ensures c.loop-part.part-index c.part-item.result c.loop-part-test.true c.part-item.is in
    record { term = item.there; seen = c.loop-part.invariant.seen }

pub loop-part-preserved : goal.loop-part-preserved
loop-part-preserved g c =
    let s = g.S.Terms.store c.args.store.now in
    let P = IsPart s (term_tree s c.args.t) in
    let item = item_there P c.in_ok-parts.parts.items c.as_slice-part-items.result.now c.as_slice-part-items.ensures.value c.in_ok-parts.ensures c.loop-part.part-index c.part-item.result c.loop-part-test.true c.part-item.is in
    let now = c.in_ok-find_in_part.ensures in
    record { seen = now.seen; adds = adds_both s c.args.found.now.items _ _ (term_tree s c.args.t) c.loop-part.invariant.adds (adds_part s _ _ (term_tree s c.args.t) _ item.part now.adds) }

pub returns-clause-adds : goal.returns-clause-adds
returns-clause-adds g c =
    let s = g.S.Terms.store c.args.store.now in
    adds_both s c.args.found.now.items _ _ (term_tree s c.args.t) c.loop-part.invariant.adds c.in_ok-find_in_part-2.ensures.adds
