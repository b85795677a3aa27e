use Rattle.hol_types.proofs.ListLemmas.{item_there}
use Rattle.hol_types.specs.Deep.{IsTypePart}
use Rattle.hol_types.specs.TypeStore.{type_tree}
use Rattle.hol_types.specs.TypeSubst.{variables_of}
use Rattle.hol_formulas.proofs.PartLemmas.{variables_in_part}
use Rattle.hol_formulas.proofs.TypesFoundLemmas.{adds_none, adds_then}
use Rattle.hol_formulas.proofs.type_variables.find_beneath.Goals as goal

pub loop-part-init : goal.loop-part-init
loop-part-init g c =
    let s = (g.S.Terms.store c.args.store.now).types in
    record { seen = c.requires.seen; adds = adds_none s c.args.found.now.items (variables_of (type_tree s c.args.t)) }

pub find_in_type-requires : goal.find_in_type-requires
find_in_type-requires g c =
    let s = (g.S.Terms.store c.args.store.now).types in
    let P = IsTypePart s (type_tree s c.args.t) in
    let item = item_there P c.in_ok-parts.parts.items c.as_slice-part-items.result.now c.as_slice-part-items.ensures.value c.in_ok-parts.ensures c.loop-part.part-index c.part-item.result c.loop-part-test.true c.part-item.is in
    record { there = item.there; seen = c.loop-part.invariant.seen }

pub loop-part-preserved : goal.loop-part-preserved
loop-part-preserved g c =
    let s = (g.S.Terms.store c.args.store.now).types in
    let P = IsTypePart s (type_tree s c.args.t) in
    let item = item_there P c.in_ok-parts.parts.items c.as_slice-part-items.result.now c.as_slice-part-items.ensures.value c.in_ok-parts.ensures c.loop-part.part-index c.part-item.result c.loop-part-test.true c.part-item.is in
    let now = c.in_ok-find_in_type.ensures in
    let all = variables_of (type_tree s c.args.t) in
    record {
      seen = now.seen;
      adds = adds_then s c.args.found.now.items _ _ all (variables_of (type_tree s c.part-item.result)) all (λ n i. i) (λ n i. variables_in_part n (type_tree s c.args.t) _ item.part i) c.loop-part.invariant.adds now.adds;
    }

pub returns-then-contains-clause-adds : goal.returns-then-contains-clause-adds
returns-then-contains-clause-adds g c =
    let s = (g.S.Terms.store c.args.store.now).types in
    adds_none s c.args.found.now.items (variables_of (type_tree s c.args.t))
