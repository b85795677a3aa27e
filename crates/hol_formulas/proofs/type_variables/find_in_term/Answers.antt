use Rattle.hol_types.proofs.ListLemmas.{item_there}
use Rattle.hol_terms.specs.Deep.{IsPart}
use Rattle.hol_terms.specs.Substitution.{type_variables}
use Rattle.hol_terms.specs.TermStore.{term_tree}
use Rattle.hol_formulas.proofs.PartLemmas.{type_variables_in_part}
use Rattle.hol_formulas.proofs.TypesFoundLemmas.{adds_none, adds_then}
use Rattle.hol_formulas.proofs.type_variables.find_in_term.Goals as goal

pub loop-part-init : goal.loop-part-init
loop-part-init g c =
    let s = g.S.Terms.store c.args.store.now in
    record { types = c.requires.types; terms = c.requires.terms; adds = adds_none s.types c.args.found.now.items (type_variables (term_tree s c.args.t)) }

pub find_in_part-requires : goal.find_in_part-requires
find_in_part-requires g c =
    let s = g.S.Terms.store c.args.store.now in
    let P = IsPart s (term_tree s c.args.t) in
    let item = item_there P c.in_ok-parts.parts.items c.as_slice-part-items.result.now c.as_slice-part-items.ensures.value c.in_ok-parts.ensures c.loop-part.part-index c.part-item.result c.loop-part-test.true c.part-item.is in
    record { there = item.there; types = c.loop-part.invariant.types; terms = c.loop-part.invariant.terms }

pub loop-part-preserved : goal.loop-part-preserved
loop-part-preserved g c =
    let s = g.S.Terms.store c.args.store.now in
    let P = IsPart s (term_tree s c.args.t) in
    let item = item_there P c.in_ok-parts.parts.items c.as_slice-part-items.result.now c.as_slice-part-items.ensures.value c.in_ok-parts.ensures c.loop-part.part-index c.part-item.result c.loop-part-test.true c.part-item.is in
    let now = c.in_ok-find_in_part.ensures in
    let all = type_variables (term_tree s c.args.t) in
    record {
      types = now.types;
      terms = now.terms;
      adds = adds_then s.types c.args.found.now.items _ _ all (type_variables (term_tree s c.part-item.result)) all (λ n i. i) (λ n i. type_variables_in_part n (term_tree s c.args.t) _ item.part i) c.loop-part.invariant.adds now.adds;
    }

pub returns-clause-adds : goal.returns-clause-adds
returns-clause-adds g c =
    let s = g.S.Terms.store c.args.store.now in
    let all = type_variables (term_tree s c.args.t) in
    adds_then s.types c.args.found.now.items _ _ all all all (λ n i. i) (λ n i. i) c.loop-part.invariant.adds c.in_ok-find_in_part-2.ensures.adds
