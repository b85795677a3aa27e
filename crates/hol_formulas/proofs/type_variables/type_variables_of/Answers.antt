use Rattle.std.proofs.Common.{arith, sym, []}
use Rattle.hol_terms.specs.TermStore.{term_tree}
use Rattle.hol_terms.specs.Substitution.{type_variables}
use Rattle.hol_formulas.specs.Formulas.{trees}
use Rattle.hol_formulas.specs.FoundTypes.{type_variables_in}
use Rattle.hol_formulas.proofs.ListLemmas.{In-from_Contains}
use Rattle.hol_formulas.proofs.TreesLemmas.{in_trees}
use Rattle.hol_formulas.proofs.TypesFoundLemmas.{adds_then, found_more, found_all, in_type_variables, from_type_variables_at, are_type_variables}
use Rattle.hol_formulas.proofs.type_variables.type_variables_of.Goals as goal

pub find_in_term-requires-clause-there : goal.find_in_term-requires-clause-there
find_in_term-requires-clause-there g c = (c.requires.each c.t-item.result (In-from_Contains c.args.ts.now c.t-item.result (c.loop-t.t-index, c.loop-t-test.true, sym c.t-item.is))).there

pub loop-t-preserved : goal.loop-t-preserved
loop-t-preserved g c =
    let s = g.S.Terms.store c.args.store.now in
    let old = c.loop-t.found.items in
    let new = c.find_in_term.new.found.items in
    let adds = c.in_ok-find_in_term.ensures.adds in
    let there = in_trees s c.t-item.result c.args.ts.now (In-from_Contains c.args.ts.now c.t-item.result (c.loop-t.t-index, c.loop-t-test.true, sym c.t-item.is)) in
    let all = type_variables_in (trees s c.args.ts.now) in
    record {
      types = c.in_ok-find_in_term.ensures.types;
      terms = c.in_ok-find_in_term.ensures.terms;
      adds = adds_then s.types [] old new all (type_variables (term_tree s c.t-item.result)) all (λ n i. i) (λ n i. in_type_variables (trees s c.args.ts.now) (term_tree s c.t-item.result) n there i) c.loop-t.invariant.adds adds;
      done = found_more s.types c.args.ts.now (λ t. type_variables (term_tree s t)) old new c.loop-t.t-index c.t-item.result c.loop-t-test.true c.t-item.is adds c.in_ok-find_in_term.ensures.finds c.loop-t.invariant.done;
    }

pub returns : goal.returns
returns g c =
    let s = g.S.Terms.store c.args.store.now in
    let all = type_variables_in (trees s c.args.ts.now) in
    are_type_variables s.types c.loop-t.found.items all c.loop-t.invariant.adds
    (found_all s.types c.args.ts.now (λ t. type_variables (term_tree s t)) c.loop-t.found.items all (λ n h. from_type_variables_at s c.args.ts.now n h) (λ k h. c.loop-t.invariant.done k (omega (arith, h, c.loop-t-test.false))))
