use Rattle.std.proofs.Common.{arith, sym}
use Rattle.hol_terms.specs.TermStore.{term_tree}
use Rattle.hol_formulas.specs.Formulas.{trees}
use Rattle.hol_formulas.proofs.ListLemmas.{In-from_Contains}
use Rattle.hol_formulas.proofs.TreesLemmas.{in_trees}
use Rattle.hol_formulas.proofs.FoundLemmas.{among_more, variables_found, found_more}
use Rattle.hol_formulas.proofs.variables.variables_of.Goals as goal

pub find_in_term-requires-clause-term : goal.find_in_term-requires-clause-term
find_in_term-requires-clause-term g c = (c.requires.each c.t-item.result (In-from_Contains c.args.ts.now c.t-item.result (c.loop-t.t-index, c.loop-t-test.true, sym c.t-item.is))).there

pub loop-t-preserved : goal.loop-t-preserved
loop-t-preserved g c =
    let s = g.S.Terms.store c.args.store.now in
    let old = c.loop-t.found.items in
    let new = c.find_in_term.new.found.items in
    let adds = c.in_ok-find_in_term.ensures.adds in
    let there = in_trees s c.t-item.result c.args.ts.now (In-from_Contains c.args.ts.now c.t-item.result (c.loop-t.t-index, c.loop-t-test.true, sym c.t-item.is)) in
    record {
      seen = c.in_ok-find_in_term.ensures.seen;
      among = among_more s (trees s c.args.ts.now) old new (term_tree s c.t-item.result) there c.loop-t.invariant.among adds;
      done = found_more s c.args.ts.now old new c.loop-t.t-index c.t-item.result c.loop-t-test.true c.t-item.is adds c.in_ok-find_in_term.ensures.finds c.loop-t.invariant.done;
    }

pub returns : goal.returns
returns g c =
    let s = g.S.Terms.store c.args.store.now in
    variables_found s c.args.ts.now c.loop-t.found.items c.loop-t.invariant.among (λ k h. c.loop-t.invariant.done k (omega (arith, h, c.loop-t-test.false)))
