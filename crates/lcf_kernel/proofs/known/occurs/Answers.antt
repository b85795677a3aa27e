use Rattle.std.proofs.Common.{sym, arith}
use Rattle.hol_terms.specs.TermStore.{term_tree}
use Rattle.hol_terms.proofs.OpenLemmas.{fails}
use Rattle.hol_formulas.proofs.ListLemmas.{In-from_Contains}
use Rattle.hol_formulas.proofs.OccursLemmas.{absent_more, absent_from, present_at}
use Rattle.lcf_kernel.proofs.known.occurs.Goals as goal

pub occurs_in-requires-clause-formula : goal.occurs_in-requires-clause-formula
occurs_in-requires-clause-formula c = c.requires.formulas.each c.t-item.result (In-from_Contains c.args.ts.now c.t-item.result (c.loop-t.t-index, c.loop-t-test.true, sym c.t-item.is))

pub loop-t-preserved : goal.loop-t-preserved
loop-t-preserved c =
    let s = c.args.store.now.store in
    record {
      known = c.in_ok-free.ensures.known;
      absent = absent_more s (term_tree s c.args.v) c.args.ts.now c.loop-t.t-index c.t-item.result c.loop-t-test.true c.t-item.is (fails c.in_ok-free.free c.if-free.false c.in_ok-free.ensures.is) c.loop-t.invariant.absent;
    }

pub returns-then-free-clause-present : goal.returns-then-free-clause-present
returns-then-free-clause-present c e none =
    let s = c.args.store.now.store in
    present_at s (term_tree s c.args.v) c.args.ts.now c.loop-t.t-index c.t-item.result c.loop-t-test.true c.t-item.is (c.in_ok-free.ensures.is.0 c.if-free.true) none

pub returns-clause-absent : goal.returns-clause-absent
returns-clause-absent c e =
    let s = c.args.store.now.store in
    absent_from s (term_tree s c.args.v) c.args.ts.now (λ k h. c.loop-t.invariant.absent k (omega (arith, h, c.loop-t-test.false)))
