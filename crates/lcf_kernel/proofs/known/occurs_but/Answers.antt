use Rattle.std.proofs.Common.{sym, arith}
use Rattle.hol_terms.specs.TermStore.{term_tree}
use Rattle.hol_formulas.proofs.ListLemmas.{In-from_Contains}
use Rattle.hol_formulas.proofs.OccursLemmas.{absent_but, absent_but_more, present_but}
use Rattle.lcf_kernel.proofs.known.occurs_but.Goals as goal

pub occurs_in_other-requires-clause-formula : goal.occurs_in_other-requires-clause-formula
occurs_in_other-requires-clause-formula c = c.requires.formulas.each c.t-item.result (In-from_Contains c.args.ts.now c.t-item.result (c.loop-t.t-index, c.loop-t-test.true, sym c.t-item.is))

pub loop-t-preserved : goal.loop-t-preserved
loop-t-preserved c =
    let s = c.args.store.now.store in
    record {
      known = c.in_ok-free.ensures.known;
      absent = absent_but_more s (term_tree s c.args.v) (term_tree s c.args.but) c.args.ts.now c.loop-t.t-index c.t-item.result c.loop-t-test.true c.t-item.is (c.in_ok-free.ensures.absent c.if-free.false) c.loop-t.invariant.absent;
    }

pub returns-then-free-clause-present : goal.returns-then-free-clause-present
returns-then-free-clause-present c e none =
    let s = c.args.store.now.store in
    present_but s (term_tree s c.args.v) (term_tree s c.args.but) c.args.ts.now c.loop-t.t-index c.t-item.result c.loop-t-test.true c.t-item.is (c.in_ok-free.ensures.other c.if-free.true) (c.in_ok-free.ensures.present c.if-free.true) none

pub returns-clause-absent : goal.returns-clause-absent
returns-clause-absent c e =
    let s = c.args.store.now.store in
    absent_but s (term_tree s c.args.v) (term_tree s c.args.but) c.args.ts.now (λ k h. c.loop-t.invariant.absent k (omega (arith, h, c.loop-t-test.false)))
