use Rattle.std.proofs.Common.{◌≡◌, ◌∙◌, true, false, sym, arith, tests}
use Rattle.hol_terms.proofs.KeepsLemmas.{keeps_trans, subst_kept}
use Rattle.hol_terms.proofs.OpenLemmas.{fails}
use Rattle.hol_formulas.proofs.GrowthLemmas.{formula_keeps}
use Rattle.hol_formulas.proofs.ListLemmas.{In-from_Contains}
use Rattle.hol_formulas.proofs.UnchangedLemmas.{stayed_before, stays_after, none_changed, one_changed, unchanged_more}
use Rattle.lcf_kernel.proofs.known.changes_none.Goals as goal

pub stays-requires-clause-formula : goal.stays-requires-clause-formula
stays-requires-clause-formula c = formula_keeps _ _ c.loop-t.invariant.keeps c.t-item.result (c.requires.formulas.each c.t-item.result (In-from_Contains c.args.ts.now c.t-item.result (c.loop-t.t-index, c.loop-t-test.true, sym c.t-item.is)))

pub stays-requires-clause-subst : goal.stays-requires-clause-subst
stays-requires-clause-subst c = subst_kept c.loop-t.invariant.keeps c.args.s.now c.requires.subst

pub returns-in_err-same-clause-keeps : goal.returns-in_err-same-clause-keeps
returns-in_err-same-clause-keeps c = keeps_trans c.loop-t.invariant.keeps c.stays.ensures.keeps

pub returns-then-not-same-clause-isnt : goal.returns-then-not-same-clause-isnt
returns-then-not-same-clause-isnt c e none =
    let s = c.args.store.now.store in
    let there = (c.requires.formulas.each c.t-item.result (In-from_Contains c.args.ts.now c.t-item.result (c.loop-t.t-index, c.loop-t-test.true, sym c.t-item.is))).there in
    let no : c.in_ok-same.same ≡ false = grind (arith, tests, c.if-not-same.true) in
    one_changed s c.args.s.now c.args.ts.now c.loop-t.t-index c.t-item.result c.loop-t-test.true c.t-item.is
    (λ same. fails c.in_ok-same.same no c.in_ok-same.ensures.is (stays_after c.loop-t.invariant.keeps c.args.s.now c.requires.subst c.t-item.result there same)) none

pub returns-then-not-same-clause-keeps : goal.returns-then-not-same-clause-keeps
returns-then-not-same-clause-keeps c = keeps_trans c.loop-t.invariant.keeps c.stays.ensures.keeps

pub loop-t-preserved : goal.loop-t-preserved
loop-t-preserved c =
    let s = c.args.store.now.store in
    let there = (c.requires.formulas.each c.t-item.result (In-from_Contains c.args.ts.now c.t-item.result (c.loop-t.t-index, c.loop-t-test.true, sym c.t-item.is))).there in
    let yes : c.in_ok-same.same ≡ true = grind (arith, tests, c.if-not-same.false) in
    record {
      keeps = keeps_trans c.loop-t.invariant.keeps c.stays.ensures.keeps;
      base = c.stays.ensures.base ∙ c.loop-t.invariant.base;
      known = c.stays.ensures.known;
      same = unchanged_more s c.args.s.now c.args.ts.now c.loop-t.t-index c.t-item.result c.loop-t-test.true c.t-item.is
          (stayed_before c.loop-t.invariant.keeps c.args.s.now c.requires.subst c.t-item.result there (c.in_ok-same.ensures.is.0 yes)) c.loop-t.invariant.same;
    }

pub returns-clause-is : goal.returns-clause-is
returns-clause-is c e = none_changed c.args.store.now.store c.args.s.now c.args.ts.now (λ k h. c.loop-t.invariant.same k (omega (arith, h, c.loop-t-test.false)))
