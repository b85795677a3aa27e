use Rattle.std.proofs.Common.{◌≡◌, ◌∙◌, true, false, sym, arith, tests}
use Rattle.hol_terms.proofs.KeepsLemmas.{keeps_trans, subst_kept}
use Rattle.hol_terms.proofs.OpenLemmas.{fails}
use Rattle.hol_formulas.proofs.ListLemmas.{In-from_Contains}
use Rattle.hol_formulas.proofs.UnchangedTypes.{type_stayed_before, type_stays_after, all_left, one_not_left, left_more}
use Rattle.hol_formulas.proofs.unchanged.leaves_each.Goals as goal

pub type_stays-requires-clause-there : goal.type_stays-requires-clause-there
type_stays-requires-clause-there g c = c.loop-t.invariant.keeps.types c.t-item.result (c.requires.there c.t-item.result (In-from_Contains c.args.ts.now c.t-item.result (c.loop-t.t-index, c.loop-t-test.true, sym c.t-item.is)))

pub type_stays-requires-clause-subst : goal.type_stays-requires-clause-subst
type_stays-requires-clause-subst g c = subst_kept c.loop-t.invariant.keeps c.args.s.now c.requires.subst

pub returns-in_err-same-clause-keeps : goal.returns-in_err-same-clause-keeps
returns-in_err-same-clause-keeps g c = keeps_trans c.loop-t.invariant.keeps c.type_stays.ensures.keeps

pub returns-then-not-same-clause-isnt : goal.returns-then-not-same-clause-isnt
returns-then-not-same-clause-isnt g c e names are leaves =
    let s = g.S.Terms.store c.args.store.now in
    let there = c.requires.there c.t-item.result (In-from_Contains c.args.ts.now c.t-item.result (c.loop-t.t-index, c.loop-t-test.true, sym c.t-item.is)) in
    let no : c.in_ok-same.same ≡ false = grind (arith, tests, c.if-not-same.true) in
    one_not_left s.types c.args.s.now c.args.ts.now c.loop-t.t-index c.t-item.result c.loop-t-test.true c.t-item.is
    (λ same. fails c.in_ok-same.same no c.in_ok-same.ensures.is (type_stays_after c.loop-t.invariant.keeps c.args.s.now c.requires.subst c.t-item.result there same)) names are leaves

pub returns-then-not-same-clause-keeps : goal.returns-then-not-same-clause-keeps
returns-then-not-same-clause-keeps g c = keeps_trans c.loop-t.invariant.keeps c.type_stays.ensures.keeps

pub loop-t-preserved : goal.loop-t-preserved
loop-t-preserved g c =
    let s = g.S.Terms.store c.args.store.now in
    let there = c.requires.there c.t-item.result (In-from_Contains c.args.ts.now c.t-item.result (c.loop-t.t-index, c.loop-t-test.true, sym c.t-item.is)) in
    let yes : c.in_ok-same.same ≡ true = grind (arith, tests, c.if-not-same.false) in
    record {
      keeps = keeps_trans c.loop-t.invariant.keeps c.type_stays.ensures.keeps;
      rest = c.type_stays.ensures.rest ∙ c.loop-t.invariant.rest;
      same = left_more s.types c.args.s.now c.args.ts.now c.loop-t.t-index c.t-item.result c.loop-t-test.true c.t-item.is
          (type_stayed_before c.loop-t.invariant.keeps c.args.s.now c.requires.subst c.t-item.result there (c.in_ok-same.ensures.is.0 yes)) c.loop-t.invariant.same;
    }

pub returns-clause-is : goal.returns-clause-is
returns-clause-is g c e names are = all_left (g.S.Terms.store c.args.store.now).types c.args.s.now c.args.ts.now (λ k h. c.loop-t.invariant.same k (omega (arith, h, c.loop-t-test.false))) names are
