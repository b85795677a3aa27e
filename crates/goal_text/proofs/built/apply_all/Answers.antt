use Rattle.std.proofs.Common.{◌∙◌, sym, ap}
use Rattle.goal_text.specs.Terms as terms
use Rattle.std.proofs.lemmas.Result.{err_from_is_err_and}
use Rattle.hol_terms.specs.TermStore.{term_tree}
use Rattle.hol_terms.proofs.KeepsLemmas.{keeps_trans}
use Rattle.goal_text.proofs.BuiltLemmas.{apply_done, apply_fails, apply_next}
use Rattle.goal_text.proofs.OperationLemmas.{part_there, terms_end}
use Rattle.goal_text.proofs.built.apply_all.Goals as goal

pub apply_at-requires-clause-argument : goal.apply_at-requires-clause-argument
apply_at-requires-clause-argument c = part_there c.args.base.now c.loop-x.base c.args.xs.now c.loop-x.x-index c.x-item.result c.loop-x.invariant.keeps c.requires.arguments c.loop-x-test.true c.x-item.is

pub returns-in_err-t-clause-read : goal.returns-in_err-t-clause-read
returns-in_err-t-clause-read c =
    let p = err_from_is_err_and c.from_residual.result c.from_residual.ensures.1 in
    let inv = c.loop-x.invariant in
    rw (p.1, p.2) (apply_fails c.args.base.now c.loop-x.base inv.keeps c.args.at c.args.f c.requires.function c.args.xs.now c.requires.arguments _ c.loop-x.t c.loop-x.x-index c.x-item.result c.loop-x-test.true c.x-item.is inv.read c.in_err-t.field-0.0 c.in_err-t.ensures.read)

pub loop-x-preserved : goal.loop-x-preserved
loop-x-preserved c =
    let inv = c.loop-x.invariant in
    record {
      there = c.in_ok-t.ensures.there;
      keeps = keeps_trans inv.keeps c.in_ok-t.ensures.keeps;
      read = apply_next c.args.base.now c.loop-x.base inv.keeps c.args.at c.args.f c.requires.function c.args.xs.now c.requires.arguments _ c.loop-x.t c.loop-x.x-index c.x-item.result c.loop-x-test.true c.x-item.is inv.read _ c.in_ok-t.ensures.read;
    }

pub returns-clause-read : goal.returns-clause-read
returns-clause-read c =
    let inv = c.loop-x.invariant in
    let t = term_tree c.loop-x.base c.loop-x.t in
    sym inv.read ∙ ap (terms.apply_all c.args.at t) (terms_end c.args.base.now c.args.xs.now c.loop-x.x-index c.loop-x-test.false) ∙ apply_done c.args.at t
