use Rattle.std.proofs.Common.{rules}
use Rattle.std.proofs.lemmas.Result.{err_from_is_err_and}
use Rattle.goal_text.specs.ItemsIn.{items_in}
use Rattle.goal_text.proofs.GoalLemmas.{items_step, items_fail, items_done}
use Rattle.goal_text.proofs.items.items_at.Goals as goal

pub returns-in_err-item_at-clause-read : goal.returns-in_err-item_at-clause-read
returns-in_err-item_at-clause-read c =
    let p = err_from_is_err_and c.from_residual.result c.from_residual.ensures.1 in
    rw (p.1, p.2) (items_fail (items_in c.loop-after.items) _ _ c.loop-after.invariant.read c.in_err-item_at.field-0.0 _ _ c.in-Some.ensures.0 c.in_err-item_at.ensures.read)

pub loop-after-preserved : goal.loop-after-preserved
loop-after-preserved c = record {
  run = search rules;
  items = c.in_ok-item_at.ensures.items;
  read = items_step (items_in c.loop-after.items) _ _ c.loop-after.invariant.read (items_in c.item_at.new.items) _ _ c.in-Some.ensures.0 c.in_ok-item_at.ensures.read;
}

pub returns-clause-read : goal.returns-clause-read
returns-clause-read c = items_done (items_in c.loop-after.items) _ _ c.loop-after.invariant.read c.in_default.ensures
