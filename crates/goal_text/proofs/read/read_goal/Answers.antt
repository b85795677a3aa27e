use Rattle.std.proofs.Common.{◌∙◌, sym}
use Rattle.std.proofs.lemmas.Result.{err_from_is_err_and}
use Rattle.goal_text.specs.Items.{no_items}
use Rattle.goal_text.specs.ItemsIn.{items_in}
use Rattle.goal_text.proofs.GivenItemLemmas.{items_given, no_items_given}
use Rattle.goal_text.proofs.GoalLemmas.{goal_found, goal_without_goal, goal_without_items, goal_without_trees}
use Rattle.goal_text.proofs.ProblemLemmas.{fails_from_none, from_none}
use Rattle.goal_text.proofs.read.read_goal.Goals as goal

pub returns-in_err-forest-clause-refused : goal.returns-in_err-forest-clause-refused
returns-in_err-forest-clause-refused c =
    let p = err_from_is_err_and c.from_residual.result c.from_residual.ensures.1 in
    rw (p.1, p.2) (goal_without_trees c.args.bytes.now c.in_err-forest.field-0.0 c.in_err-forest.ensures)

pub returns-in_err-items_at-clause-refused : goal.returns-in_err-items_at-clause-refused
returns-in_err-items_at-clause-refused c =
    let p = err_from_is_err_and c.from_residual-in_err-items_at.result c.from_residual-in_err-items_at.ensures.1 in
    rw (p.1, p.2) (goal_without_items c.args.bytes.now _ c.in_ok-forest.ensures c.in_err-items_at.field-0.0 (fails_from_none (items_in c.start-items.result) c.in_ok-forest.forest c.len-end.result c.start-items.ensures.none c.len-end.ensures.len c.in_err-items_at.field-0.0 c.in_err-items_at.ensures.read))

pub finish-requires-clause-given : goal.finish-requires-clause-given
finish-requires-clause-given c =
    let made = sym (from_none (items_in c.start-items.result) c.in_ok-forest.forest c.len-end.result c.start-items.ensures.none c.len-end.ensures.len) ∙ c.in_ok-items_at.ensures.read in
    items_given no_items no_items_given _ _ made

pub returns-in_err-problem-clause-refused : goal.returns-in_err-problem-clause-refused
returns-in_err-problem-clause-refused c =
    let p = err_from_is_err_and c.from_residual-in_err-problem.result c.from_residual-in_err-problem.ensures.1 in
    let made = sym (from_none (items_in c.start-items.result) c.in_ok-forest.forest c.len-end.result c.start-items.ensures.none c.len-end.ensures.len) ∙ c.in_ok-items_at.ensures.read in
    rw (p.1, p.2) (goal_without_goal c.args.bytes.now _ c.in_ok-forest.ensures _ made c.in_err-problem.field-0.0 c.in_err-problem.ensures.read)

pub returns-clause-read : goal.returns-clause-read
returns-clause-read c =
    let made = sym (from_none (items_in c.start-items.result) c.in_ok-forest.forest c.len-end.result c.start-items.ensures.none c.len-end.ensures.len) ∙ c.in_ok-items_at.ensures.read in
    let found = c.in_ok-problem.ensures.read in
    record {
      said = found.0;
      read = goal_found c.args.bytes.now _ c.in_ok-forest.ensures _ made found.0 found.1;
      says = found.2;
    }
