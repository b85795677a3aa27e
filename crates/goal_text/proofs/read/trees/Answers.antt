use Rattle.goal_text.proofs.GoalLemmas.{trees_from, trees_refused}
use Rattle.goal_text.proofs.read.trees.Goals as goal

pub returns-in-Ok : goal.returns-in-Ok
returns-in-Ok c = trees_from c.args.bytes.now _ c.in-Ok.ensures.trees

pub returns-in-Err : goal.returns-in-Err
returns-in-Err c = trees_refused c.args.bytes.now c.in-Err.fault c.lexical.result c.lexical.ensures c.in-Err.ensures.trees
