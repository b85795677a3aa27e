use Rattle.std.proofs.Common.{rules}
use Rattle.first_form.proofs.ForestLemmas.{longest_is, trees_from, trees_none}
use Rattle.first_form.proofs.forest.trees.Goals as goal

pub returns-then-has_comment : goal.returns-then-has_comment
returns-then-has_comment c = trees_none c.args.bytes.now (search rules)

pub returns-in-Ok : goal.returns-in-Ok
returns-in-Ok c = trees_from _ c.args.bytes.now _ longest_is (search rules) c.in-Ok.ensures.trees

pub returns-in_default : goal.returns-in_default
returns-in_default c = trees_from _ c.args.bytes.now _ longest_is (search rules) (c.in-Err.ensures.trees c.in_default.not-Memory)
