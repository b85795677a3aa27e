-- The text of a problem's goal.
use Rattle.std.specs.Prelude.{ℕ, List}
use Rattle.hol_terms.specs.TermStore.{term_tree}
use Rattle.goal_text.specs.declared.problem.Problem.{Problem}
use Rattle.goal_text.specs.ItemsIn.{declared_in}
use Rattle.goal_print.specs.TermText.{goal_text}

-- its goal, under its constants
abbrev pub printed : Problem → List ℕ
printed problem = goal_text (declared_in problem.base problem.consts) (term_tree problem.base problem.goal)
