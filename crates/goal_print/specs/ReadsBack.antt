-- What a printed goal is read as.
use Rattle.std.specs.Prelude.{◌≡◌, ℕ, List, ◌++◌, Some, None, Result, Ok, Err, codes}
use Rattle.sexp.specs.Tree.{Trees}
use Rattle.sexp.specs.TextTrees.{forest_of}
use Rattle.sexp.specs.declared.token.SexpFault.{SexpFault}
use Rattle.sexp.specs.declared.token.SexpFault.TheVariants.{TooDeep}
use Rattle.goal_text.specs.Items.{Items, items_of}
use Rattle.goal_text.specs.GoalRead.{GoalProblem}

-- the declarations and the facts of a problem, before its goal
abbrev pub without_goal : GoalProblem → Items
without_goal said = record { types = said.types; consts = said.consts; facts = said.facts; goal = None }

-- and with its goal
abbrev pub with_goal : GoalProblem → Items
with_goal said = record { types = said.types; consts = said.consts; facts = said.facts; goal = Some said.goal }

-- Behind the problem's declarations and facts the trees say the problem's goal. The only fault of bytes that there may be is
-- that lists are nested too deep.
abbrev pub SaysGoal : GoalProblem → Result Trees SexpFault → Type 0
SaysGoal said (Ok trees) = items_of (without_goal said) trees ≡ Ok (with_goal said)
SaysGoal said (Err fault) = (at : ℕ) × (fault ≡ TooDeep at)

-- the text, as the goal of a file, says the problem's goal
abbrev pub ReadsBack : GoalProblem → List ℕ → Type 0
ReadsBack said text = SaysGoal said (forest_of (codes "(goal " ++ text ++ codes ")"))
