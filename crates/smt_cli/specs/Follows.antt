-- What status 0 says.
use Rattle.std.specs.Prelude.{◌≡◌, ◌⊎◌, ℕ, List, []}
use Rattle.hol_terms.specs.Derivable.{Derivable}
use Rattle.goal_text.specs.GoalRead.{GoalProblem, GoalRead}

-- the goal of a problem is derivable from its facts, without hypotheses
abbrev pub Follows : GoalProblem → Type 0
Follows problem = Derivable problem.facts [] problem.goal

-- the text is a goal file, and its goal is derivable from its facts, without hypotheses
abbrev pub GoalFollows : List ℕ → Type 0
GoalFollows text = (problem : GoalProblem) × GoalRead text problem × Follows problem

-- the status of a line that is printed for a problem: proved, a step failed, or the proof file is refused
abbrev pub IsProblemStatus : ℕ → Type 0
IsProblemStatus status = (status ≡ 0) ⊎ (status ≡ 1) ⊎ (status ≡ 4)

-- the status of a line: one of these, or the goal file is refused
abbrev pub IsLineStatus : ℕ → Type 0
IsLineStatus status = IsProblemStatus status ⊎ (status ≡ 3)

-- the status of a run: one of these, or a file couldn't be read, the line couldn't be written, or memory ran out
abbrev pub IsCheckStatus : ℕ → Type 0
IsCheckStatus status = IsLineStatus status ⊎ ((status ≡ 5) ⊎ (status ≡ 6) ⊎ (status ≡ 7))
