-- What a run of `check` comes to, by the bytes of its files.
use Rattle.std.specs.Prelude.{◌≡◌, ℕ, List, Option, Some, true, false}
use Rattle.goal_text.specs.declared.fault.GoalFault.{GoalFault}
use Rattle.goal_text.specs.GoalRead.{FirstFault, GoalProblem, GoalRead}
use Rattle.smt_cli.specs.Answers.{GoalRefused, GoalUnbuilt, problem_answer}
use Rattle.smt_cli.specs.Follows.{IsCheckStatus}
use Rattle.smt_cli.specs.Unbuilt.{is_unbuilt}
use Rattle.smt_cli.specs.Writing.{Ends}

-- the text says the problem, and it is one that is taken
pub record IsTaken (text : List ℕ) (problem : GoalProblem) : Type 0 where
  pub read : GoalRead text problem
  pub built : is_unbuilt problem.facts problem.goal ≡ false

-- of the bytes of the goal file and of the proof file, where they are told, and of what was written before and after
pub record Checks (goal proof before after : Option (List ℕ)) (result : ℕ) : Type 0 where
  pub status : IsCheckStatus result
  -- the goal file has a fault: the first is told
  pub refused : (g : List ℕ) (fault : GoalFault) → goal ≡ Some g → FirstFault g fault → Ends (GoalRefused fault) before after result
  -- the goal file says a problem that isn't taken yet
  pub unbuilt : (g : List ℕ) (p : GoalProblem) → goal ≡ Some g → GoalRead g p → is_unbuilt p.facts p.goal ≡ true → Ends GoalUnbuilt before after result
  -- only then it is refused
  pub taken : (g : List ℕ) (p : GoalProblem) → goal ≡ Some g → IsTaken g p → result ≡ 3 → ⊥
  -- its problem is taken: the answer is that to the proof file
  pub answered : (g : List ℕ) (p : GoalProblem) (h : List ℕ) → goal ≡ Some g → IsTaken g p → proof ≡ Some h
      → Ends (problem_answer p h) before after result

-- a goal file with these bytes, where they are told, says a problem that is taken
abbrev pub IsNotRefused : Option (List ℕ) → Type 0
IsNotRefused goal = (g : List ℕ) → goal ≡ Some g → (p : GoalProblem) × IsTaken g p
