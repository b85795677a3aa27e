-- What a plan comes to.
use Rattle.std.specs.Prelude.{[]}
use Rattle.hol_terms.specs.Derivable.{Derivable}
use Rattle.proof_plan.specs.PlanValue.{PlanValue, tree_in}
use Rattle.proof_plan.specs.Claims.{Facts}
use Rattle.goal_text.specs.Names.{Constants}
use Rattle.first_form.specs.ProofPlan.{plan_nodes_in}
use Rattle.smt_cli.specs.Answers.{Answer, ProvedGoal, replay_answer}

-- the goal is derivable from the facts, without hypotheses
abbrev pub GoalDerivable : PlanValue → Type 0
GoalDerivable p = Derivable (Facts p) [] (tree_in p p.parts.goal)

-- the answer to the rule applications of a plan, of whose goal these are the declared constants
abbrev pub plan_answer : Constants → PlanValue → Answer
plan_answer consts p = replay_answer (plan_nodes_in p) (ProvedGoal consts (tree_in p p.parts.goal))
