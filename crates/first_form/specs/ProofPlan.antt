-- What the plan of a proof stands for.
use Rattle.std.specs.Prelude.{◌≡◌, ℕ, ◌-◌, List, [], ◌∷◌, ◌++◌, length, slice_index_or}
use Rattle.hol_terms.specs.Term.{Term}
use Rattle.hol_terms.specs.Constants.{negation}
use Rattle.proof_plan.specs.declared.node.PlanNode.{PlanNode}
use Rattle.proof_plan.specs.PlanValue.{PlanValue, no_node, tree_in}
use Rattle.proof_plan.specs.Claims.{Assertions, Facts}
use Rattle.first_form.specs.ProofNodes.{ProofNode}
use Rattle.first_form.specs.Steps.{nodes_in}

-- the rule applications of a plan, their conclusions as trees
abbrev pub plan_nodes_in : PlanValue → List ProofNode
plan_nodes_in plan = nodes_in plan.store plan.nodes

-- the number of the last node's conclusion
abbrev pub last_claim : List PlanNode → ℕ
last_claim nodes = (slice_index_or nodes (length nodes - 1) no_node).claim

-- the plan is about the facts and the goal, and has no symbols that stand for terms
pub record IsAbout (facts : List Term) (goal : Term) (plan : PlanValue) : Type 0 where
  pub facts_are : Facts plan ≡ facts
  pub goal_is : tree_in plan plan.parts.goal ≡ goal
  pub assertions : Assertions plan ≡ facts ++ negation goal ∷ []
  pub definitions : plan.definitions ≡ []
  pub symbols : plan.parts.defs ≡ []
