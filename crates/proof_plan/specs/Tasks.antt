-- A node of a plan.
use Rattle.std.specs.Prelude.{ℕ}
use Rattle.proof_plan.specs.PlanValue.{PlanValue}

pub record TaskValue : Type 0 where
  pub plan : PlanValue
  pub node : ℕ
