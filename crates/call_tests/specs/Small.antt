-- Two nodes of which a test makes a plan.
use Rattle.std.specs.Prelude.{ℕ, [], ◌∷◌}
use Rattle.proof_plan.specs.declared.rule.Rule.TheVariants.{Asserted, UnitResolution}
use Rattle.proof_plan.specs.declared.node.PlanNode.{PlanNode}

-- `false`, asserted
abbrev pub asserted_false : ℕ → PlanNode
asserted_false f = record { name = []; place = 7; rule = Asserted; weights = []; premises = []; vars = []; claim = f; hyps = [] }

-- `false`, from that
abbrev pub resolved_false : ℕ → PlanNode
resolved_false f = record { name = []; place = 24; rule = UnitResolution; weights = []; premises = 0 ∷ []; vars = []; claim = f; hyps = [] }
