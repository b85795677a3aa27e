use Rattle.proof_plan.proofs.ContextLemmas.{opened_facts, opened_context}
use Rattle.proof_plan.proofs.plan.Plan.parts.Goals as goal

pub returns-clause-fact_formulas : goal.returns-clause-fact_formulas
returns-clause-fact_formulas c = opened_facts _ _ c.self.view_is c.self.invariant

pub returns-clause-context_formulas : goal.returns-clause-context_formulas
returns-clause-context_formulas c = opened_context _ _ c.self.view_is c.self.invariant
