use Rattle.proof_plan.proofs.PlanLemmas.{read_asserted}
use Rattle.proof_plan.proofs.step.Task.claim.Goals as goal

pub returns-clause-in_context : goal.returns-clause-in_context
returns-clause-in_context c = read_asserted c.args.self.now.plan c.args.self.now.node c.node.result.now c.node.ensures.is c.node.ensures.node
