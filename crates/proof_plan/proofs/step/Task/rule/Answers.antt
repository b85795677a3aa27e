use Rattle.proof_plan.proofs.PlanLemmas.{read_row}
use Rattle.proof_plan.proofs.step.Task.rule.Goals as goal

pub returns-clause-row : goal.returns-clause-row
returns-clause-row c = read_row c.args.self.now.plan c.args.self.now.node c.node.result.now c.node.ensures.is c.node.ensures.node
