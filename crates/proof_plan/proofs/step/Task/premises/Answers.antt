use Rattle.proof_plan.proofs.PlanLemmas.{read_hyps}
use Rattle.proof_plan.proofs.step.Task.premises.Goals as goal

pub returns-clause-hyps : goal.returns-clause-hyps
returns-clause-hyps c = read_hyps c.args.self.now.plan c.args.self.now.node c.node.result.now c.node.ensures.is c.node.ensures.node
