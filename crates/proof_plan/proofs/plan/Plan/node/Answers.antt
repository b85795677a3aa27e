use Rattle.proof_plan.proofs.PlanLemmas.{read_node, read_plain, read_first}
use Rattle.proof_plan.proofs.ContextLemmas.{opened_hyps}
use Rattle.proof_plan.proofs.plan.Plan.node.Goals as goal

pub returns-clause-node : goal.returns-clause-node
returns-clause-node c = read_node _ _ _ _ _ c.self.view_is c.as_slice.ensures c.self.invariant c.requires c.index-as_slice-k.is

pub returns-clause-plain : goal.returns-clause-plain
returns-clause-plain c = read_plain _ _ _ c.self.view_is c.self.invariant c.requires

pub returns-clause-hyps : goal.returns-clause-hyps
returns-clause-hyps c = opened_hyps _ _ _ c.self.view_is c.self.invariant c.requires

pub returns-clause-first : goal.returns-clause-first
returns-clause-first c = read_first _ _ _ c.self.view_is c.self.invariant c.requires
