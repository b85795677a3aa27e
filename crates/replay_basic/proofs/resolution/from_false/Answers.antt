use Rattle.std.proofs.Common.{◌∙◌, ap}
use Rattle.proof_plan.specs.PlanValue.{tree_in}
use Rattle.replay_basic.proofs.StateLemmas.{same_within}
use Rattle.replay_basic.proofs.resolution.from_false.Goals as goal

pub returns-in-Ok-clause-states : goal.returns-in-Ok-clause-states
returns-in-Ok-clause-states c = record {
  there = c.in-Ok.ensures.there;
  claim = c.in-Ok.ensures.concl ∙ c.requires.serves.terms.trees c.claim.result c.claim.ensures.formula.there ∙ ap (λ t. tree_in c.args.task.now.plan t) c.claim.ensures.is;
  hyps = λ K w. same_within c.args.kernel.now c.false_e.new.self c.in-Ok.t c.args.falsity K c.false_e.ensures.keeps.records.context_trees c.in-Ok.ensures.hyps w;
}
