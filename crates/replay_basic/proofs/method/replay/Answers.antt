use Rattle.std.proofs.Common.{length, subst}
use Rattle.proof_plan.specs.PlanValue.{rule_of}
use Rattle.proof_plan.specs.Rules.{TakesPremises}
use Rattle.replay_basic.proofs.StateLemmas.{premises_given}
use Rattle.replay_basic.proofs.method.replay.Goals as goal

pub by_rule-requires-clause-premises : goal.by_rule-requires-clause-premises
by_rule-requires-clause-premises c =
    let p = c.args.task.now.plan in
    let j = c.args.task.now.node in
    let own = c.premises-premises.ensures in
    premises_given p c.args.kernel.now c.args.premises.now j c.requires.premises (subst (λ ps. TakesPremises (rule_of p j) (length ps)) own.is own.count) own.hyps
