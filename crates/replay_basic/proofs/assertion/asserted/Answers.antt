use Rattle.std.proofs.Common.{◌∙◌, subst, sym, ap}
use Rattle.hol_terms.specs.Formula.{In}
use Rattle.proof_plan.specs.PlanValue.{tree_in}
use Rattle.proof_plan.specs.Claims.{Context}
use Rattle.replay_basic.proofs.StateLemmas.{assumed_within}
use Rattle.replay_basic.proofs.assertion.asserted.Goals as goal

pub returns-in-Ok-clause-states : goal.returns-in-Ok-clause-states
returns-in-Ok-clause-states c =
    let p = c.args.task.now.plan in
    let serves = c.requires.serves in
    let same = serves.terms.trees c.claim.result c.claim.ensures.formula.there in
    record {
      there = c.in-Ok.ensures.there;
      claim = c.in-Ok.ensures.concl ∙ same ∙ ap (λ t. tree_in p t) c.claim.ensures.is;
      hyps = assumed_within p c.args.kernel.now c.assume.new.self c.in-Ok.t _ c.args.task.now.node serves c.assume.ensures.keeps.records.context_trees c.in-Ok.ensures.hyps
          (subst (λ u. In u (Context p)) (sym (same ∙ ap (λ t. tree_in p t) c.claim.ensures.is)) (c.claim.ensures.in_context c.requires.asserted));
    }
