use Rattle.std.proofs.Common.{◌≡◌, sym, subst, arith, length, tests, ◌<◌}
use Rattle.hol_terms.specs.Formula.{Within}
use Rattle.lcf_kernel.specs.KernelState.{all_hyps_of}
use Rattle.proof_plan.specs.OpenHypotheses.{PassesHyps}
use Rattle.proof_plan.specs.Claims.{Hyps}
use Rattle.replay_basic.proofs.StateLemmas.{serves_keeps, union_within, claim_stated, item_is}
use Rattle.replay_basic.proofs.implication.modus_ponens.Goals as goal

pub returns-then-eq-clause-states : goal.returns-then-eq-clause-states
returns-then-eq-clause-states c =
    let p = c.args.task.now.plan in
    let j = c.args.task.now.node in
    let k = c.args.kernel.now in
    let ts = c.args.premises.now in
    let passes = subst (λ r. PassesHyps r) (sym c.requires.rule) tt in
    let zero_in : 0 < length ts = omega arith in
    let one_in : 1 < length ts = omega arith in
    let same : c.concl.result ≡ c.claim-claim.result = grind (arith, tests, c.eq.ensures, c.if-eq.true) in
    let left = subst (λ t. Within (all_hyps_of k t) (Hyps p j)) (item_is ts 0 _ zero_in c.index-premises-0.is) (c.requires.premises.hyps passes 0 zero_in) in
    let right = subst (λ t. Within (all_hyps_of k t) (Hyps p j)) (item_is ts 1 _ one_in c.index-premises-1.is) (c.requires.premises.hyps passes 1 one_in) in
    record {
      there = c.in-Ok.ensures.there;
      claim = claim_stated p c.imp_e.new.self c.in-Ok.t c.concl.result c.claim-claim.result j (serves_keeps c.requires.serves c.imp_e.ensures.keeps) c.concl.ensures.tree same c.claim-claim.ensures.is c.claim-claim.ensures.formula;
      hyps = union_within k c.imp_e.new.self c.in-Ok.t c.index-premises-1.result c.index-premises-0.result (Hyps p j) c.imp_e.ensures.keeps.records.context_trees c.in-Ok.ensures.hyps right left;
    }
