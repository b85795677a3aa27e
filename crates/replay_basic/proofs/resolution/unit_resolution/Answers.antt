use Rattle.std.proofs.Common.{◌≡◌, sym, subst, arith, tests, inl}
use Rattle.std.proofs.lemmas.List.{take_rest}
use Rattle.lcf_kernel.specs.KernelState.{concl_of}
use Rattle.lcf_kernel.proofs.KeepLemmas.{keeps_all_trans}
use Rattle.proof_plan.specs.OpenHypotheses.{PassesHyps}
use Rattle.proof_plan.specs.PlanValue.{claim_of}
use Rattle.replay_basic.proofs.StateLemmas.{serves_keeps, under_states, always_ok, refused_by, contradiction_within, complement_among, other_claim, not_resolved}
use Rattle.replay_basic.proofs.resolution.unit_resolution.Goals as goal

pub from_false-requires-clause-serves : goal.from_false-requires-clause-serves
from_false-requires-clause-serves c = serves_keeps c.requires.serves c.first_contradiction.ensures.keeps

pub from_false-requires-in-None-clause-serves : goal.from_false-requires-in-None-clause-serves
from_false-requires-in-None-clause-serves c = serves_keeps c.requires.serves c.first_contradiction.ensures.keeps

pub returns-in-Some-clause-keeps : goal.returns-in-Some-clause-keeps
returns-in-Some-clause-keeps c = keeps_all_trans c.first_contradiction.ensures.keeps c.from_false.ensures.keeps

pub returns-in-None-clause-keeps : goal.returns-in-None-clause-keeps
returns-in-None-clause-keeps c = keeps_all_trans c.first_contradiction.ensures.keeps c.from_false-in-None.ensures.keeps

pub returns-in-Some-clause-states : goal.returns-in-Some-clause-states
returns-in-Some-clause-states c =
    let found = rw (c.in-Some.is, take_rest) at c.in_ok-falsity.ensures.found in
    let passes = subst (λ r. PassesHyps r) (sym c.requires.rule) tt in
    under_states c.args.task.now.plan _ _ c.args.task.now.node c.in-Some.falsity c.from_false.result c.from_false.ensures.states
    (contradiction_within c.args.task.now.plan _ _ c.in-Some.falsity c.args.task.now.node c.args.premises.now c.first-item.result c.requires.premises passes c.in-len1-up.len_at_least c.first-item.is found)

pub returns-in-Some-clause-accepted : goal.returns-in-Some-clause-accepted
returns-in-Some-clause-accepted c =
    let found = rw (c.in-Some.is, take_rest) at c.in_ok-falsity.ensures.found in
    always_ok c.from_false.result (inl (complement_among c.args.task.now.plan _ _ c.in-Some.falsity c.args.task.now.node c.args.premises.now c.first-item.result c.requires.premises c.in-len1-up.len_at_least c.first-item.is found))

pub returns-in-None-clause-refused : goal.returns-in-None-clause-refused
returns-in-None-clause-refused c =
    let none = simp take_rest at (rw c.in-None.is at c.in_ok-falsity.ensures.found) in
    let p = c.args.task.now.plan in
    let same : c.concl.result ≡ c.claim-claim.result → ⊥ = λ e. grind (arith, tests, c.eq.ensures, c.if-eq.false, e) in
    let apart = λ (e : concl_of c.args.kernel.now c.first-item.result ≡ claim_of p c.args.task.now.node). same (other_claim p c.args.kernel.now c.concl.result c.claim-claim.result c.first-item.result c.args.task.now.node c.requires.serves c.concl.ensures.apart c.concl.ensures.there c.concl.ensures.tree c.claim-claim.ensures.is c.claim-claim.ensures.formula e) in
    refused_by c.from_false-in-None.result c.from_false-in-None.ensures.refused
    (not_resolved p c.args.kernel.now c.first_contradiction.new.kernel c.args.task.now.node c.args.premises.now c.first-item.result c.first_contradiction.ensures.keeps c.requires.premises c.in-len1-up.len_at_least c.first-item.is none apart)
