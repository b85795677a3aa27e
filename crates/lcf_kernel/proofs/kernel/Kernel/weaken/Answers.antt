use Rattle.std.proofs.Common.{refl}
use Rattle.hol_terms.proofs.DerivableLemmas.{weaken_in}
use Rattle.lcf_kernel.proofs.FollowLemmas.{from_one, under_more, premise, recorded}
use Rattle.lcf_kernel.proofs.kernel.Kernel.weaken.Goals as goal

pub conclude-requires : goal.conclude-requires
conclude-requires c =
    let k = c.args.self.now in
    let lawful = c.in_ok-hyps.ensures.lawful in
    let gives = c.in_ok-hyps.ensures.gives in
    recorded k lawful c.in_ok-hyps.hyps _ c.concl-concl.result _ _ _ gives c.concl-concl.ensures.there c.concl-concl.ensures.tree c.is_bare-bare.ensures
    (from_one (λ E d. weaken_in gives.formulas (under_more c.in_ok-hyps.ensures.outside) d) (premise k lawful c.args.a c.requires.thm _ refl))

pub returns-clause-hyps : goal.returns-clause-hyps
returns-clause-hyps c = rw c.in_ok-r.ensures.hyps c.in_ok-hyps.ensures.outside
