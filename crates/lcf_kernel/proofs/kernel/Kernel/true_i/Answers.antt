use Rattle.std.proofs.Common.{refl}
use Rattle.hol_terms.proofs.DerivableLemmas.{true_i_in}
use Rattle.lcf_kernel.proofs.FollowLemmas.{from_none, recorded}
use Rattle.lcf_kernel.proofs.kernel.Kernel.true_i.Goals as goal

pub conclude-requires : goal.conclude-requires
conclude-requires c =
    let gives = c.no_hyps-hyps.ensures.gives in
    let truth = c.constants-concl.ensures.are.truth in
    recorded c.args.self.now c.no_hyps-hyps.ensures.lawful c.no_hyps-hyps.result _ c.constants-concl.result.truth _ _ _ gives truth.there truth.is refl
    (from_none (λ E. true_i_in gives.formulas))
