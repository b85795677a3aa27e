use Rattle.std.proofs.Common.{refl}
use Rattle.hol_terms.proofs.QuantifierRules.{refl_in}
use Rattle.lcf_kernel.proofs.KeepLemmas.{keeps_all_trans}
use Rattle.lcf_kernel.proofs.FollowLemmas.{from_none, recorded}
use Rattle.lcf_kernel.proofs.kernel.Kernel.refl.Goals as goal

pub conclude-requires : goal.conclude-requires
conclude-requires c =
    let gives = c.no_hyps-hyps.ensures.gives in
    recorded c.equation.new.self c.no_hyps-hyps.ensures.lawful c.no_hyps-hyps.result _ c.in_ok-concl.concl _ _ _ gives c.in_ok-concl.ensures.there c.in_ok-concl.ensures.tree refl
    (from_none (λ E. refl_in c.know_term.ensures.term gives.formulas))

pub returns-in_err-r-clause-keeps : goal.returns-in_err-r-clause-keeps
returns-in_err-r-clause-keeps c = keeps_all_trans c.equation.ensures.keeps c.conclude.ensures.keeps

pub returns-clause-keeps : goal.returns-clause-keeps
returns-clause-keeps c = keeps_all_trans c.equation.ensures.keeps c.conclude.ensures.keeps
