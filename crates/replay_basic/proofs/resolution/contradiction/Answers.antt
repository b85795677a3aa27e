use Rattle.std.proofs.Common.{inl, inr}
use Rattle.lcf_kernel.proofs.KeepLemmas.{keeps_all_trans}
use Rattle.replay_basic.proofs.StateLemmas.{states_false, states_false_after, negation_before}
use Rattle.replay_basic.proofs.resolution.contradiction.Goals as goal

pub returns-in-Ok-clause-found : goal.returns-in-Ok-clause-found
returns-in-Ok-clause-found c = (inl c.in-Ok.ensures.ok, states_false _ _ c.in-Ok.t c.args.a c.args.b c.not_e.ensures.keeps c.in-Ok.ensures.there c.in-Ok.ensures.concl c.in-Ok.ensures.hyps)

pub returns-in-Ok-not_e-clause-found : goal.returns-in-Ok-not_e-clause-found
returns-in-Ok-not_e-clause-found c =
    let g = c.not_e.ensures.keeps in
    let e = negation_before _ _ c.args.a c.args.b g c.requires.left c.requires.right c.in-Ok-not_e.ensures.ok in
    (inr e, states_false_after _ _ _ c.in-Ok-not_e.t c.args.a c.args.b g c.not_e-2.ensures.keeps c.requires.left c.requires.right c.in-Ok-not_e.ensures.there c.in-Ok-not_e.ensures.concl c.in-Ok-not_e.ensures.hyps)

pub returns-in-Ok-not_e-clause-keeps : goal.returns-in-Ok-not_e-clause-keeps
returns-in-Ok-not_e-clause-keeps c = keeps_all_trans c.not_e.ensures.keeps c.not_e-2.ensures.keeps
