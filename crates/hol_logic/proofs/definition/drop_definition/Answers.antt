use Rattle.lcf_kernel.proofs.KeepLemmas.{keeps_all_trans}
use Rattle.hol_logic.proofs.StateLemmas.{states_keep, beside_none, led_to}
use Rattle.hol_logic.proofs.EquationLemmas.{states_through}
use Rattle.hol_logic.proofs.definition.drop_definition.Goals as goal

pub returns-clause-states : goal.returns-clause-states
returns-clause-states c =
    let step = c.in_ok-step.ensures.states in
    let later = states_keep c.refl.ensures.keeps step in
    let own = beside_none c.in_ok-same.same c.refl.ensures.keeps step.there c.in_ok-same.ensures.hyps c.in_ok-same.ensures.bare
    (record { there = c.in_ok-r.ensures.there; concl = led_to _ _ _ _ _ later.concl c.in_ok-r.ensures.concl; hyps = c.in_ok-r.ensures.hyps; bare = c.in_ok-r.ensures.bare }) in
    states_through step own

pub returns-in_err-step-clause-keeps : goal.returns-in_err-step-clause-keeps
returns-in_err-step-clause-keeps c = c.defined.ensures.keeps

pub returns-in_err-same-clause-keeps : goal.returns-in_err-same-clause-keeps
returns-in_err-same-clause-keeps c = keeps_all_trans c.defined.ensures.keeps c.refl.ensures.keeps

pub returns-in_err-r-clause-keeps : goal.returns-in_err-r-clause-keeps
returns-in_err-r-clause-keeps c = keeps_all_trans (keeps_all_trans c.defined.ensures.keeps c.refl.ensures.keeps) c.imp_e.ensures.keeps

pub returns-clause-keeps : goal.returns-clause-keeps
returns-clause-keeps c = keeps_all_trans (keeps_all_trans c.defined.ensures.keeps c.refl.ensures.keeps) c.imp_e.ensures.keeps
