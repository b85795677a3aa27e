use Rattle.std.proofs.Common.{sym, subst}
use Rattle.hol_terms.specs.Term.{Term}
use Rattle.lcf_kernel.specs.RuleForms.{IsGeneral}
use Rattle.lcf_kernel.specs.KernelState.{concl_of, hyps_of, all_hyps_of, bare_of}
use Rattle.hol_logic.specs.States.{States}
use Rattle.hol_logic.specs.DerivedForms.{all_of}
use Rattle.hol_logic.proofs.StateLemmas.{passed_shape}
use Rattle.hol_logic.proofs.InstanceLemmas.{pair_found, pair_there}
use Rattle.hol_logic.proofs.instances.over_one.Goals as goal

pub all_i-requires-clause-there : goal.all_i-requires-clause-there
all_i-requires-clause-there c = (pair_there c.args.k.now.store c.args.inst.now c.args.i c.in-Some.pair (sym c.in-Some.ensures) c.requires.terms.there).0

pub returns-clause-states : goal.returns-clause-states
returns-clause-states c =
    let k = c.args.k.now in
    let e = pair_found k.store c.args.inst.now c.args.i c.in-Some.pair (sym c.in-Some.ensures) in
    subst (λ (p : Term × Term). States c.all_i.new.self c.in_ok-r.r (all_of p.0 (concl_of k c.args.a)) (hyps_of k c.args.a) (bare_of k c.args.a)) (sym e)
    (record { there = c.in_ok-r.ensures.there; concl = c.in_ok-r.ensures.concl; hyps = c.in_ok-r.ensures.hyps; bare = c.in_ok-r.ensures.bare })

pub returns-clause-ok : goal.returns-clause-ok
returns-clause-ok c =
    let k = c.args.k.now in
    let e = pair_found k.store c.args.inst.now c.args.i c.in-Some.pair (sym c.in-Some.ensures) in
    subst (λ (p : Term × Term). IsGeneral (all_hyps_of k c.args.a) p.0) (sym e) c.in_ok-r.ensures.ok

pub returns-in_err-r-clause-shape : goal.returns-in_err-r-clause-shape
returns-in_err-r-clause-shape c =
    let k = c.args.k.now in
    let e = pair_found k.store c.args.inst.now c.args.i c.in-Some.pair (sym c.in-Some.ensures) in
    passed_shape c.from_residual.result c.in_err-r.field-0.0 c.from_residual.ensures.1 (λ h general. c.in_err-r.ensures.shape h (subst (λ (p : Term × Term). IsGeneral (all_hyps_of k c.args.a) p.0) e general))
