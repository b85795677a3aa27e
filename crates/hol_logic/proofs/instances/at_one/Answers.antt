use Rattle.std.proofs.Common.{◌≡◌, ◌∙◌, sym, subst, ap}
use Rattle.hol_types.specs.Ty.{Ty}
use Rattle.hol_terms.specs.Term.{Term, LamTm, ty_of}
use Rattle.hol_terms.specs.TermStore.{term_tree}
use Rattle.hol_terms.specs.Substitution.{subst_bound}
use Rattle.hol_terms.specs.Constants.{for_all}
use Rattle.lcf_kernel.specs.KernelState.{concl_of, hyps_of, bare_of}
use Rattle.hol_logic.specs.States.{States}
use Rattle.hol_logic.proofs.StateLemmas.{passed_on}
use Rattle.hol_logic.proofs.DefinitionLemmas.{universal_says}
use Rattle.hol_logic.proofs.InstanceLemmas.{pair_found, pair_there, pair_stands}
use Rattle.hol_logic.proofs.instances.at_one.Goals as goal

pub all_e-requires-clause-there : goal.all_e-requires-clause-there
all_e-requires-clause-there c = (pair_there c.args.k.now.store c.args.inst.now c.args.i c.in-Some.pair (sym c.in-Some.ensures) c.requires.terms.there).1

pub all_e-requires-clause-closed : goal.all_e-requires-clause-closed
all_e-requires-clause-closed c = (pair_stands c.args.k.now.store c.args.inst.now c.args.i c.in-Some.pair (sym c.in-Some.ensures) c.requires.terms.stand).closed

pub returns-clause-states : goal.returns-clause-states
returns-clause-states c =
    let k = c.args.k.now in
    let e = pair_found k.store c.args.inst.now c.args.i c.in-Some.pair (sym c.in-Some.ensures) in
    let v = term_tree k.store c.in-Some.pair.0 in
    let b = c.requires.said in
    let is = subst (λ (p : Term × Term). concl_of k c.args.a ≡ for_all (ty_of p.0) (LamTm (ty_of p.0) b.body)) e b.is in (
      b,
      subst (λ (p : Term × Term). States c.all_e.new.self c.in_ok-r.r (subst_bound b.body 0 p.1) (hyps_of k c.args.a) (bare_of k c.args.a)) (sym e) (record {
        there = c.in_ok-r.ensures.there;
        concl = c.in_ok-r.ensures.concl.1 ∙ universal_says c.in_ok-r.ensures.concl.0 (ty_of v) (LamTm (ty_of v) b.body) is;
        hyps = c.in_ok-r.ensures.hyps;
        bare = c.in_ok-r.ensures.bare;
      }),
    )

pub returns-in_err-r-clause-shape : goal.returns-in_err-r-clause-shape
returns-in_err-r-clause-shape c =
    let k = c.args.k.now in
    let e = pair_found k.store c.args.inst.now c.args.i c.in-Some.pair (sym c.in-Some.ensures) in
    let v = term_tree k.store c.in-Some.pair.0 in
    let b = c.requires.said in
    let is = subst (λ (p : Term × Term). concl_of k c.args.a ≡ for_all (ty_of p.0) (LamTm (ty_of p.0) b.body)) e b.is in
    let stands = pair_stands k.store c.args.inst.now c.args.i c.in-Some.pair (sym c.in-Some.ensures) c.requires.terms.stand in
    passed_on c.from_residual.result c.in_err-r.field-0.0 c.from_residual.ensures.1 (λ h. c.in_err-r.ensures.shape h (record { predicate = LamTm (ty_of v) b.body; is = is ∙ ap (λ (ty : Ty). for_all ty (LamTm (ty_of v) b.body)) (sym stands.type) }))
