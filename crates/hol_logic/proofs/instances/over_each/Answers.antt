use Rattle.std.proofs.Common.{◌<◌, sym, subst, length, arith}
use Rattle.lcf_kernel.specs.RuleForms.{IsGeneral}
use Rattle.lcf_kernel.specs.KernelState.{concl_of, hyps_of, all_hyps_of, bare_of}
use Rattle.lcf_kernel.proofs.KeepLemmas.{keeps_all_trans}
use Rattle.hol_match.specs.Inst.{Pairs, inst_tree}
use Rattle.hol_match.proofs.ApplyLemmas.{pairs_kept, terms_kept}
use Rattle.hol_logic.specs.States.{States}
use Rattle.hol_logic.specs.DerivedForms.{all_of}
use Rattle.hol_logic.specs.Instances.{pair_at}
use Rattle.hol_logic.proofs.StateLemmas.{passed_shape}
use Rattle.hol_logic.proofs.InstanceLemmas.{generalised_start, generalised_next, next_general, pairs_long, pairs_stand}
use Rattle.hol_logic.proofs.instances.over_each.Goals as goal

pub loop-i-init : goal.loop-i-init
loop-i-init c = generalised_start c.args.k.now (inst_tree c.args.k.now.store c.args.k.now.store c.args.inst.now) c.args.a c.requires.thm

pub over_one-requires-clause-thm : goal.over_one-requires-clause-thm
over_one-requires-clause-thm c = c.loop-i.invariant.states.there

pub over_one-requires-clause-terms : goal.over_one-requires-clause-terms
over_one-requires-clause-terms c = terms_kept c.loop-i.invariant.keeps.records.store c.requires.terms

pub loop-i-preserved : goal.loop-i-preserved
loop-i-preserved c =
    let old = c.args.k.now in
    let mid = c.loop-i.k in
    let i = c.loop-i.i in
    let pairs = inst_tree old.store old.store c.args.inst.now in
    let same = pairs_kept c.loop-i.invariant.keeps.records.store c.requires.terms in
    let below : i < length pairs = omega (arith, pairs_long old.store c.args.inst.now, c.len-i-end.ensures, c.loop-i-test.true) in
    let states = subst (λ (ps : Pairs). States c.over_one.new.k c.in_ok-r.r (all_of (pair_at ps i).0 (concl_of mid c.loop-i.r)) (hyps_of mid c.loop-i.r) (bare_of mid c.loop-i.r)) same c.in_ok-r.ensures.states in
    let general = subst (λ (ps : Pairs). IsGeneral (all_hyps_of mid c.loop-i.r) (pair_at ps i).0) same c.in_ok-r.ensures.ok in
    generalised_next old mid c.over_one.new.k pairs c.args.a c.loop-i.r i c.loop-i.invariant below c.in_ok-r.r c.over_one.ensures.keeps states general

pub returns-in_err-r-clause-shape : goal.returns-in_err-r-clause-shape
returns-in_err-r-clause-shape c =
    let old = c.args.k.now in
    let mid = c.loop-i.k in
    let i = c.loop-i.i in
    let pairs = inst_tree old.store old.store c.args.inst.now in
    let same = pairs_kept c.loop-i.invariant.keeps.records.store c.requires.terms in
    let below : i < length pairs = omega (arith, pairs_long old.store c.args.inst.now, c.len-i-end.ensures, c.loop-i-test.true) in
    passed_shape c.from_residual.result c.in_err-r.field-0.0 c.from_residual.ensures.1 (λ h all.
    c.in_err-r.ensures.shape h (subst (λ (ps : Pairs). IsGeneral (all_hyps_of mid c.loop-i.r) (pair_at ps i).0) (sym same)
    (next_general old mid mid pairs c.args.a c.loop-i.r i c.loop-i.invariant below (pairs_stand old.store c.args.inst.now c.requires.terms.stand) all)))

pub returns-in_err-r-clause-keeps : goal.returns-in_err-r-clause-keeps
returns-in_err-r-clause-keeps c = keeps_all_trans c.loop-i.invariant.keeps c.over_one.ensures.keeps

pub returns-clause-keeps : goal.returns-clause-keeps
returns-clause-keeps c = c.loop-i.invariant.keeps
