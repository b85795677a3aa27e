use Rattle.std.proofs.Common.{◌≡◌, ◌∙◌, ◌+◌, ◌-◌, sym, subst, arith}
use Rattle.lcf_kernel.specs.KernelState.{concl_of, hyps_of, bare_of}
use Rattle.lcf_kernel.proofs.KeepLemmas.{keeps_all_trans}
use Rattle.hol_match.specs.Inst.{Pairs, inst_tree}
use Rattle.hol_match.proofs.ApplyLemmas.{pairs_kept, terms_kept}
use Rattle.hol_terms.specs.Substitution.{subst_bound}
use Rattle.hol_logic.specs.States.{States}
use Rattle.hol_logic.specs.Instances.{IsAllAt, pair_at}
use Rattle.hol_logic.proofs.InstanceLemmas.{IsInstantiated, instantiated_start, instantiated_next, next_all, pairs_long, pairs_stand}
use Rattle.hol_logic.proofs.instances.at_each.Goals as goal

pub at_one-requires-clause-thm : goal.at_one-requires-clause-thm
at_one-requires-clause-thm c = c.loop-i.invariant.states.there

pub at_one-requires-clause-terms : goal.at_one-requires-clause-terms
at_one-requires-clause-terms c = terms_kept c.loop-i.invariant.keeps.records.store c.requires.terms

pub at_one-requires-clause-below : goal.at_one-requires-clause-below
at_one-requires-clause-below c = omega (arith, pairs_long c.args.k.now.store c.args.inst.now, c.loop-i.invariant.within, c.loop-i-test.true)

pub at_one-requires-clause-said : goal.at_one-requires-clause-said
at_one-requires-clause-said c =
    let old = c.args.k.now in
    let mid = c.loop-i.k in
    let n = c.loop-i.i - 1 in
    let f = concl_of old c.args.said in
    let pairs = inst_tree old.store old.store c.args.inst.now in
    let same = pairs_kept c.loop-i.invariant.keeps.records.store c.requires.terms in
    let back : c.loop-i.i ≡ n + 1 = omega arith in
    let before = subst (λ m. IsInstantiated old mid pairs f c.args.a c.loop-i.r m) back c.loop-i.invariant in
    let stand = pairs_stand old.store c.args.inst.now c.requires.terms.stand in
    subst (λ (ps : Pairs). IsAllAt ps n (concl_of mid c.loop-i.r)) (sym same) (next_all old mid mid pairs f c.args.a c.loop-i.r n before c.concl-said.ensures.formula.closed stand)

pub loop-i-init : goal.loop-i-init
loop-i-init c =
    let old = c.args.k.now in
    let pairs = inst_tree old.store old.store c.args.inst.now in
    instantiated_start old pairs (concl_of old c.args.said) c.args.a c.len-i.result (c.len-i.ensures ∙ sym (pairs_long old.store c.args.inst.now)) c.requires.thm c.requires.general

pub loop-i-preserved : goal.loop-i-preserved
loop-i-preserved c =
    let old = c.args.k.now in
    let mid = c.loop-i.k in
    let n = c.loop-i.i - 1 in
    let f = concl_of old c.args.said in
    let pairs = inst_tree old.store old.store c.args.inst.now in
    let same = pairs_kept c.loop-i.invariant.keeps.records.store c.requires.terms in
    let back : c.loop-i.i ≡ n + 1 = omega arith in
    let before = subst (λ m. IsInstantiated old mid pairs f c.args.a c.loop-i.r m) back c.loop-i.invariant in
    let stand = pairs_stand old.store c.args.inst.now c.requires.terms.stand in
    let found = subst (λ (ps : Pairs). (x : IsAllAt ps n (concl_of mid c.loop-i.r)) × States c.at_one.new.k c.in_ok-r.r (subst_bound x.body 0 (pair_at ps n).1) (hyps_of mid c.loop-i.r) (bare_of mid c.loop-i.r)) same c.in_ok-r.ensures.states in
    instantiated_next old mid c.at_one.new.k pairs f c.args.a c.loop-i.r n before c.concl-said.ensures.formula.closed stand c.in_ok-r.r c.at_one.ensures.keeps found.0 found.1

pub returns-in_err-r-clause-keeps : goal.returns-in_err-r-clause-keeps
returns-in_err-r-clause-keeps c = keeps_all_trans c.loop-i.invariant.keeps c.at_one.ensures.keeps

pub returns-clause-keeps : goal.returns-clause-keeps
returns-clause-keeps c = c.loop-i.invariant.keeps
