use Rattle.std.proofs.Common.{◌≡◌, true, false, arith, tests}
use Rattle.hol_types.specs.TypeSubst.{subst_tree}
use Rattle.hol_terms.proofs.KeepsLemmas.{subst_kept, subst_same}
use Rattle.hol_formulas.proofs.UnchangedTypes.{changes_none_both, changes_none_left, changes_none_right}
use Rattle.lcf_kernel.specs.KernelState.{context_of, hyps_of}
use Rattle.lcf_kernel.proofs.KeepLemmas.{keeps_all_trans}
use Rattle.lcf_kernel.proofs.kernel.Kernel.keeps_hyps.Goals as goal

pub keeps_own-requires-clause-subst : goal.keeps_own-requires-clause-subst
keeps_own-requires-clause-subst c = subst_kept c.keeps_context.ensures.keeps.records.store c.args.s.now c.requires.subst

pub returns-in_err-r-clause-keeps : goal.returns-in_err-r-clause-keeps
returns-in_err-r-clause-keeps c = keeps_all_trans c.keeps_context.ensures.keeps c.keeps_own.ensures.keeps

pub returns-clause-keeps : goal.returns-clause-keeps
returns-clause-keeps c = keeps_all_trans c.keeps_context.ensures.keeps c.keeps_own.ensures.keeps

pub returns-then-not-in_context-clause-isnt : goal.returns-then-not-in_context-clause-isnt
returns-then-not-in_context-clause-isnt c e all =
    let k = c.args.self.now in
    let no : c.in_ok-in_context.in_context ≡ false = grind (arith, tests, c.if-not-in_context.true) in
    c.in_ok-in_context.ensures.isnt no (changes_none_left (subst_tree k.store.types c.args.s.now) (context_of k) (hyps_of k c.args.a) all)

pub returns-clause-is : goal.returns-clause-is
returns-clause-is c e =
    let k = c.args.self.now in
    let mid = c.keeps_context.new.self in
    let yes : c.in_ok-in_context.in_context ≡ true = grind (arith, tests, c.if-not-in_context.false) in
    let types : subst_tree mid.store.types c.args.s.now ≡ subst_tree k.store.types c.args.s.now = subst_same c.keeps_context.ensures.keeps.records.store c.args.s.now c.requires.subst in
    let own : hyps_of mid c.args.a ≡ hyps_of k c.args.a = c.keeps_context.ensures.keeps.records.hyps c.args.a c.requires.thm in
    changes_none_both (subst_tree k.store.types c.args.s.now) (context_of k) (hyps_of k c.args.a) (c.in_ok-in_context.ensures.is yes) (rw (← types, ← own) (c.in_ok-r.ensures.is e))

pub returns-clause-isnt : goal.returns-clause-isnt
returns-clause-isnt c e all =
    let k = c.args.self.now in
    let mid = c.keeps_context.new.self in
    let types : subst_tree mid.store.types c.args.s.now ≡ subst_tree k.store.types c.args.s.now = subst_same c.keeps_context.ensures.keeps.records.store c.args.s.now c.requires.subst in
    let own : hyps_of mid c.args.a ≡ hyps_of k c.args.a = c.keeps_context.ensures.keeps.records.hyps c.args.a c.requires.thm in
    c.in_ok-r.ensures.isnt e (rw (types, own) (changes_none_right (subst_tree k.store.types c.args.s.now) (context_of k) (hyps_of k c.args.a) all))
