use Rattle.std.proofs.Common.{◌++◌}
use Rattle.hol_types.specs.TypeSubst.{subst_tree}
use Rattle.hol_terms.specs.Formula.{ChangesNone}
use Rattle.hol_terms.proofs.QuantifierRules.{inst_type_in}
use Rattle.lcf_kernel.specs.KernelState.{context_of, hyps_of}
use Rattle.lcf_kernel.proofs.KeepLemmas.{keeps_all_trans}
use Rattle.lcf_kernel.proofs.FollowLemmas.{from_one, under_all, premise, recorded}
use Rattle.lcf_kernel.proofs.kernel.Kernel.inst_type.Goals as goal

pub conclude-requires : goal.conclude-requires
conclude-requires c =
    let k = c.retyped.new.self in
    let types = subst_tree c.args.self.now.store.types c.args.s.now in
    let keeps = c.retyped.ensures.keeps.records in
    let lawful = c.in_ok-hyps.ensures.lawful in
    let gives = c.in_ok-hyps.ensures.gives in
    let there = rw c.in-Some.is at c.in_ok-found.ensures.there in
    let tree = rw c.in-Some.is at c.in_ok-found.ensures.tree in
    let kept = rw c.in-Some.is at c.in_ok-found.ensures.same in
    let same : ChangesNone types (context_of k ++ hyps_of k c.args.a) = rw (keeps.context_trees, keeps.hyps c.args.a c.requires.thm) kept in
    recorded k lawful c.in_ok-hyps.hyps _ c.in-Some.concl _ _ _ gives there tree c.is_bare-bare.ensures
    (from_one (λ E d. inst_type_in types same gives.formulas (under_all (context_of k) gives.same) d)
    (premise k lawful c.args.a (keeps.has c.args.a c.requires.thm) _ (keeps.concls c.args.a c.requires.thm)))

pub returns-in_err-r-clause-keeps : goal.returns-in_err-r-clause-keeps
returns-in_err-r-clause-keeps c = keeps_all_trans c.retyped.ensures.keeps c.conclude.ensures.keeps

pub returns-clause-keeps : goal.returns-clause-keeps
returns-clause-keeps c = keeps_all_trans c.retyped.ensures.keeps c.conclude.ensures.keeps
