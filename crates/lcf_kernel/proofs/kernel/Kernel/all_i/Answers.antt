use Rattle.std.proofs.Common.{◌≡◌, ◌++◌, ◌∙◌, sym, true, arith, tests}
use Rattle.hol_terms.specs.TermStore.{term_tree}
use Rattle.hol_terms.specs.Formula.{NotFreeInAny}
use Rattle.hol_terms.proofs.QuantifierRules.{all_i_in}
use Rattle.lcf_kernel.specs.KernelState.{context_of, hyps_of}
use Rattle.lcf_kernel.proofs.KeepLemmas.{keeps_all_from, keeps_all_trans}
use Rattle.lcf_kernel.proofs.FollowLemmas.{from_one, under_all, premise, recorded}
use Rattle.lcf_kernel.proofs.kernel.Kernel.all_i.Goals as goal

pub conclude-requires : goal.conclude-requires
conclude-requires c =
    let k = c.generalised.new.self in
    let v = term_tree c.args.self.now.store c.args.v in
    let same = c.is_general.ensures.same in
    let keeps = (keeps_all_from same c.generalised.ensures.keeps).records in
    let lawful = c.in_ok-hyps.ensures.lawful in
    let gives = c.in_ok-hyps.ensures.gives in
    let yes : c.in_ok-general.general ≡ true = grind (arith, tests, c.if-not-general.false) in
    let general = c.in_ok-general.ensures.is yes in
    let said = rw same at c.concl-said.ensures.tree in
    let tree = rw same at c.in_ok-concl.ensures.tree in
    let absent : NotFreeInAny v (context_of k ++ hyps_of k c.args.a) = rw (keeps.context_trees, keeps.hyps c.args.a c.requires.thm) general.absent in
    recorded k lawful c.in_ok-hyps.hyps _ c.in_ok-concl.concl _ _ _ gives c.in_ok-concl.ensures.there tree c.is_bare-bare.ensures
    (from_one (λ E d. all_i_in v general.variable absent gives.formulas (under_all (context_of k) gives.same) d)
    (premise k lawful c.args.a (keeps.has c.args.a c.requires.thm) _ (keeps.concls c.args.a c.requires.thm ∙ sym said)))

pub returns-clause-hyps : goal.returns-clause-hyps
returns-clause-hyps c =
    let keeps = (keeps_all_from c.is_general.ensures.same c.generalised.ensures.keeps).records in
    rw (c.in_ok-r.ensures.hyps, ← keeps.hyps c.args.a c.requires.thm) c.in_ok-hyps.ensures.gives.same

pub returns-in_err-r-clause-keeps : goal.returns-in_err-r-clause-keeps
returns-in_err-r-clause-keeps c = keeps_all_trans (keeps_all_from c.is_general.ensures.same c.generalised.ensures.keeps) c.conclude.ensures.keeps

pub returns-clause-keeps : goal.returns-clause-keeps
returns-clause-keeps c = keeps_all_trans (keeps_all_from c.is_general.ensures.same c.generalised.ensures.keeps) c.conclude.ensures.keeps
