use Rattle.std.proofs.Common.{◌∙◌, refl}
use Rattle.hol_terms.proofs.QuantifierRules.{ite_f_in}
use Rattle.hol_terms.specs.TermStore.{term_tree}
use Rattle.lcf_kernel.specs.KernelState.{concl_of, context_of}
use Rattle.lcf_kernel.proofs.KeepLemmas.{keeps_all_trans}
use Rattle.lcf_kernel.proofs.FollowLemmas.{from_one, under_all, premise, recorded}
use Rattle.lcf_kernel.specs.RuleForms.{IsUnselected}
use Rattle.lcf_kernel.proofs.kernel.Kernel.ite_f.Goals as goal

pub conclude-requires : goal.conclude-requires
conclude-requires c =
    let k = c.selects.new.self in
    let keeps = c.selects.ensures.keeps.records in
    let lawful = c.in_ok-hyps.ensures.lawful in
    let gives = c.in_ok-hyps.ensures.gives in
    let branches = c.if-not-are_branches.ensures in
    recorded k lawful c.in_ok-hyps.hyps _ c.in_ok-concl.concl _ _ _ gives c.in_ok-concl.ensures.there c.in_ok-concl.ensures.tree c.is_bare-bare.ensures
    (from_one (λ E d. ite_f_in branches.first_term branches.second_term (branches.is.0 refl) gives.formulas (under_all (context_of k) gives.same) d)
    (premise k lawful c.args.a (keeps.has c.args.a c.requires.thm) _ (keeps.concls c.args.a c.requires.thm ∙ c.in-Some.ensures.some)))

pub returns-clause-hyps : goal.returns-clause-hyps
returns-clause-hyps c = rw (c.in_ok-r.ensures.hyps, ← c.selects.ensures.keeps.records.hyps c.args.a c.requires.thm) c.in_ok-hyps.ensures.gives.same

pub returns-clause-concl : goal.returns-clause-concl
returns-clause-concl c =
    let unselected : IsUnselected (concl_of c.args.self.now c.args.a) (term_tree c.args.self.now.store c.args.t) (term_tree c.args.self.now.store c.args.u) = record { condition = term_tree c.args.self.now.store c.in-Some.condition; negated_is = c.in-Some.ensures.some; types = c.if-not-are_branches.ensures.is.0 refl } in
    (unselected, c.in_ok-r.ensures.concl ∙ c.in_ok-concl.ensures.tree)

pub returns-in_err-r-clause-keeps : goal.returns-in_err-r-clause-keeps
returns-in_err-r-clause-keeps c = keeps_all_trans c.selects.ensures.keeps c.conclude.ensures.keeps

pub returns-clause-keeps : goal.returns-clause-keeps
returns-clause-keeps c = keeps_all_trans c.selects.ensures.keeps c.conclude.ensures.keeps
