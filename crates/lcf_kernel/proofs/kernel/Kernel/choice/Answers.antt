use Rattle.std.proofs.Common.{◌∙◌, subst}
use Rattle.hol_terms.specs.Term.{Term}
use Rattle.hol_types.specs.TypeStore.{type_tree}
use Rattle.hol_terms.specs.TermStore.{term_tree}
use Rattle.hol_terms.specs.Formula.{IsFormula}
use Rattle.hol_terms.proofs.QuantifierRules.{choice_in}
use Rattle.lcf_kernel.specs.KernelState.{concl_of, context_of}
use Rattle.lcf_kernel.proofs.KeepLemmas.{keeps_all_trans}
use Rattle.lcf_kernel.proofs.FollowLemmas.{from_one, under_all, premise, concluded_formula, recorded}
use Rattle.lcf_kernel.specs.RuleForms.{IsExistence}
use Rattle.lcf_kernel.proofs.kernel.Kernel.choice.Goals as goal

pub chosen_one-requires-clause-formula : goal.chosen_one-requires-clause-formula
chosen_one-requires-clause-formula c = subst (λ (f : Term). IsFormula f) c.in-Some.ensures.some (concluded_formula c.args.self.now c.in-Some.ensures.lawful c.args.a c.requires)

pub conclude-requires : goal.conclude-requires
conclude-requires c =
    let k = c.chosen_one.new.self in
    let keeps = c.chosen_one.ensures.keeps.records in
    let lawful = c.in_ok-hyps.ensures.lawful in
    let gives = c.in_ok-hyps.ensures.gives in
    recorded k lawful c.in_ok-hyps.hyps _ c.in_ok-concl.concl _ _ _ gives c.in_ok-concl.ensures.there c.in_ok-concl.ensures.tree c.is_bare-bare.ensures
    (from_one (λ E d. choice_in gives.formulas (under_all (context_of k) gives.same) d)
    (premise k lawful c.args.a (keeps.has c.args.a c.requires) _ (keeps.concls c.args.a c.requires ∙ c.in-Some.ensures.some)))

pub returns-clause-concl : goal.returns-clause-concl
returns-clause-concl c =
    let s = c.args.self.now.store in
    let existence : IsExistence (concl_of c.args.self.now c.args.a) = record { type = type_tree s.types c.in-Some.lambda.ty; body = term_tree s c.in-Some.lambda.body; is = c.in-Some.ensures.some } in
    (existence, c.in_ok-r.ensures.concl ∙ c.in_ok-concl.ensures.tree)

pub returns-clause-hyps : goal.returns-clause-hyps
returns-clause-hyps c = rw (c.in_ok-r.ensures.hyps, ← c.chosen_one.ensures.keeps.records.hyps c.args.a c.requires) c.in_ok-hyps.ensures.gives.same

pub returns-in_err-r-clause-keeps : goal.returns-in_err-r-clause-keeps
returns-in_err-r-clause-keeps c = keeps_all_trans c.chosen_one.ensures.keeps c.conclude.ensures.keeps

pub returns-clause-keeps : goal.returns-clause-keeps
returns-clause-keeps c = keeps_all_trans c.chosen_one.ensures.keeps c.conclude.ensures.keeps

pub hyps_copy-requires : goal.hyps_copy-requires
hyps_copy-requires c = c.chosen_one.ensures.keeps.records.has c.args.a c.requires

pub is_bare-bare-requires : goal.is_bare-bare-requires
is_bare-bare-requires c = c.chosen_one.ensures.keeps.records.has c.args.a c.requires
