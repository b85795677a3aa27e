use Rattle.std.proofs.Common.{◌∙◌, refl, subst}
use Rattle.hol_terms.specs.Term.{Term}
use Rattle.hol_terms.specs.TermStore.{term_tree}
use Rattle.hol_terms.specs.Formula.{IsFormula}
use Rattle.hol_terms.proofs.FormulaLemmas.{for_all_part}
use Rattle.hol_terms.proofs.QuantifierRules.{all_e_in}
use Rattle.lcf_kernel.specs.KernelState.{concl_of, context_of}
use Rattle.lcf_kernel.proofs.KeepLemmas.{keeps_all_trans}
use Rattle.lcf_kernel.proofs.FollowLemmas.{from_one, under_all, premise, concluded_formula, recorded}
use Rattle.lcf_kernel.specs.RuleForms.{IsUniversal}
use Rattle.lcf_kernel.proofs.kernel.Kernel.all_e.Goals as goal

pub said_of-requires-clause-fits : goal.said_of-requires-clause-fits
said_of-requires-clause-fits c =
    (for_all_part (subst (λ (f : Term). IsFormula f) c.in-Some.ensures.some (concluded_formula c.args.self.now c.in-Some.ensures.lawful c.args.a c.requires.thm))).type

pub conclude-requires : goal.conclude-requires
conclude-requires c =
    let k = c.said_of.new.self in
    let keeps = c.said_of.ensures.keeps.records in
    let lawful = c.in_ok-hyps.ensures.lawful in
    let gives = c.in_ok-hyps.ensures.gives in
    recorded k lawful c.in_ok-hyps.hyps _ c.in_ok-concl.concl _ _ _ gives c.in_ok-concl.ensures.there c.in_ok-concl.ensures.tree c.is_bare-bare.ensures
    (from_one (λ E d. all_e_in c.know_term.ensures.term refl gives.formulas (under_all (context_of k) gives.same) d)
    (premise k lawful c.args.a (keeps.has c.args.a c.requires.thm) _ (keeps.concls c.args.a c.requires.thm ∙ c.in-Some.ensures.some)))

pub returns-clause-concl : goal.returns-clause-concl
returns-clause-concl c =
    let universal : IsUniversal (concl_of c.args.self.now c.args.a) (term_tree c.args.self.now.store c.args.t) = record { predicate = term_tree c.args.self.now.store c.in-Some.p; is = c.in-Some.ensures.some } in
    (universal, c.in_ok-r.ensures.concl ∙ c.in_ok-concl.ensures.tree)

pub returns-clause-hyps : goal.returns-clause-hyps
returns-clause-hyps c = rw (c.in_ok-r.ensures.hyps, ← c.said_of.ensures.keeps.records.hyps c.args.a c.requires.thm) c.in_ok-hyps.ensures.gives.same

pub returns-in_err-r-clause-keeps : goal.returns-in_err-r-clause-keeps
returns-in_err-r-clause-keeps c = keeps_all_trans c.said_of.ensures.keeps c.conclude.ensures.keeps

pub returns-clause-keeps : goal.returns-clause-keeps
returns-clause-keeps c = keeps_all_trans c.said_of.ensures.keeps c.conclude.ensures.keeps
