use Rattle.std.proofs.Common.{◌≡◌, ◌∙◌, refl, sym, ap, subst, arith, tests}
use Rattle.hol_terms.specs.Term.{Term}
use Rattle.hol_terms.specs.Substitution.{subst_bound}
use Rattle.hol_terms.specs.TermStore.{term_tree}
use Rattle.hol_terms.specs.Formula.{IsFormula}
use Rattle.hol_terms.proofs.FormulaLemmas.{exists_part}
use Rattle.hol_terms.proofs.QuantifierRules.{ex_i_in}
use Rattle.lcf_kernel.specs.KernelState.{concl_of, context_of}
use Rattle.lcf_kernel.proofs.KeepLemmas.{keeps_all_trans}
use Rattle.lcf_kernel.proofs.FollowLemmas.{from_one, under_all, premise, recorded}
use Rattle.lcf_kernel.proofs.kernel.Kernel.ex_i.Goals as goal

pub opened-requires-clause-fits : goal.opened-requires-clause-fits
opened-requires-clause-fits c = (exists_part (subst (λ (f : Term). IsFormula f) c.in-Some.ensures.some c.in-Some.ensures.formula)).term.typed.1

pub conclude-requires : goal.conclude-requires
conclude-requires c =
    let k = c.opened.new.self in
    let s = c.args.self.now.store in
    let keeps = c.opened.ensures.keeps.records in
    let lawful = c.in_ok-hyps.ensures.lawful in
    let gives = c.in_ok-hyps.ensures.gives in
    let formula = subst (λ (f : Term). IsFormula f) c.in-Some.ensures.some c.in-Some.ensures.formula in
    let same_id : c.in_ok-opened.opened ≡ c.concl-said.result = grind (arith, tests, c.ne.ensures, c.if-ne.false) in
    let said : concl_of k c.args.a ≡ subst_bound (term_tree s c.in-Some.body) 0 (term_tree s c.args.t) = sym c.concl-said.ensures.tree ∙ ap (λ t. term_tree k.store t) (sym same_id) ∙ c.in_ok-opened.ensures.tree in
    recorded k lawful c.in_ok-hyps.hyps _ c.args.e _ _ _ gives (keeps.store.terms c.args.e c.requires.there) (keeps.store.trees c.args.e c.requires.there ∙ c.in-Some.ensures.some) c.is_bare-bare.ensures
    (from_one (λ E d. ex_i_in {b = term_tree s c.in-Some.body} {t = term_tree s c.args.t} c.know_term.ensures.term refl formula gives.formulas (under_all (context_of k) gives.same) d)
    (premise k lawful c.args.a (keeps.has c.args.a c.requires.thm) _ said))

pub returns-clause-hyps : goal.returns-clause-hyps
returns-clause-hyps c = rw (c.in_ok-r.ensures.hyps, ← c.opened.ensures.keeps.records.hyps c.args.a c.requires.thm) c.in_ok-hyps.ensures.gives.same

pub returns-in_err-r-clause-keeps : goal.returns-in_err-r-clause-keeps
returns-in_err-r-clause-keeps c = keeps_all_trans c.opened.ensures.keeps c.conclude.ensures.keeps

pub returns-clause-keeps : goal.returns-clause-keeps
returns-clause-keeps c = keeps_all_trans c.opened.ensures.keeps c.conclude.ensures.keeps

pub concl-said-requires : goal.concl-said-requires
concl-said-requires c = c.opened.ensures.keeps.records.has c.args.a c.requires.thm

pub hyps_copy-requires : goal.hyps_copy-requires
hyps_copy-requires c = c.opened.ensures.keeps.records.has c.args.a c.requires.thm

pub is_bare-bare-requires : goal.is_bare-bare-requires
is_bare-bare-requires c = c.opened.ensures.keeps.records.has c.args.a c.requires.thm
