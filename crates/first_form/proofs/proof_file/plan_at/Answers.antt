use Rattle.std.proofs.Common.{◌≡◌, ◌∙◌, ◌&&◌, Some, true, false, length, refl, sym, ap, subst, rules}
use Rattle.std.specs.Prelude.{Option, nat_lt}
use Rattle.std.proofs.lemmas.Result.{err_from_is_err_and}
use Rattle.hol_terms.specs.Constants.{false_tm}
use Rattle.hol_terms.specs.TermEq.{term_eq}
use Rattle.hol_terms.specs.TermStore.{term_tree}
use Rattle.proof_plan.specs.PlanValue.{PlanValue}
use Rattle.sexp.specs.Forest.{tree_at}
use Rattle.goal_text.specs.Scope.{terms_at}
use Rattle.first_form.specs.ProofPlan.{IsAbout, last_claim, plan_nodes_in}
use Rattle.first_form.specs.Read.{Fails}
use Rattle.first_form.specs.Steps.{nodes_in, source_in}
use Rattle.first_form.proofs.LexiconLemmas.{lexicon_kept}
use Rattle.first_form.proofs.PlanLemmas.{last_there, made_about, made_plan}
use Rattle.first_form.proofs.RefutationLemmas.{read_from_none, refutation_fails, refutation_is, refutation_not}
use Rattle.first_form.proofs.proof_file.plan_at.Goals as goal

pub returns-in_err-step_at-clause-read : goal.returns-in_err-step_at-clause-read
returns-in_err-step_at-clause-read c =
    let p = err_from_is_err_and c.from_residual.result c.from_residual.ensures.1 in
    let setting = c.args.setting in
    let source = source_in setting.base setting.lexicon setting.assertions in
    let tree = tree_at c.args.forest.now c.args.i in
    let e = read_from_none setting.base c.new.result.items source source tree c.new.ensures.items refl in
    let P : Option _ → Type 0 = Fails c.in_err-step_at.field-0.0 in
    rw (p.1, p.2) (refutation_fails source tree c.in_err-step_at.field-0.0 (subst P e c.in_err-step_at.ensures.read))

pub refutes-requires-clause-lexicon : goal.refutes-requires-clause-lexicon
refutes-requires-clause-lexicon c = lexicon_kept c.in_ok-step_at.ensures.keeps c.requires.setting.source.lexicon_is

pub refutes-requires-clause-claim : goal.refutes-requires-clause-claim
refutes-requires-clause-claim c =
    let done = c.in_ok-step_at.ensures in
    rw c.deref.ensures.value (last_there c.step_at.new.steps.base c.args.setting.assertions c.step_at.new.steps.nodes.items done.steps done.some)

pub returns-then-not-refutes-clause-read : goal.returns-then-not-refutes-clause-read
returns-then-not-refutes-clause-read c =
    let setting = c.args.setting in
    let source = source_in setting.base setting.lexicon setting.assertions in
    let tree = tree_at c.args.forest.now c.args.i in
    let u = c.step_at.new.steps.base in
    let nodes = c.step_at.new.steps.nodes.items in
    let e = read_from_none setting.base c.new.result.items source source tree c.new.ensures.items refl in
    let answer : c.refutes.result ≡ false = search rules in
    let test : (term_eq (term_tree u (last_claim nodes)) false_tm && nat_lt (length nodes) 400001) ≡ false = rw (← c.deref.ensures.value) (sym c.refutes.ensures ∙ answer) in
    refutation_not source tree u nodes (sym e ∙ c.in_ok-step_at.ensures.read) test

pub new-requires-9 : goal.new-requires-9
new-requires-9 c =
    let setting = c.args.setting in
    let u = c.step_at.new.steps.base in
    let nodes = c.step_at.new.steps.nodes.items in
    let done = c.in_ok-step_at.ensures in
    let answer : c.refutes.result ≡ true = search rules in
    let test : (term_eq (term_tree u (last_claim nodes)) false_tm && nat_lt (length nodes) 400001) ≡ true = rw (← c.deref.ensures.value) (sym c.refutes.ensures ∙ answer) in
    made_plan setting c.requires.setting u done.keeps nodes _ c.freeze.ensures refl refl c.into_list.ensures c.new-6.ensures (c.new-8.ensures ∙ c.new-7.ensures.items) (c.new-3.ensures ∙ c.new-2.ensures.items) done.steps done.some test

pub returns-clause-read : goal.returns-clause-read
returns-clause-read c =
    let setting = c.args.setting in
    let source = source_in setting.base setting.lexicon setting.assertions in
    let tree = tree_at c.args.forest.now c.args.i in
    let u = c.step_at.new.steps.base in
    let nodes = c.step_at.new.steps.nodes.items in
    let done = c.in_ok-step_at.ensures in
    let e = read_from_none setting.base c.new.result.items source source tree c.new.ensures.items refl in
    let answer : c.refutes.result ≡ true = search rules in
    let test : (term_eq (term_tree u (last_claim nodes)) false_tm && nat_lt (length nodes) 400001) ≡ true = rw (← c.deref.ensures.value) (sym c.refutes.ensures ∙ answer) in
    let made : nodes_in c.freeze.result c.new-6.result ≡ nodes_in u nodes = rw (c.freeze.ensures, c.new-6.ensures) refl in
    refutation_is source tree u nodes (sym e ∙ done.read) test ∙ ap Some (sym (ap plan_nodes_in c.new-9.ensures ∙ made))

pub returns-clause-about : goal.returns-clause-about
returns-clause-about c =
    let setting = c.args.setting in
    let u = c.step_at.new.steps.base in
    let nodes = c.step_at.new.steps.nodes.items in
    let P : PlanValue → Type 0 = IsAbout (terms_at setting.base setting.facts) (term_tree setting.base setting.goal) in
    subst P (sym c.new-9.ensures) (made_about setting c.requires.setting u c.in_ok-step_at.ensures.keeps nodes _ c.freeze.ensures refl refl c.into_list.ensures c.new-6.ensures (c.new-8.ensures ∙ c.new-7.ensures.items) (c.new-3.ensures ∙ c.new-2.ensures.items))
