use Rattle.std.proofs.Common.{◌∙◌, ◌∷◌, [], refl, sym, inl, inr, ap}
use Rattle.hol_terms.specs.TermStore.{term_tree}
use Rattle.hol_terms.specs.Constants.{negation}
use Rattle.hol_terms.proofs.FormulaLemmas.{negation_is_formula, formula_has}
use Rattle.lcf_kernel.proofs.KeepLemmas.{keeps_all_trans}
use Rattle.lcf_kernel.proofs.KeptLemmas.{has_kept, term_kept, tree_kept, at_kept, closed_kept}
use Rattle.hol_logic.proofs.StateLemmas.{passed_on}
use Rattle.hol_logic.proofs.UnderLemmas.{under_keeps, formula_kept, formula_at, under_one}
use Rattle.hol_types.specs.TypeStore.{type_tree}
use Rattle.hol_terms.specs.Substitution.{subst_bound}
use Rattle.hol_terms.proofs.DerivedFormulas.{body_has}
use Rattle.hol_logic.specs.Quantified.{some_contrary}
use Rattle.hol_logic.proofs.QuantifierLemmas.{predicate_has, some_contrary_formula, fresh_has, fresh_type, fresh_fits, witness_for}
use Rattle.hol_logic.proofs.universal.stated.Goals as goal

pub opened-requires-clause-body : goal.opened-requires-clause-body
opened-requires-clause-body c = c.requires.predicate.body

pub opened-requires-clause-new : goal.opened-requires-clause-new
opened-requires-clause-new c = c.requires.variable

pub opened-requires-clause-closed : goal.opened-requires-clause-closed
opened-requires-clause-closed c = (fresh_has c.requires.fresh).term.closed

pub opened-requires-clause-fits : goal.opened-requires-clause-fits
opened-requires-clause-fits c = fresh_fits c.requires.fresh c.requires.predicate.lambda.typed.1

pub negated-requires-clause-there : goal.negated-requires-clause-there
negated-requires-clause-there c = c.in_ok-said.ensures.is.there

pub negated-requires-clause-bool : goal.negated-requires-clause-bool
negated-requires-clause-bool c = (formula_at c.in_ok-said.ensures.is (formula_has (body_has (predicate_has c.requires.predicate) (fresh_has c.requires.fresh)))).formula.bool

pub assumed-requires : goal.assumed-requires
assumed-requires c = formula_at c.in_ok-denial.ensures.is (negation_is_formula (formula_at c.in_ok-said.ensures.is (formula_has (body_has (predicate_has c.requires.predicate) (fresh_has c.requires.fresh)))).formula)

pub ex_i-requires-clause-thm : goal.ex_i-requires-clause-thm
ex_i-requires-clause-thm c = c.in_ok-case.ensures.there

pub ex_i-requires-clause-there : goal.ex_i-requires-clause-there
ex_i-requires-clause-there c = term_kept (keeps_all_trans (keeps_all_trans c.opened.ensures.keeps c.negated.ensures.keeps) c.assumed.ensures.keeps) c.requires.some.there

pub ex_i-requires-clause-closed : goal.ex_i-requires-clause-closed
ex_i-requires-clause-closed c = closed_kept (keeps_all_trans (keeps_all_trans c.opened.ensures.keeps c.negated.ensures.keeps) c.assumed.ensures.keeps) c.requires.some.there (formula_at c.requires.some (some_contrary_formula c.requires.predicate)).formula.closed

pub ex_i-requires-clause-witness : goal.ex_i-requires-clause-witness
ex_i-requires-clause-witness c = term_kept (keeps_all_trans (keeps_all_trans c.opened.ensures.keeps c.negated.ensures.keeps) c.assumed.ensures.keeps) c.requires.variable

pub ex_i-requires-clause-witness_closed : goal.ex_i-requires-clause-witness_closed
ex_i-requires-clause-witness_closed c = closed_kept (keeps_all_trans (keeps_all_trans c.opened.ensures.keeps c.negated.ensures.keeps) c.assumed.ensures.keeps) c.requires.variable (fresh_has c.requires.fresh).term.closed

pub assumed-requires-2 : goal.assumed-requires-2
assumed-requires-2 c = formula_at (at_kept (keeps_all_trans (keeps_all_trans (keeps_all_trans c.opened.ensures.keeps c.negated.ensures.keeps) c.assumed.ensures.keeps) c.ex_i.ensures.keeps) c.requires.opposite) (negation_is_formula (some_contrary_formula c.requires.predicate))

pub affirmed-requires-clause-no : goal.affirmed-requires-clause-no
affirmed-requires-clause-no c = c.in_ok-no.ensures.there

pub affirmed-requires-clause-yes : goal.affirmed-requires-clause-yes
affirmed-requires-clause-yes c = has_kept c.assumed-2.ensures.keeps c.in_ok-witness.ensures.there

pub affirmed-requires-clause-formula : goal.affirmed-requires-clause-formula
affirmed-requires-clause-formula c = formula_kept (keeps_all_trans (keeps_all_trans (keeps_all_trans c.negated.ensures.keeps c.assumed.ensures.keeps) c.ex_i.ensures.keeps) c.assumed-2.ensures.keeps) (formula_at c.in_ok-said.ensures.is (formula_has (body_has (predicate_has c.requires.predicate) (fresh_has c.requires.fresh))))

pub affirmed-requires-clause-negated : goal.affirmed-requires-clause-negated
affirmed-requires-clause-negated c =
    let witness = c.assumed-2.ensures.keeps.records.concls c.in_ok-witness.witness c.in_ok-witness.ensures.there ∙ c.in_ok-witness.ensures.concl ∙ (at_kept (keeps_all_trans (keeps_all_trans c.opened.ensures.keeps c.negated.ensures.keeps) c.assumed.ensures.keeps) c.requires.some).is in
    c.in_ok-no.ensures.concl ∙ (at_kept (keeps_all_trans (keeps_all_trans (keeps_all_trans c.opened.ensures.keeps c.negated.ensures.keeps) c.assumed.ensures.keeps) c.ex_i.ensures.keeps) c.requires.opposite).is ∙ sym (ap (λ t. negation t) (witness))

pub returns-clause-concl : goal.returns-clause-concl
returns-clause-concl c = c.in_ok-r.ensures.concl ∙ (at_kept (keeps_all_trans (keeps_all_trans (keeps_all_trans c.negated.ensures.keeps c.assumed.ensures.keeps) c.ex_i.ensures.keeps) c.assumed-2.ensures.keeps) c.in_ok-said.ensures.is).is

pub returns-clause-under : goal.returns-clause-under
returns-clause-under c =
    let k = c.args.k.now in
    let ty = type_tree k.store.types c.args.p.ty in
    let b = term_tree k.store c.args.p.body in
    let d = some_contrary k.store c.args.p in
    let said = subst_bound b 0 (term_tree k.store c.args.v) in
    let given = negation said ∷ negation d ∷ [] in
    let taken = rw ((at_kept (keeps_all_trans (keeps_all_trans (keeps_all_trans c.opened.ensures.keeps c.negated.ensures.keeps) c.assumed.ensures.keeps) c.ex_i.ensures.keeps) c.requires.opposite).is) at c.in_ok-no.ensures.under in
    let denial = c.in_ok-denial.ensures.is.is ∙ ap (λ t. negation t) (c.in_ok-said.ensures.is.is) in
    let start = rw denial at c.in_ok-case.ensures.under in
    let witness = under_one (start given (inl refl)) c.in_ok-witness.ensures.hyps c.in_ok-witness.ensures.bare in
    let affirmed = rw ((at_kept (keeps_all_trans (keeps_all_trans (keeps_all_trans c.negated.ensures.keeps c.assumed.ensures.keeps) c.ex_i.ensures.keeps) c.assumed-2.ensures.keeps) c.in_ok-said.ensures.is).is) at c.in_ok-r.ensures.under in
    affirmed (negation d ∷ []) (taken given (inr (inl refl))) (under_keeps c.assumed-2.ensures.keeps c.in_ok-witness.ensures.there witness)

pub returns-in_err-case-clause-shape : goal.returns-in_err-case-clause-shape
returns-in_err-case-clause-shape c = passed_on c.from_residual-in_err-case.result c.in_err-case.field-0.0 c.from_residual-in_err-case.ensures.1 (λ e. c.in_err-case.ensures.shape e)

pub returns-in_err-witness-clause-shape : goal.returns-in_err-witness-clause-shape
returns-in_err-witness-clause-shape c = passed_on c.from_residual-in_err-witness.result c.in_err-witness.field-0.0 c.from_residual-in_err-witness.ensures.1 (λ e. c.in_err-witness.ensures.shape e (witness_for (fresh_type c.requires.fresh) (tree_kept (keeps_all_trans (keeps_all_trans c.opened.ensures.keeps c.negated.ensures.keeps) c.assumed.ensures.keeps) c.requires.variable) (at_kept (keeps_all_trans (keeps_all_trans c.opened.ensures.keeps c.negated.ensures.keeps) c.assumed.ensures.keeps) c.requires.some).is (c.in_ok-case.ensures.concl ∙ c.in_ok-denial.ensures.is.is ∙ ap (λ t. negation t) (c.in_ok-said.ensures.is.is))))

pub returns-in_err-no-clause-shape : goal.returns-in_err-no-clause-shape
returns-in_err-no-clause-shape c = passed_on c.from_residual-in_err-no.result c.in_err-no.field-0.0 c.from_residual-in_err-no.ensures.1 (λ e. c.in_err-no.ensures.shape e)

pub returns-in_err-r-clause-shape : goal.returns-in_err-r-clause-shape
returns-in_err-r-clause-shape c = passed_on c.from_residual-in_err-r.result c.in_err-r.field-0.0 c.from_residual-in_err-r.ensures.1 (λ e. c.in_err-r.ensures.shape e)

pub returns-in_err-said-clause-keeps : goal.returns-in_err-said-clause-keeps
returns-in_err-said-clause-keeps c = c.opened.ensures.keeps

pub returns-in_err-denial-clause-keeps : goal.returns-in_err-denial-clause-keeps
returns-in_err-denial-clause-keeps c = keeps_all_trans c.opened.ensures.keeps c.negated.ensures.keeps

pub returns-in_err-case-clause-keeps : goal.returns-in_err-case-clause-keeps
returns-in_err-case-clause-keeps c = keeps_all_trans (keeps_all_trans c.opened.ensures.keeps c.negated.ensures.keeps) c.assumed.ensures.keeps

pub returns-in_err-witness-clause-keeps : goal.returns-in_err-witness-clause-keeps
returns-in_err-witness-clause-keeps c = keeps_all_trans (keeps_all_trans (keeps_all_trans c.opened.ensures.keeps c.negated.ensures.keeps) c.assumed.ensures.keeps) c.ex_i.ensures.keeps

pub returns-in_err-no-clause-keeps : goal.returns-in_err-no-clause-keeps
returns-in_err-no-clause-keeps c = keeps_all_trans (keeps_all_trans (keeps_all_trans (keeps_all_trans c.opened.ensures.keeps c.negated.ensures.keeps) c.assumed.ensures.keeps) c.ex_i.ensures.keeps) c.assumed-2.ensures.keeps

pub returns-in_err-r-clause-keeps : goal.returns-in_err-r-clause-keeps
returns-in_err-r-clause-keeps c = keeps_all_trans (keeps_all_trans (keeps_all_trans (keeps_all_trans (keeps_all_trans c.opened.ensures.keeps c.negated.ensures.keeps) c.assumed.ensures.keeps) c.ex_i.ensures.keeps) c.assumed-2.ensures.keeps) c.affirmed.ensures.keeps

pub returns-clause-keeps : goal.returns-clause-keeps
returns-clause-keeps c = keeps_all_trans (keeps_all_trans (keeps_all_trans (keeps_all_trans (keeps_all_trans c.opened.ensures.keeps c.negated.ensures.keeps) c.assumed.ensures.keeps) c.ex_i.ensures.keeps) c.assumed-2.ensures.keeps) c.affirmed.ensures.keeps
