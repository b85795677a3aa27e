use Rattle.std.proofs.Common.{◌∙◌, ◌∷◌, [], refl, sym, inl, inr, ap}
use Rattle.hol_terms.specs.TermStore.{term_tree}
use Rattle.hol_terms.specs.Formula.{SameMembers, without}
use Rattle.hol_terms.specs.Constants.{negation}
use Rattle.hol_terms.proofs.FormulaLemmas.{negation_is_formula}
use Rattle.lcf_kernel.specs.KernelState.{hyps_of}
use Rattle.lcf_kernel.proofs.KeepLemmas.{keeps_all_trans}
use Rattle.lcf_kernel.proofs.KeptLemmas.{has_kept, term_kept, tree_kept, closed_kept}
use Rattle.hol_logic.specs.Under.{IsUnder}
use Rattle.hol_logic.proofs.StateLemmas.{passed_on}
use Rattle.hol_logic.proofs.UnderLemmas.{under_keeps, formula_kept, bool_kept, formula_at, under_one, under_less, under_two}
use Rattle.hol_logic.proofs.implication.led_anywhere.Goals as goal

pub assumed-requires : goal.assumed-requires
assumed-requires c = formula_at c.requires.denial (negation_is_formula c.requires.formulas.left.formula)

pub assumed-requires-2 : goal.assumed-requires-2
assumed-requires-2 c = formula_kept c.assumed.ensures.keeps c.requires.formulas.left

pub not_e-requires-clause-left : goal.not_e-requires-clause-left
not_e-requires-clause-left c = has_kept c.assumed-2.ensures.keeps c.in_ok-no.ensures.there

pub not_e-requires-clause-right : goal.not_e-requires-clause-right
not_e-requires-clause-right c = c.in_ok-case.ensures.there

pub false_e-requires-clause-thm : goal.false_e-requires-clause-thm
false_e-requires-clause-thm c = c.in_ok-falsity.ensures.there

pub false_e-requires-clause-there : goal.false_e-requires-clause-there
false_e-requires-clause-there c = term_kept (keeps_all_trans (keeps_all_trans c.assumed.ensures.keeps c.assumed-2.ensures.keeps) c.not_e.ensures.keeps) c.requires.formulas.right.there

pub false_e-requires-clause-closed : goal.false_e-requires-clause-closed
false_e-requires-clause-closed c = closed_kept (keeps_all_trans (keeps_all_trans c.assumed.ensures.keeps c.assumed-2.ensures.keeps) c.not_e.ensures.keeps) c.requires.formulas.right.there c.requires.formulas.right.formula.closed

pub imp_i-requires-clause-thm : goal.imp_i-requires-clause-thm
imp_i-requires-clause-thm c = c.in_ok-any.ensures.there

pub imp_i-requires-clause-there : goal.imp_i-requires-clause-there
imp_i-requires-clause-there c = term_kept (keeps_all_trans (keeps_all_trans (keeps_all_trans c.assumed.ensures.keeps c.assumed-2.ensures.keeps) c.not_e.ensures.keeps) c.false_e.ensures.keeps) c.requires.formulas.left.there

pub imp_i-requires-clause-closed : goal.imp_i-requires-clause-closed
imp_i-requires-clause-closed c = closed_kept (keeps_all_trans (keeps_all_trans (keeps_all_trans c.assumed.ensures.keeps c.assumed-2.ensures.keeps) c.not_e.ensures.keeps) c.false_e.ensures.keeps) c.requires.formulas.left.there c.requires.formulas.left.formula.closed

pub returns-clause-concl : goal.returns-clause-concl
returns-clause-concl c = c.in_ok-r.ensures.concl ∙ rw (tree_kept (keeps_all_trans (keeps_all_trans (keeps_all_trans c.assumed.ensures.keeps c.assumed-2.ensures.keeps) c.not_e.ensures.keeps) c.false_e.ensures.keeps) c.requires.formulas.left.there, c.in_ok-any.ensures.concl, tree_kept (keeps_all_trans (keeps_all_trans c.assumed.ensures.keeps c.assumed-2.ensures.keeps) c.not_e.ensures.keeps) c.requires.formulas.right.there) refl

pub returns-clause-under : goal.returns-clause-under
returns-clause-under c =
    let a = term_tree c.args.k.now.store c.args.a in
    let given = a ∷ negation a ∷ [] in
    let taken = rw c.requires.denial.is at c.in_ok-no.ensures.under in
    let no = taken given (inr (inl refl)) in
    let start = rw (tree_kept c.assumed.ensures.keeps c.requires.formulas.left.there) at c.in_ok-case.ensures.under in
    let case = start given (inl refl) in
    let falsity : IsUnder c.not_e.new.self c.in_ok-falsity.falsity given = under_two (under_keeps c.assumed-2.ensures.keeps c.in_ok-no.ensures.there no) case c.in_ok-falsity.ensures.hyps c.in_ok-falsity.ensures.bare in
    let any : IsUnder c.false_e.new.self c.in_ok-any.any given = under_one falsity c.in_ok-any.ensures.hyps c.in_ok-any.ensures.bare in
    let same : SameMembers (hyps_of c.imp_i.new.self c.in_ok-r.r) (without a (hyps_of c.false_e.new.self c.in_ok-any.any)) = rw (tree_kept (keeps_all_trans (keeps_all_trans (keeps_all_trans c.assumed.ensures.keeps c.assumed-2.ensures.keeps) c.not_e.ensures.keeps) c.false_e.ensures.keeps) c.requires.formulas.left.there) at c.in_ok-r.ensures.hyps in
    under_less any same c.in_ok-r.ensures.bare

pub returns-in_err-no-clause-shape : goal.returns-in_err-no-clause-shape
returns-in_err-no-clause-shape c = passed_on c.from_residual.result c.in_err-no.field-0.0 c.from_residual.ensures.1 (λ e. c.in_err-no.ensures.shape e)

pub returns-in_err-case-clause-shape : goal.returns-in_err-case-clause-shape
returns-in_err-case-clause-shape c = passed_on c.from_residual-in_err-case.result c.in_err-case.field-0.0 c.from_residual-in_err-case.ensures.1 (λ e. c.in_err-case.ensures.shape e)

pub returns-in_err-falsity-clause-shape : goal.returns-in_err-falsity-clause-shape
returns-in_err-falsity-clause-shape c =
    let case = c.in_ok-case.ensures.concl ∙ tree_kept c.assumed.ensures.keeps c.requires.formulas.left.there in
    passed_on c.from_residual-in_err-falsity.result c.in_err-falsity.field-0.0 c.from_residual-in_err-falsity.ensures.1 (λ e. c.in_err-falsity.ensures.shape e (c.assumed-2.ensures.keeps.records.concls c.in_ok-no.no c.in_ok-no.ensures.there ∙ c.in_ok-no.ensures.concl ∙ c.requires.denial.is ∙ sym (ap (λ t. negation t) case)))

pub returns-in_err-any-clause-shape : goal.returns-in_err-any-clause-shape
returns-in_err-any-clause-shape c = passed_on c.from_residual-in_err-any.result c.in_err-any.field-0.0 c.from_residual-in_err-any.ensures.1 (λ e. c.in_err-any.ensures.shape e (record { falsity = c.in_ok-falsity.ensures.concl; bool = bool_kept (keeps_all_trans (keeps_all_trans c.assumed.ensures.keeps c.assumed-2.ensures.keeps) c.not_e.ensures.keeps) c.requires.formulas.right }))

pub returns-in_err-r-clause-shape : goal.returns-in_err-r-clause-shape
returns-in_err-r-clause-shape c = passed_on c.from_residual-in_err-r.result c.in_err-r.field-0.0 c.from_residual-in_err-r.ensures.1 (λ e. c.in_err-r.ensures.shape e (bool_kept (keeps_all_trans (keeps_all_trans (keeps_all_trans c.assumed.ensures.keeps c.assumed-2.ensures.keeps) c.not_e.ensures.keeps) c.false_e.ensures.keeps) c.requires.formulas.left))

pub returns-in_err-no-clause-keeps : goal.returns-in_err-no-clause-keeps
returns-in_err-no-clause-keeps c = c.assumed.ensures.keeps

pub returns-in_err-case-clause-keeps : goal.returns-in_err-case-clause-keeps
returns-in_err-case-clause-keeps c = keeps_all_trans c.assumed.ensures.keeps c.assumed-2.ensures.keeps

pub returns-in_err-falsity-clause-keeps : goal.returns-in_err-falsity-clause-keeps
returns-in_err-falsity-clause-keeps c = keeps_all_trans (keeps_all_trans c.assumed.ensures.keeps c.assumed-2.ensures.keeps) c.not_e.ensures.keeps

pub returns-in_err-any-clause-keeps : goal.returns-in_err-any-clause-keeps
returns-in_err-any-clause-keeps c = keeps_all_trans (keeps_all_trans (keeps_all_trans c.assumed.ensures.keeps c.assumed-2.ensures.keeps) c.not_e.ensures.keeps) c.false_e.ensures.keeps

pub returns-in_err-r-clause-keeps : goal.returns-in_err-r-clause-keeps
returns-in_err-r-clause-keeps c = keeps_all_trans (keeps_all_trans (keeps_all_trans (keeps_all_trans c.assumed.ensures.keeps c.assumed-2.ensures.keeps) c.not_e.ensures.keeps) c.false_e.ensures.keeps) c.imp_i.ensures.keeps

pub returns-clause-keeps : goal.returns-clause-keeps
returns-clause-keeps c = keeps_all_trans (keeps_all_trans (keeps_all_trans (keeps_all_trans c.assumed.ensures.keeps c.assumed-2.ensures.keeps) c.not_e.ensures.keeps) c.false_e.ensures.keeps) c.imp_i.ensures.keeps
