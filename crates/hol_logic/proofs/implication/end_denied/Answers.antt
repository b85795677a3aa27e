use Rattle.std.proofs.Common.{◌≡◌, ◌∙◌, ◌∷◌, refl, sym, inl, ap}
use Rattle.hol_terms.specs.TermStore.{term_tree}
use Rattle.hol_terms.specs.Constants.{negation, implication}
use Rattle.lcf_kernel.specs.KernelState.{concl_of}
use Rattle.lcf_kernel.proofs.KeepLemmas.{keeps_all_trans}
use Rattle.lcf_kernel.proofs.KeptLemmas.{has_kept, term_kept, tree_kept, closed_kept}
use Rattle.hol_logic.specs.Under.{IsUnder}
use Rattle.hol_logic.proofs.StateLemmas.{passed_on}
use Rattle.hol_logic.proofs.UnderLemmas.{under_keeps, formula_kept, bool_kept, under_more, under_less}
use Rattle.hol_logic.proofs.implication.end_denied.Goals as goal

pub assumed-requires : goal.assumed-requires
assumed-requires c = c.requires.formulas.right

pub imp_i-requires-clause-thm : goal.imp_i-requires-clause-thm
imp_i-requires-clause-thm c = c.in_ok-case.ensures.there

pub imp_i-requires-clause-there : goal.imp_i-requires-clause-there
imp_i-requires-clause-there c = term_kept c.assumed.ensures.keeps c.requires.formulas.left.there

pub imp_i-requires-clause-closed : goal.imp_i-requires-clause-closed
imp_i-requires-clause-closed c = closed_kept c.assumed.ensures.keeps c.requires.formulas.left.there c.requires.formulas.left.formula.closed

pub denied-requires-clause-no : goal.denied-requires-clause-no
denied-requires-clause-no c = has_kept (keeps_all_trans c.assumed.ensures.keeps c.imp_i.ensures.keeps) c.requires.no

pub denied-requires-clause-yes : goal.denied-requires-clause-yes
denied-requires-clause-yes c = c.in_ok-step.ensures.there

pub denied-requires-clause-formula : goal.denied-requires-clause-formula
denied-requires-clause-formula c = formula_kept (keeps_all_trans c.assumed.ensures.keeps c.imp_i.ensures.keeps) c.requires.formulas.right

pub denied-requires-clause-negated : goal.denied-requires-clause-negated
denied-requires-clause-negated c =
    let k = c.args.k.now in
    let step : concl_of c.imp_i.new.self c.in_ok-step.step ≡ implication (term_tree k.store c.args.a) (term_tree k.store c.args.b) = c.in_ok-step.ensures.concl ∙ rw (c.in_ok-case.ensures.concl, tree_kept c.assumed.ensures.keeps c.requires.formulas.left.there) refl in
    (keeps_all_trans c.assumed.ensures.keeps c.imp_i.ensures.keeps).records.concls c.args.no c.requires.no ∙ c.requires.denies ∙ sym (ap (λ t. negation t) step)

pub returns-clause-concl : goal.returns-clause-concl
returns-clause-concl c = c.in_ok-r.ensures.concl ∙ ap (λ t. negation t) (tree_kept (keeps_all_trans c.assumed.ensures.keeps c.imp_i.ensures.keeps) c.requires.formulas.right.there)

pub returns-clause-under : goal.returns-clause-under
returns-clause-under c hyps u =
    let p = term_tree c.args.k.now.store c.args.b in
    let case = c.in_ok-case.ensures.under (p ∷ hyps) (inl refl) in
    let step : IsUnder c.imp_i.new.self c.in_ok-step.step (p ∷ hyps) = under_less (under_more (term_tree c.assumed.new.k.store c.args.a) case) c.in_ok-step.ensures.hyps c.in_ok-step.ensures.bare in
    let denied = rw (tree_kept (keeps_all_trans c.assumed.ensures.keeps c.imp_i.ensures.keeps) c.requires.formulas.right.there) at c.in_ok-r.ensures.under in
    denied hyps (under_more p (under_keeps (keeps_all_trans c.assumed.ensures.keeps c.imp_i.ensures.keeps) c.requires.no u)) step

pub returns-in_err-case-clause-shape : goal.returns-in_err-case-clause-shape
returns-in_err-case-clause-shape c = passed_on c.from_residual.result c.in_err-case.field-0.0 c.from_residual.ensures.1 (λ e. c.in_err-case.ensures.shape e)

pub returns-in_err-step-clause-shape : goal.returns-in_err-step-clause-shape
returns-in_err-step-clause-shape c = passed_on c.from_residual-in_err-step.result c.in_err-step.field-0.0 c.from_residual-in_err-step.ensures.1 (λ e. c.in_err-step.ensures.shape e (bool_kept c.assumed.ensures.keeps c.requires.formulas.left))

pub returns-in_err-r-clause-shape : goal.returns-in_err-r-clause-shape
returns-in_err-r-clause-shape c = passed_on c.from_residual-in_err-r.result c.in_err-r.field-0.0 c.from_residual-in_err-r.ensures.1 (λ e. c.in_err-r.ensures.shape e)

pub returns-in_err-case-clause-keeps : goal.returns-in_err-case-clause-keeps
returns-in_err-case-clause-keeps c = c.assumed.ensures.keeps

pub returns-in_err-step-clause-keeps : goal.returns-in_err-step-clause-keeps
returns-in_err-step-clause-keeps c = keeps_all_trans c.assumed.ensures.keeps c.imp_i.ensures.keeps

pub returns-in_err-r-clause-keeps : goal.returns-in_err-r-clause-keeps
returns-in_err-r-clause-keeps c = keeps_all_trans (keeps_all_trans c.assumed.ensures.keeps c.imp_i.ensures.keeps) c.denied.ensures.keeps

pub returns-clause-keeps : goal.returns-clause-keeps
returns-clause-keeps c = keeps_all_trans (keeps_all_trans c.assumed.ensures.keeps c.imp_i.ensures.keeps) c.denied.ensures.keeps
