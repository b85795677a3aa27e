use Rattle.std.proofs.Common.{◌≡◌, ◌∙◌, ◌∷◌, [], refl, sym, inl, inr, ap}
use Rattle.hol_terms.specs.TermStore.{term_tree}
use Rattle.hol_terms.specs.Constants.{negation, conjunction, disjunction}
use Rattle.hol_terms.proofs.FormulaLemmas.{negation_is_formula, disjunction_is_formula}
use Rattle.lcf_kernel.specs.KernelState.{concl_of}
use Rattle.lcf_kernel.proofs.KeepLemmas.{keeps_all_trans}
use Rattle.lcf_kernel.proofs.KeptLemmas.{has_kept, tree_kept, at_kept}
use Rattle.hol_logic.proofs.StateLemmas.{passed_on}
use Rattle.hol_logic.proofs.UnderLemmas.{under_keeps, formula_kept, denials_kept, formula_at, under_all}
use Rattle.hol_logic.proofs.conjunction.one_denied.Goals as goal

pub either-requires-clause-left : goal.either-requires-clause-left
either-requires-clause-left c = c.requires.denials.left.there

pub either-requires-clause-right : goal.either-requires-clause-right
either-requires-clause-right c = c.requires.denials.right.there

pub either-requires-clause-left_bool : goal.either-requires-clause-left_bool
either-requires-clause-left_bool c = (formula_at c.requires.denials.left (negation_is_formula c.requires.denials.sides.left.formula)).formula.bool

pub either-requires-clause-right_bool : goal.either-requires-clause-right_bool
either-requires-clause-right_bool c = (formula_at c.requires.denials.right (negation_is_formula c.requires.denials.sides.right.formula)).formula.bool

pub negated-requires-clause-there : goal.negated-requires-clause-there
negated-requires-clause-there c = c.in_ok-dual.ensures.is.there

pub negated-requires-clause-bool : goal.negated-requires-clause-bool
negated-requires-clause-bool c = (formula_at c.in_ok-dual.ensures.is (disjunction_is_formula (formula_at c.requires.denials.left (negation_is_formula c.requires.denials.sides.left.formula)).formula (formula_at c.requires.denials.right (negation_is_formula c.requires.denials.sides.right.formula)).formula)).formula.bool

pub both_affirmed-requires-clause-formula : goal.both_affirmed-requires-clause-formula
both_affirmed-requires-clause-formula c = formula_at c.in_ok-opposite.ensures.is (negation_is_formula (formula_at c.in_ok-dual.ensures.is (disjunction_is_formula (formula_at c.requires.denials.left (negation_is_formula c.requires.denials.sides.left.formula)).formula (formula_at c.requires.denials.right (negation_is_formula c.requires.denials.sides.right.formula)).formula)).formula)

pub both_affirmed-requires-clause-denies : goal.both_affirmed-requires-clause-denies
both_affirmed-requires-clause-denies c = rw (tree_kept (keeps_all_trans c.either.ensures.keeps c.negated.ensures.keeps) c.requires.denials.sides.left.there, tree_kept (keeps_all_trans c.either.ensures.keeps c.negated.ensures.keeps) c.requires.denials.sides.right.there) (c.in_ok-opposite.ensures.is.is ∙ ap (λ t. negation t) ((rw (c.requires.denials.left.is, c.requires.denials.right.is) at c.in_ok-dual.ensures.is).is))

pub both_affirmed-requires-clause-denials : goal.both_affirmed-requires-clause-denials
both_affirmed-requires-clause-denials c = denials_kept (keeps_all_trans c.either.ensures.keeps c.negated.ensures.keeps) c.requires.denials

pub assumed-requires : goal.assumed-requires
assumed-requires c = formula_kept (keeps_all_trans (keeps_all_trans c.either.ensures.keeps c.negated.ensures.keeps) c.both_affirmed.ensures.keeps) c.requires.formula

pub affirmed-requires-clause-no : goal.affirmed-requires-clause-no
affirmed-requires-clause-no c = c.in_ok-no.ensures.there

pub affirmed-requires-clause-yes : goal.affirmed-requires-clause-yes
affirmed-requires-clause-yes c = has_kept c.assumed.ensures.keeps c.in_ok-whole.ensures.there

pub affirmed-requires-clause-formula : goal.affirmed-requires-clause-formula
affirmed-requires-clause-formula c = formula_kept (keeps_all_trans (keeps_all_trans c.negated.ensures.keeps c.both_affirmed.ensures.keeps) c.assumed.ensures.keeps) (formula_at c.in_ok-dual.ensures.is (disjunction_is_formula (formula_at c.requires.denials.left (negation_is_formula c.requires.denials.sides.left.formula)).formula (formula_at c.requires.denials.right (negation_is_formula c.requires.denials.sides.right.formula)).formula))

pub affirmed-requires-clause-negated : goal.affirmed-requires-clause-negated
affirmed-requires-clause-negated c =
    let k = c.args.k.now in
    let whole : concl_of c.both_affirmed.new.k c.in_ok-whole.whole ≡ conjunction (term_tree k.store c.args.a) (term_tree k.store c.args.b) = c.in_ok-whole.ensures.concl ∙ rw (tree_kept (keeps_all_trans c.either.ensures.keeps c.negated.ensures.keeps) c.requires.denials.sides.left.there, tree_kept (keeps_all_trans c.either.ensures.keeps c.negated.ensures.keeps) c.requires.denials.sides.right.there) refl in
    c.in_ok-no.ensures.concl ∙ tree_kept (keeps_all_trans (keeps_all_trans c.either.ensures.keeps c.negated.ensures.keeps) c.both_affirmed.ensures.keeps) c.requires.formula.there ∙ c.requires.denies ∙ sym (ap (λ t. negation t) (c.assumed.ensures.keeps.records.concls c.in_ok-whole.whole c.in_ok-whole.ensures.there ∙ whole))

pub returns-clause-concl : goal.returns-clause-concl
returns-clause-concl c =
    let dual = rw (c.requires.denials.left.is, c.requires.denials.right.is) at c.in_ok-dual.ensures.is in
    c.in_ok-r.ensures.concl ∙ (at_kept (keeps_all_trans (keeps_all_trans c.negated.ensures.keeps c.both_affirmed.ensures.keeps) c.assumed.ensures.keeps) dual).is

pub returns-clause-under : goal.returns-clause-under
returns-clause-under c =
    let k = c.args.k.now in
    let t = term_tree k.store c.args.t in
    let dual = rw (c.requires.denials.left.is, c.requires.denials.right.is) at c.in_ok-dual.ensures.is in
    let d = disjunction (negation (term_tree k.store c.args.a)) (negation (term_tree k.store c.args.b)) in
    let given = negation d ∷ t ∷ [] in
    let opposite = c.in_ok-opposite.ensures.is.is ∙ ap (λ u. negation u) dual.is in
    let whole = rw opposite at c.in_ok-whole.ensures.under in
    let taken = rw (tree_kept (keeps_all_trans (keeps_all_trans c.either.ensures.keeps c.negated.ensures.keeps) c.both_affirmed.ensures.keeps) c.requires.formula.there) at c.in_ok-no.ensures.under in
    let affirmed = rw ((at_kept (keeps_all_trans (keeps_all_trans c.negated.ensures.keeps c.both_affirmed.ensures.keeps) c.assumed.ensures.keeps) dual).is) at c.in_ok-r.ensures.under in
    affirmed (t ∷ []) (taken given (inr (inl refl))) (under_keeps c.assumed.ensures.keeps c.in_ok-whole.ensures.there (under_all whole))

pub returns-in_err-whole-clause-shape : goal.returns-in_err-whole-clause-shape
returns-in_err-whole-clause-shape c = passed_on c.from_residual-in_err-whole.result c.in_err-whole.field-0.0 c.from_residual-in_err-whole.ensures.1 (λ e. c.in_err-whole.ensures.shape e)

pub returns-in_err-no-clause-shape : goal.returns-in_err-no-clause-shape
returns-in_err-no-clause-shape c = passed_on c.from_residual-in_err-no.result c.in_err-no.field-0.0 c.from_residual-in_err-no.ensures.1 (λ e. c.in_err-no.ensures.shape e)

pub returns-in_err-r-clause-shape : goal.returns-in_err-r-clause-shape
returns-in_err-r-clause-shape c = passed_on c.from_residual-in_err-r.result c.in_err-r.field-0.0 c.from_residual-in_err-r.ensures.1 (λ e. c.in_err-r.ensures.shape e)

pub returns-in_err-dual-clause-keeps : goal.returns-in_err-dual-clause-keeps
returns-in_err-dual-clause-keeps c = c.either.ensures.keeps

pub returns-in_err-opposite-clause-keeps : goal.returns-in_err-opposite-clause-keeps
returns-in_err-opposite-clause-keeps c = keeps_all_trans c.either.ensures.keeps c.negated.ensures.keeps

pub returns-in_err-whole-clause-keeps : goal.returns-in_err-whole-clause-keeps
returns-in_err-whole-clause-keeps c = keeps_all_trans (keeps_all_trans c.either.ensures.keeps c.negated.ensures.keeps) c.both_affirmed.ensures.keeps

pub returns-in_err-no-clause-keeps : goal.returns-in_err-no-clause-keeps
returns-in_err-no-clause-keeps c = keeps_all_trans (keeps_all_trans (keeps_all_trans c.either.ensures.keeps c.negated.ensures.keeps) c.both_affirmed.ensures.keeps) c.assumed.ensures.keeps

pub returns-in_err-r-clause-keeps : goal.returns-in_err-r-clause-keeps
returns-in_err-r-clause-keeps c = keeps_all_trans (keeps_all_trans (keeps_all_trans (keeps_all_trans c.either.ensures.keeps c.negated.ensures.keeps) c.both_affirmed.ensures.keeps) c.assumed.ensures.keeps) c.affirmed.ensures.keeps

pub returns-clause-keeps : goal.returns-clause-keeps
returns-clause-keeps c = keeps_all_trans (keeps_all_trans (keeps_all_trans (keeps_all_trans c.either.ensures.keeps c.negated.ensures.keeps) c.both_affirmed.ensures.keeps) c.assumed.ensures.keeps) c.affirmed.ensures.keeps
