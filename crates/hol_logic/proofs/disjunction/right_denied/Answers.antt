use Rattle.std.proofs.Common.{◌≡◌, ◌∙◌, ◌∷◌, refl, sym, inl, ap}
use Rattle.hol_terms.specs.TermStore.{term_tree}
use Rattle.hol_terms.specs.Constants.{negation, disjunction}
use Rattle.lcf_kernel.specs.KernelState.{concl_of}
use Rattle.lcf_kernel.proofs.KeepLemmas.{keeps_all_trans}
use Rattle.lcf_kernel.proofs.KeptLemmas.{has_kept, term_kept, tree_kept, closed_kept}
use Rattle.hol_logic.specs.Under.{IsUnder}
use Rattle.hol_logic.proofs.StateLemmas.{passed_on}
use Rattle.hol_logic.proofs.UnderLemmas.{under_keeps, formula_kept, bool_kept, under_more, under_one}
use Rattle.hol_logic.proofs.disjunction.right_denied.Goals as goal

pub assumed-requires : goal.assumed-requires
assumed-requires c = c.requires.formulas.right

pub or_i2-requires-clause-thm : goal.or_i2-requires-clause-thm
or_i2-requires-clause-thm c = c.in_ok-case.ensures.there

pub or_i2-requires-clause-there : goal.or_i2-requires-clause-there
or_i2-requires-clause-there c = term_kept c.assumed.ensures.keeps c.requires.formulas.left.there

pub or_i2-requires-clause-closed : goal.or_i2-requires-clause-closed
or_i2-requires-clause-closed c = closed_kept c.assumed.ensures.keeps c.requires.formulas.left.there c.requires.formulas.left.formula.closed

pub denied-requires-clause-no : goal.denied-requires-clause-no
denied-requires-clause-no c = has_kept (keeps_all_trans c.assumed.ensures.keeps c.or_i2.ensures.keeps) c.requires.no

pub denied-requires-clause-yes : goal.denied-requires-clause-yes
denied-requires-clause-yes c = c.in_ok-either.ensures.there

pub denied-requires-clause-formula : goal.denied-requires-clause-formula
denied-requires-clause-formula c = formula_kept (keeps_all_trans c.assumed.ensures.keeps c.or_i2.ensures.keeps) c.requires.formulas.right

pub denied-requires-clause-negated : goal.denied-requires-clause-negated
denied-requires-clause-negated c =
    let k = c.args.k.now in
    let either : concl_of c.or_i2.new.self c.in_ok-either.either ≡ disjunction (term_tree k.store c.args.a) (term_tree k.store c.args.b) = c.in_ok-either.ensures.concl ∙ rw (c.in_ok-case.ensures.concl, tree_kept c.assumed.ensures.keeps c.requires.formulas.left.there) refl in
    (keeps_all_trans c.assumed.ensures.keeps c.or_i2.ensures.keeps).records.concls c.args.no c.requires.no ∙ c.requires.denies ∙ sym (ap (λ t. negation t) either)

pub returns-clause-concl : goal.returns-clause-concl
returns-clause-concl c = c.in_ok-r.ensures.concl ∙ ap (λ t. negation t) (tree_kept (keeps_all_trans c.assumed.ensures.keeps c.or_i2.ensures.keeps) c.requires.formulas.right.there)

pub returns-clause-under : goal.returns-clause-under
returns-clause-under c hyps u =
    let p = term_tree c.args.k.now.store c.args.b in
    let case = c.in_ok-case.ensures.under (p ∷ hyps) (inl refl) in
    let either : IsUnder c.or_i2.new.self c.in_ok-either.either (p ∷ hyps) = under_one case c.in_ok-either.ensures.hyps c.in_ok-either.ensures.bare in
    let denied = rw (tree_kept (keeps_all_trans c.assumed.ensures.keeps c.or_i2.ensures.keeps) c.requires.formulas.right.there) at c.in_ok-r.ensures.under in
    denied hyps (under_more p (under_keeps (keeps_all_trans c.assumed.ensures.keeps c.or_i2.ensures.keeps) c.requires.no u)) either

pub returns-in_err-case-clause-shape : goal.returns-in_err-case-clause-shape
returns-in_err-case-clause-shape c = passed_on c.from_residual.result c.in_err-case.field-0.0 c.from_residual.ensures.1 (λ e. c.in_err-case.ensures.shape e)

pub returns-in_err-either-clause-shape : goal.returns-in_err-either-clause-shape
returns-in_err-either-clause-shape c = passed_on c.from_residual-in_err-either.result c.in_err-either.field-0.0 c.from_residual-in_err-either.ensures.1 (λ e. c.in_err-either.ensures.shape e (bool_kept c.assumed.ensures.keeps c.requires.formulas.left))

pub returns-in_err-r-clause-shape : goal.returns-in_err-r-clause-shape
returns-in_err-r-clause-shape c = passed_on c.from_residual-in_err-r.result c.in_err-r.field-0.0 c.from_residual-in_err-r.ensures.1 (λ e. c.in_err-r.ensures.shape e)

pub returns-in_err-case-clause-keeps : goal.returns-in_err-case-clause-keeps
returns-in_err-case-clause-keeps c = c.assumed.ensures.keeps

pub returns-in_err-either-clause-keeps : goal.returns-in_err-either-clause-keeps
returns-in_err-either-clause-keeps c = keeps_all_trans c.assumed.ensures.keeps c.or_i2.ensures.keeps

pub returns-in_err-r-clause-keeps : goal.returns-in_err-r-clause-keeps
returns-in_err-r-clause-keeps c = keeps_all_trans (keeps_all_trans c.assumed.ensures.keeps c.or_i2.ensures.keeps) c.denied.ensures.keeps

pub returns-clause-keeps : goal.returns-clause-keeps
returns-clause-keeps c = keeps_all_trans (keeps_all_trans c.assumed.ensures.keeps c.or_i2.ensures.keeps) c.denied.ensures.keeps
