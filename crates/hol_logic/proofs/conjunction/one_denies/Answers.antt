use Rattle.std.proofs.Common.{◌∙◌, ◌∷◌, [], refl, inl, inr, ap}
use Rattle.hol_terms.specs.TermStore.{term_tree}
use Rattle.hol_terms.specs.Formula.{SameMembers, without}
use Rattle.hol_terms.specs.Constants.{negation, conjunction}
use Rattle.hol_terms.proofs.FormulaLemmas.{conjunction_is_formula}
use Rattle.lcf_kernel.specs.KernelState.{hyps_of}
use Rattle.lcf_kernel.proofs.KeepLemmas.{keeps_all_trans}
use Rattle.lcf_kernel.proofs.KeptLemmas.{has_kept, term_kept, tree_kept, at_kept, closed_kept}
use Rattle.hol_logic.proofs.StateLemmas.{passed_on}
use Rattle.hol_logic.proofs.UnderLemmas.{under_keeps, formula_kept, bool_kept, denials_kept, formula_at, under_less}
use Rattle.hol_logic.proofs.conjunction.one_denies.Goals as goal

pub assumed-requires : goal.assumed-requires
assumed-requires c = c.requires.formula

pub assumed-requires-2 : goal.assumed-requires-2
assumed-requires-2 c = formula_kept c.assumed.ensures.keeps (formula_at c.requires.whole (conjunction_is_formula c.requires.denials.sides.left.formula c.requires.denials.sides.right.formula))

pub refuted-requires-clause-either : goal.refuted-requires-clause-either
refuted-requires-clause-either c = has_kept c.assumed-2.ensures.keeps c.in_ok-either.ensures.there

pub refuted-requires-clause-both : goal.refuted-requires-clause-both
refuted-requires-clause-both c = c.in_ok-both.ensures.there

pub refuted-requires-clause-denies : goal.refuted-requires-clause-denies
refuted-requires-clause-denies c = rw (tree_kept (keeps_all_trans c.assumed.ensures.keeps c.assumed-2.ensures.keeps) c.requires.denials.sides.left.there, tree_kept (keeps_all_trans c.assumed.ensures.keeps c.assumed-2.ensures.keeps) c.requires.denials.sides.right.there) (c.assumed-2.ensures.keeps.records.concls c.in_ok-either.either c.in_ok-either.ensures.there ∙ c.in_ok-either.ensures.concl ∙ c.requires.denies)

pub refuted-requires-clause-says : goal.refuted-requires-clause-says
refuted-requires-clause-says c = rw (tree_kept (keeps_all_trans c.assumed.ensures.keeps c.assumed-2.ensures.keeps) c.requires.denials.sides.left.there, tree_kept (keeps_all_trans c.assumed.ensures.keeps c.assumed-2.ensures.keeps) c.requires.denials.sides.right.there) (c.in_ok-both.ensures.concl ∙ (at_kept c.assumed.ensures.keeps c.requires.whole).is)

pub refuted-requires-clause-denials : goal.refuted-requires-clause-denials
refuted-requires-clause-denials c = denials_kept (keeps_all_trans c.assumed.ensures.keeps c.assumed-2.ensures.keeps) c.requires.denials

pub not_i-requires-clause-thm : goal.not_i-requires-clause-thm
not_i-requires-clause-thm c = c.in_ok-falsity.ensures.there

pub not_i-requires-clause-there : goal.not_i-requires-clause-there
not_i-requires-clause-there c = term_kept (keeps_all_trans (keeps_all_trans c.assumed.ensures.keeps c.assumed-2.ensures.keeps) c.refuted.ensures.keeps) c.requires.whole.there

pub not_i-requires-clause-closed : goal.not_i-requires-clause-closed
not_i-requires-clause-closed c = closed_kept (keeps_all_trans (keeps_all_trans c.assumed.ensures.keeps c.assumed-2.ensures.keeps) c.refuted.ensures.keeps) c.requires.whole.there (formula_at c.requires.whole (conjunction_is_formula c.requires.denials.sides.left.formula c.requires.denials.sides.right.formula)).formula.closed

pub returns-clause-concl : goal.returns-clause-concl
returns-clause-concl c = c.in_ok-r.ensures.concl ∙ ap (λ t. negation t) ((at_kept (keeps_all_trans (keeps_all_trans c.assumed.ensures.keeps c.assumed-2.ensures.keeps) c.refuted.ensures.keeps) c.requires.whole).is)

pub returns-clause-under : goal.returns-clause-under
returns-clause-under c =
    let k = c.args.k.now in
    let d = term_tree k.store c.args.dual in
    let whole = conjunction (term_tree k.store c.args.a) (term_tree k.store c.args.b) in
    let given = whole ∷ d ∷ [] in
    let first = c.in_ok-either.ensures.under given (inr (inl refl)) in
    let taken = rw ((at_kept c.assumed.ensures.keeps c.requires.whole).is) at c.in_ok-both.ensures.under in
    let second = taken given (inl refl) in
    let falsity = c.in_ok-falsity.ensures.under given (under_keeps c.assumed-2.ensures.keeps c.in_ok-either.ensures.there first) second in
    let same : SameMembers (hyps_of c.not_i.new.self c.in_ok-r.r) (without whole (hyps_of c.refuted.new.k c.in_ok-falsity.falsity)) = rw ((at_kept (keeps_all_trans (keeps_all_trans c.assumed.ensures.keeps c.assumed-2.ensures.keeps) c.refuted.ensures.keeps) c.requires.whole).is) at c.in_ok-r.ensures.hyps in
    under_less falsity same c.in_ok-r.ensures.bare

pub returns-in_err-either-clause-shape : goal.returns-in_err-either-clause-shape
returns-in_err-either-clause-shape c = passed_on c.from_residual.result c.in_err-either.field-0.0 c.from_residual.ensures.1 (λ e. c.in_err-either.ensures.shape e)

pub returns-in_err-both-clause-shape : goal.returns-in_err-both-clause-shape
returns-in_err-both-clause-shape c = passed_on c.from_residual-in_err-both.result c.in_err-both.field-0.0 c.from_residual-in_err-both.ensures.1 (λ e. c.in_err-both.ensures.shape e)

pub returns-in_err-falsity-clause-shape : goal.returns-in_err-falsity-clause-shape
returns-in_err-falsity-clause-shape c = passed_on c.from_residual-in_err-falsity.result c.in_err-falsity.field-0.0 c.from_residual-in_err-falsity.ensures.1 (λ e. c.in_err-falsity.ensures.shape e)

pub returns-in_err-r-clause-shape : goal.returns-in_err-r-clause-shape
returns-in_err-r-clause-shape c = passed_on c.from_residual-in_err-r.result c.in_err-r.field-0.0 c.from_residual-in_err-r.ensures.1 (λ e. c.in_err-r.ensures.shape e (record { falsity = c.in_ok-falsity.ensures.concl; bool = bool_kept (keeps_all_trans (keeps_all_trans c.assumed.ensures.keeps c.assumed-2.ensures.keeps) c.refuted.ensures.keeps) (formula_at c.requires.whole (conjunction_is_formula c.requires.denials.sides.left.formula c.requires.denials.sides.right.formula)) }))

pub returns-in_err-either-clause-keeps : goal.returns-in_err-either-clause-keeps
returns-in_err-either-clause-keeps c = c.assumed.ensures.keeps

pub returns-in_err-both-clause-keeps : goal.returns-in_err-both-clause-keeps
returns-in_err-both-clause-keeps c = keeps_all_trans c.assumed.ensures.keeps c.assumed-2.ensures.keeps

pub returns-in_err-falsity-clause-keeps : goal.returns-in_err-falsity-clause-keeps
returns-in_err-falsity-clause-keeps c = keeps_all_trans (keeps_all_trans c.assumed.ensures.keeps c.assumed-2.ensures.keeps) c.refuted.ensures.keeps

pub returns-in_err-r-clause-keeps : goal.returns-in_err-r-clause-keeps
returns-in_err-r-clause-keeps c = keeps_all_trans (keeps_all_trans (keeps_all_trans c.assumed.ensures.keeps c.assumed-2.ensures.keeps) c.refuted.ensures.keeps) c.not_i.ensures.keeps

pub returns-clause-keeps : goal.returns-clause-keeps
returns-clause-keeps c = keeps_all_trans (keeps_all_trans (keeps_all_trans c.assumed.ensures.keeps c.assumed-2.ensures.keeps) c.refuted.ensures.keeps) c.not_i.ensures.keeps
