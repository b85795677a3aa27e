use Rattle.std.proofs.Common.{◌≡◌, ◌∙◌, ◌∷◌, refl, sym, inl, ap}
use Rattle.hol_terms.specs.TermStore.{term_tree}
use Rattle.hol_terms.specs.Constants.{negation}
use Rattle.lcf_kernel.specs.KernelState.{concl_of}
use Rattle.lcf_kernel.proofs.KeepLemmas.{keeps_all_trans}
use Rattle.lcf_kernel.proofs.KeptLemmas.{has_kept, tree_kept}
use Rattle.hol_logic.specs.Under.{IsUnder}
use Rattle.hol_logic.proofs.StateLemmas.{passed_on}
use Rattle.hol_logic.proofs.UnderLemmas.{under_keeps, formula_kept, under_more, under_one, under_two, conjunct_left}
use Rattle.hol_logic.proofs.disjunction.left_excluded.Goals as goal

pub assumed-requires : goal.assumed-requires
assumed-requires c = formula_kept c.and_e1.ensures.keeps c.requires.formulas.left

pub not_e-requires-clause-left : goal.not_e-requires-clause-left
not_e-requires-clause-left c = has_kept c.assumed.ensures.keeps c.in_ok-denial.ensures.there

pub not_e-requires-clause-right : goal.not_e-requires-clause-right
not_e-requires-clause-right c = c.in_ok-case.ensures.there

pub returns-clause-under : goal.returns-clause-under
returns-clause-under c hyps u =
    let p = term_tree c.args.k.now.store c.args.a in
    let denial : IsUnder c.and_e1.new.self c.in_ok-denial.denial (p ∷ hyps) = under_one (under_more p u) c.in_ok-denial.ensures.hyps c.in_ok-denial.ensures.bare in
    let case = rw (tree_kept c.and_e1.ensures.keeps c.requires.formulas.left.there) at c.in_ok-case.ensures.under in
    under_two (under_keeps c.assumed.ensures.keeps c.in_ok-denial.ensures.there denial) (case (p ∷ hyps) (inl refl)) c.in_ok-r.ensures.hyps c.in_ok-r.ensures.bare

pub returns-in_err-denial-clause-shape : goal.returns-in_err-denial-clause-shape
returns-in_err-denial-clause-shape c = passed_on c.from_residual.result c.in_err-denial.field-0.0 c.from_residual.ensures.1 (λ e. c.in_err-denial.ensures.shape e _ _ c.requires.denies)

pub returns-in_err-case-clause-shape : goal.returns-in_err-case-clause-shape
returns-in_err-case-clause-shape c = passed_on c.from_residual-in_err-case.result c.in_err-case.field-0.0 c.from_residual-in_err-case.ensures.1 (λ e. c.in_err-case.ensures.shape e)

pub returns-in_err-r-clause-shape : goal.returns-in_err-r-clause-shape
returns-in_err-r-clause-shape c =
    let k = c.args.k.now in
    let p = term_tree k.store c.args.a in
    let denial : concl_of c.and_e1.new.self c.in_ok-denial.denial ≡ negation p = conjunct_left c.in_ok-denial.ensures.concl.1 c.requires.denies in
    let case : concl_of c.assumed.new.k c.in_ok-case.case ≡ p = c.in_ok-case.ensures.concl ∙ tree_kept c.and_e1.ensures.keeps c.requires.formulas.left.there in
    passed_on c.from_residual-in_err-r.result c.in_err-r.field-0.0 c.from_residual-in_err-r.ensures.1 (λ e. c.in_err-r.ensures.shape e (c.assumed.ensures.keeps.records.concls c.in_ok-denial.denial c.in_ok-denial.ensures.there ∙ denial ∙ sym (ap (λ t. negation t) case)))

pub returns-in_err-denial-clause-keeps : goal.returns-in_err-denial-clause-keeps
returns-in_err-denial-clause-keeps c = c.and_e1.ensures.keeps

pub returns-in_err-case-clause-keeps : goal.returns-in_err-case-clause-keeps
returns-in_err-case-clause-keeps c = keeps_all_trans c.and_e1.ensures.keeps c.assumed.ensures.keeps

pub returns-in_err-r-clause-keeps : goal.returns-in_err-r-clause-keeps
returns-in_err-r-clause-keeps c = keeps_all_trans (keeps_all_trans c.and_e1.ensures.keeps c.assumed.ensures.keeps) c.not_e.ensures.keeps

pub returns-clause-keeps : goal.returns-clause-keeps
returns-clause-keeps c = keeps_all_trans (keeps_all_trans c.and_e1.ensures.keeps c.assumed.ensures.keeps) c.not_e.ensures.keeps
