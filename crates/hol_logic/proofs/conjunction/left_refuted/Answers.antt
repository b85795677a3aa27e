use Rattle.std.proofs.Common.{◌≡◌, ◌∙◌, ◌∷◌, refl, sym, inl, ap}
use Rattle.hol_terms.specs.TermStore.{term_tree}
use Rattle.hol_terms.specs.Constants.{negation}
use Rattle.hol_terms.proofs.FormulaLemmas.{negation_is_formula}
use Rattle.lcf_kernel.specs.KernelState.{concl_of}
use Rattle.lcf_kernel.proofs.KeepLemmas.{keeps_all_trans}
use Rattle.lcf_kernel.proofs.KeptLemmas.{has_kept, at_kept}
use Rattle.hol_logic.specs.Under.{IsUnder}
use Rattle.hol_logic.proofs.StateLemmas.{passed_on}
use Rattle.hol_logic.proofs.UnderLemmas.{under_keeps, formula_at, under_more, under_one, under_two, conjunct_left}
use Rattle.hol_logic.proofs.conjunction.left_refuted.Goals as goal

pub assumed-requires : goal.assumed-requires
assumed-requires c = formula_at (at_kept c.and_e1.ensures.keeps c.requires.denials.left) (negation_is_formula c.requires.denials.sides.left.formula)

pub not_e-requires-clause-left : goal.not_e-requires-clause-left
not_e-requires-clause-left c = c.in_ok-denial.ensures.there

pub not_e-requires-clause-right : goal.not_e-requires-clause-right
not_e-requires-clause-right c = has_kept c.assumed.ensures.keeps c.in_ok-part.ensures.there

pub returns-clause-under : goal.returns-clause-under
returns-clause-under c hyps u =
    let p = negation (term_tree c.args.k.now.store c.args.a) in
    let part : IsUnder c.and_e1.new.self c.in_ok-part.part (p ∷ hyps) = under_one (under_more p u) c.in_ok-part.ensures.hyps c.in_ok-part.ensures.bare in
    let denial = rw ((at_kept c.and_e1.ensures.keeps c.requires.denials.left).is) at c.in_ok-denial.ensures.under in
    under_two (denial (p ∷ hyps) (inl refl)) (under_keeps c.assumed.ensures.keeps c.in_ok-part.ensures.there part) c.in_ok-r.ensures.hyps c.in_ok-r.ensures.bare

pub returns-in_err-part-clause-shape : goal.returns-in_err-part-clause-shape
returns-in_err-part-clause-shape c = passed_on c.from_residual.result c.in_err-part.field-0.0 c.from_residual.ensures.1 (λ e. c.in_err-part.ensures.shape e _ _ c.requires.says)

pub returns-in_err-denial-clause-shape : goal.returns-in_err-denial-clause-shape
returns-in_err-denial-clause-shape c = passed_on c.from_residual-in_err-denial.result c.in_err-denial.field-0.0 c.from_residual-in_err-denial.ensures.1 (λ e. c.in_err-denial.ensures.shape e)

pub returns-in_err-r-clause-shape : goal.returns-in_err-r-clause-shape
returns-in_err-r-clause-shape c =
    let k = c.args.k.now in
    let p = term_tree k.store c.args.a in
    let part : concl_of c.and_e1.new.self c.in_ok-part.part ≡ p = conjunct_left c.in_ok-part.ensures.concl.1 c.requires.says in
    let denial : concl_of c.assumed.new.k c.in_ok-denial.denial ≡ negation p = c.in_ok-denial.ensures.concl ∙ (at_kept c.and_e1.ensures.keeps c.requires.denials.left).is in
    passed_on c.from_residual-in_err-r.result c.in_err-r.field-0.0 c.from_residual-in_err-r.ensures.1 (λ e. c.in_err-r.ensures.shape e (denial ∙ sym (ap (λ t. negation t) (c.assumed.ensures.keeps.records.concls c.in_ok-part.part c.in_ok-part.ensures.there ∙ part))))

pub returns-in_err-part-clause-keeps : goal.returns-in_err-part-clause-keeps
returns-in_err-part-clause-keeps c = c.and_e1.ensures.keeps

pub returns-in_err-denial-clause-keeps : goal.returns-in_err-denial-clause-keeps
returns-in_err-denial-clause-keeps c = keeps_all_trans c.and_e1.ensures.keeps c.assumed.ensures.keeps

pub returns-in_err-r-clause-keeps : goal.returns-in_err-r-clause-keeps
returns-in_err-r-clause-keeps c = keeps_all_trans (keeps_all_trans c.and_e1.ensures.keeps c.assumed.ensures.keeps) c.not_e.ensures.keeps

pub returns-clause-keeps : goal.returns-clause-keeps
returns-clause-keeps c = keeps_all_trans (keeps_all_trans c.and_e1.ensures.keeps c.assumed.ensures.keeps) c.not_e.ensures.keeps
