use Rattle.std.proofs.Common.{◌≡◌, ◌∙◌, refl, sym, subst}
use Rattle.hol_terms.specs.TermStore.{term_tree}
use Rattle.hol_terms.specs.Formula.{IsFormula}
use Rattle.hol_terms.specs.Constants.{negation, conjunction}
use Rattle.lcf_kernel.specs.KernelState.{concl_of}
use Rattle.lcf_kernel.proofs.KeepLemmas.{keeps_all_trans}
use Rattle.lcf_kernel.proofs.KeptLemmas.{has_kept, tree_kept, at_kept}
use Rattle.hol_logic.proofs.StateLemmas.{passed_on}
use Rattle.hol_logic.proofs.UnderLemmas.{under_keeps, sides_kept, states_equal}
use Rattle.hol_logic.proofs.duals.of_disjunction.Goals as goal

pub neither-requires-clause-formula : goal.neither-requires-clause-formula
neither-requires-clause-formula c = c.requires.formula

pub neither-requires-clause-denies : goal.neither-requires-clause-denies
neither-requires-clause-denies c = c.requires.is

pub neither-requires-clause-formulas : goal.neither-requires-clause-formulas
neither-requires-clause-formulas c = c.requires.formulas

pub neither_denies-requires-clause-formula : goal.neither_denies-requires-clause-formula
neither_denies-requires-clause-formula c = record { there = c.concl-dual.ensures.there; formula = subst (λ t. IsFormula t) (sym c.concl-dual.ensures.tree) c.concl-dual.ensures.formula }

pub neither_denies-requires-clause-denies : goal.neither_denies-requires-clause-denies
neither_denies-requires-clause-denies c =
    let k = c.args.k.now in
    let dual : concl_of c.neither.new.k c.in_ok-forth.forth ≡ conjunction (negation (term_tree k.store c.args.a)) (negation (term_tree k.store c.args.b)) = c.in_ok-forth.ensures.concl in
    rw (tree_kept c.neither.ensures.keeps c.requires.formulas.left.there, tree_kept c.neither.ensures.keeps c.requires.formulas.right.there) (c.concl-dual.ensures.tree ∙ dual)

pub neither_denies-requires-clause-whole : goal.neither_denies-requires-clause-whole
neither_denies-requires-clause-whole c = rw (tree_kept c.neither.ensures.keeps c.requires.formulas.left.there, tree_kept c.neither.ensures.keeps c.requires.formulas.right.there) (at_kept c.neither.ensures.keeps c.requires.whole)

pub neither_denies-requires-clause-formulas : goal.neither_denies-requires-clause-formulas
neither_denies-requires-clause-formulas c = sides_kept c.neither.ensures.keeps c.requires.formulas

pub iff_i-requires-clause-right : goal.iff_i-requires-clause-right
iff_i-requires-clause-right c = has_kept c.neither_denies.ensures.keeps c.in_ok-forth.ensures.there

pub iff_i-requires-clause-left : goal.iff_i-requires-clause-left
iff_i-requires-clause-left c = c.in_ok-back.ensures.there

pub returns-clause-states : goal.returns-clause-states
returns-clause-states c =
    let k = c.args.k.now in
    let dual : concl_of c.neither.new.k c.in_ok-forth.forth ≡ conjunction (negation (term_tree k.store c.args.a)) (negation (term_tree k.store c.args.b)) = c.in_ok-forth.ensures.concl in
    let m = c.neither_denies.new.k in
    let t = term_tree k.store c.args.t in
    let one : concl_of m c.in_ok-forth.forth ≡ conjunction (negation (term_tree k.store c.args.a)) (negation (term_tree k.store c.args.b)) = c.neither_denies.ensures.keeps.records.concls c.in_ok-forth.forth c.in_ok-forth.ensures.there ∙ dual in
    let other : concl_of m c.in_ok-back.back ≡ t = c.in_ok-back.ensures.concl ∙ rw (tree_kept c.neither.ensures.keeps c.requires.formulas.left.there, tree_kept c.neither.ensures.keeps c.requires.formulas.right.there) refl ∙ sym c.requires.is in
    let forth = c.in_ok-forth.ensures.under in
    let back = rw (c.concl-dual.ensures.tree ∙ dual) at c.in_ok-back.ensures.under in
    states_equal one other (under_keeps c.neither_denies.ensures.keeps c.in_ok-forth.ensures.there forth) back c.in_ok-r.ensures.there c.in_ok-r.ensures.concl c.in_ok-r.ensures.hyps c.in_ok-r.ensures.bare

pub returns-in_err-forth-clause-shape : goal.returns-in_err-forth-clause-shape
returns-in_err-forth-clause-shape c = passed_on c.from_residual.result c.in_err-forth.field-0.0 c.from_residual.ensures.1 (λ e. c.in_err-forth.ensures.shape e)

pub returns-in_err-back-clause-shape : goal.returns-in_err-back-clause-shape
returns-in_err-back-clause-shape c = passed_on c.from_residual-in_err-back.result c.in_err-back.field-0.0 c.from_residual-in_err-back.ensures.1 (λ e. c.in_err-back.ensures.shape e)

pub returns-in_err-r-clause-shape : goal.returns-in_err-r-clause-shape
returns-in_err-r-clause-shape c = passed_on c.from_residual-in_err-r.result c.in_err-r.field-0.0 c.from_residual-in_err-r.ensures.1 (λ e. c.in_err-r.ensures.shape e)

pub returns-in_err-forth-clause-keeps : goal.returns-in_err-forth-clause-keeps
returns-in_err-forth-clause-keeps c = c.neither.ensures.keeps

pub returns-in_err-back-clause-keeps : goal.returns-in_err-back-clause-keeps
returns-in_err-back-clause-keeps c = keeps_all_trans c.neither.ensures.keeps c.neither_denies.ensures.keeps

pub returns-in_err-r-clause-keeps : goal.returns-in_err-r-clause-keeps
returns-in_err-r-clause-keeps c = keeps_all_trans (keeps_all_trans c.neither.ensures.keeps c.neither_denies.ensures.keeps) c.iff_i.ensures.keeps

pub returns-clause-keeps : goal.returns-clause-keeps
returns-clause-keeps c = keeps_all_trans (keeps_all_trans c.neither.ensures.keeps c.neither_denies.ensures.keeps) c.iff_i.ensures.keeps
