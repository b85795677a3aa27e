use Rattle.std.proofs.Common.{◌≡◌, ◌∙◌, refl, sym, subst}
use Rattle.hol_terms.specs.TermStore.{term_tree}
use Rattle.hol_terms.specs.Formula.{IsFormula}
use Rattle.hol_terms.specs.Constants.{negation, disjunction}
use Rattle.lcf_kernel.specs.KernelState.{concl_of}
use Rattle.lcf_kernel.proofs.KeepLemmas.{keeps_all_trans}
use Rattle.lcf_kernel.proofs.KeptLemmas.{has_kept, term_kept, tree_kept, at_kept}
use Rattle.hol_logic.specs.Under.{AreDenials}
use Rattle.hol_logic.proofs.StateLemmas.{passed_on}
use Rattle.hol_logic.proofs.UnderLemmas.{under_keeps, formula_kept, bool_kept, sides_kept, denials_kept, states_equal}
use Rattle.hol_logic.proofs.duals.of_conjunction.Goals as goal

pub negated-requires-clause-there : goal.negated-requires-clause-there
negated-requires-clause-there c = c.requires.formulas.left.there

pub negated-requires-clause-bool : goal.negated-requires-clause-bool
negated-requires-clause-bool c = c.requires.formulas.left.formula.bool

pub negated-requires-2-clause-there : goal.negated-requires-2-clause-there
negated-requires-2-clause-there c = term_kept c.negated.ensures.keeps c.requires.formulas.right.there

pub negated-requires-2-clause-bool : goal.negated-requires-2-clause-bool
negated-requires-2-clause-bool c = bool_kept c.negated.ensures.keeps c.requires.formulas.right

pub one_denied-requires-clause-formula : goal.one_denied-requires-clause-formula
one_denied-requires-clause-formula c = formula_kept (keeps_all_trans c.negated.ensures.keeps c.negated-2.ensures.keeps) c.requires.formula

pub one_denied-requires-clause-denies : goal.one_denied-requires-clause-denies
one_denied-requires-clause-denies c = rw (tree_kept (keeps_all_trans c.negated.ensures.keeps c.negated-2.ensures.keeps) c.requires.formulas.left.there, tree_kept (keeps_all_trans c.negated.ensures.keeps c.negated-2.ensures.keeps) c.requires.formulas.right.there) (tree_kept (keeps_all_trans c.negated.ensures.keeps c.negated-2.ensures.keeps) c.requires.formula.there ∙ c.requires.is)

pub one_denied-requires-clause-denials : goal.one_denied-requires-clause-denials
one_denied-requires-clause-denials c = record { sides = sides_kept (keeps_all_trans c.negated.ensures.keeps c.negated-2.ensures.keeps) c.requires.formulas; left = rw (tree_kept (keeps_all_trans c.negated.ensures.keeps c.negated-2.ensures.keeps) c.requires.formulas.left.there) (at_kept c.negated-2.ensures.keeps c.in_ok-not_a.ensures.is); right = rw (tree_kept (keeps_all_trans c.negated.ensures.keeps c.negated-2.ensures.keeps) c.requires.formulas.right.there) (rw (tree_kept c.negated.ensures.keeps c.requires.formulas.right.there) at c.in_ok-not_b.ensures.is) }

pub one_denies-requires-clause-formula : goal.one_denies-requires-clause-formula
one_denies-requires-clause-formula c = record { there = c.concl-dual.ensures.there; formula = subst (λ t. IsFormula t) (sym c.concl-dual.ensures.tree) c.concl-dual.ensures.formula }

pub one_denies-requires-clause-denies : goal.one_denies-requires-clause-denies
one_denies-requires-clause-denies c =
    let k = c.args.k.now in
    let dual : concl_of c.one_denied.new.k c.in_ok-forth.forth ≡ disjunction (negation (term_tree k.store c.args.a)) (negation (term_tree k.store c.args.b)) = c.in_ok-forth.ensures.concl ∙ rw (tree_kept (keeps_all_trans c.negated.ensures.keeps c.negated-2.ensures.keeps) c.requires.formulas.left.there, tree_kept (keeps_all_trans c.negated.ensures.keeps c.negated-2.ensures.keeps) c.requires.formulas.right.there) refl in
    rw (tree_kept (keeps_all_trans (keeps_all_trans c.negated.ensures.keeps c.negated-2.ensures.keeps) c.one_denied.ensures.keeps) c.requires.formulas.left.there, tree_kept (keeps_all_trans (keeps_all_trans c.negated.ensures.keeps c.negated-2.ensures.keeps) c.one_denied.ensures.keeps) c.requires.formulas.right.there) (c.concl-dual.ensures.tree ∙ dual)

pub one_denies-requires-clause-whole : goal.one_denies-requires-clause-whole
one_denies-requires-clause-whole c = rw (tree_kept (keeps_all_trans (keeps_all_trans c.negated.ensures.keeps c.negated-2.ensures.keeps) c.one_denied.ensures.keeps) c.requires.formulas.left.there, tree_kept (keeps_all_trans (keeps_all_trans c.negated.ensures.keeps c.negated-2.ensures.keeps) c.one_denied.ensures.keeps) c.requires.formulas.right.there) (at_kept (keeps_all_trans (keeps_all_trans c.negated.ensures.keeps c.negated-2.ensures.keeps) c.one_denied.ensures.keeps) c.requires.whole)

pub one_denies-requires-clause-denials : goal.one_denies-requires-clause-denials
one_denies-requires-clause-denials c =
    let are : AreDenials c.negated-2.new.k.store c.args.a c.args.b c.in_ok-not_a.not_a c.in_ok-not_b.not_b = record { sides = sides_kept (keeps_all_trans c.negated.ensures.keeps c.negated-2.ensures.keeps) c.requires.formulas; left = rw (tree_kept (keeps_all_trans c.negated.ensures.keeps c.negated-2.ensures.keeps) c.requires.formulas.left.there) (at_kept c.negated-2.ensures.keeps c.in_ok-not_a.ensures.is); right = rw (tree_kept (keeps_all_trans c.negated.ensures.keeps c.negated-2.ensures.keeps) c.requires.formulas.right.there) (rw (tree_kept c.negated.ensures.keeps c.requires.formulas.right.there) at c.in_ok-not_b.ensures.is) } in
    denials_kept c.one_denied.ensures.keeps are

pub iff_i-requires-clause-right : goal.iff_i-requires-clause-right
iff_i-requires-clause-right c = has_kept c.one_denies.ensures.keeps c.in_ok-forth.ensures.there

pub iff_i-requires-clause-left : goal.iff_i-requires-clause-left
iff_i-requires-clause-left c = c.in_ok-back.ensures.there

pub returns-clause-states : goal.returns-clause-states
returns-clause-states c =
    let k = c.args.k.now in
    let dual : concl_of c.one_denied.new.k c.in_ok-forth.forth ≡ disjunction (negation (term_tree k.store c.args.a)) (negation (term_tree k.store c.args.b)) = c.in_ok-forth.ensures.concl ∙ rw (tree_kept (keeps_all_trans c.negated.ensures.keeps c.negated-2.ensures.keeps) c.requires.formulas.left.there, tree_kept (keeps_all_trans c.negated.ensures.keeps c.negated-2.ensures.keeps) c.requires.formulas.right.there) refl in
    let m = c.one_denies.new.k in
    let t = term_tree k.store c.args.t in
    let one : concl_of m c.in_ok-forth.forth ≡ disjunction (negation (term_tree k.store c.args.a)) (negation (term_tree k.store c.args.b)) = c.one_denies.ensures.keeps.records.concls c.in_ok-forth.forth c.in_ok-forth.ensures.there ∙ dual in
    let other : concl_of m c.in_ok-back.back ≡ t = c.in_ok-back.ensures.concl ∙ rw (tree_kept (keeps_all_trans (keeps_all_trans c.negated.ensures.keeps c.negated-2.ensures.keeps) c.one_denied.ensures.keeps) c.requires.formulas.left.there, tree_kept (keeps_all_trans (keeps_all_trans c.negated.ensures.keeps c.negated-2.ensures.keeps) c.one_denied.ensures.keeps) c.requires.formulas.right.there) refl ∙ sym c.requires.is in
    let forth = rw (tree_kept (keeps_all_trans c.negated.ensures.keeps c.negated-2.ensures.keeps) c.requires.formula.there) at c.in_ok-forth.ensures.under in
    let back = rw (c.concl-dual.ensures.tree ∙ dual) at c.in_ok-back.ensures.under in
    states_equal one other (under_keeps c.one_denies.ensures.keeps c.in_ok-forth.ensures.there forth) back c.in_ok-r.ensures.there c.in_ok-r.ensures.concl c.in_ok-r.ensures.hyps c.in_ok-r.ensures.bare

pub returns-in_err-forth-clause-shape : goal.returns-in_err-forth-clause-shape
returns-in_err-forth-clause-shape c = passed_on c.from_residual-in_err-forth.result c.in_err-forth.field-0.0 c.from_residual-in_err-forth.ensures.1 (λ e. c.in_err-forth.ensures.shape e)

pub returns-in_err-back-clause-shape : goal.returns-in_err-back-clause-shape
returns-in_err-back-clause-shape c = passed_on c.from_residual-in_err-back.result c.in_err-back.field-0.0 c.from_residual-in_err-back.ensures.1 (λ e. c.in_err-back.ensures.shape e)

pub returns-in_err-r-clause-shape : goal.returns-in_err-r-clause-shape
returns-in_err-r-clause-shape c = passed_on c.from_residual-in_err-r.result c.in_err-r.field-0.0 c.from_residual-in_err-r.ensures.1 (λ e. c.in_err-r.ensures.shape e)

pub returns-in_err-not_a-clause-keeps : goal.returns-in_err-not_a-clause-keeps
returns-in_err-not_a-clause-keeps c = c.negated.ensures.keeps

pub returns-in_err-not_b-clause-keeps : goal.returns-in_err-not_b-clause-keeps
returns-in_err-not_b-clause-keeps c = keeps_all_trans c.negated.ensures.keeps c.negated-2.ensures.keeps

pub returns-in_err-forth-clause-keeps : goal.returns-in_err-forth-clause-keeps
returns-in_err-forth-clause-keeps c = keeps_all_trans (keeps_all_trans c.negated.ensures.keeps c.negated-2.ensures.keeps) c.one_denied.ensures.keeps

pub returns-in_err-back-clause-keeps : goal.returns-in_err-back-clause-keeps
returns-in_err-back-clause-keeps c = keeps_all_trans (keeps_all_trans (keeps_all_trans c.negated.ensures.keeps c.negated-2.ensures.keeps) c.one_denied.ensures.keeps) c.one_denies.ensures.keeps

pub returns-in_err-r-clause-keeps : goal.returns-in_err-r-clause-keeps
returns-in_err-r-clause-keeps c = keeps_all_trans (keeps_all_trans (keeps_all_trans (keeps_all_trans c.negated.ensures.keeps c.negated-2.ensures.keeps) c.one_denied.ensures.keeps) c.one_denies.ensures.keeps) c.iff_i.ensures.keeps

pub returns-clause-keeps : goal.returns-clause-keeps
returns-clause-keeps c = keeps_all_trans (keeps_all_trans (keeps_all_trans (keeps_all_trans c.negated.ensures.keeps c.negated-2.ensures.keeps) c.one_denied.ensures.keeps) c.one_denies.ensures.keeps) c.iff_i.ensures.keeps
