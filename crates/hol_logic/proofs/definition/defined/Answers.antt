use Rattle.std.proofs.Common.{◌≡◌, ◌∙◌, sym, subst}
use Rattle.hol_terms.specs.Term.{ty_of}
use Rattle.hol_terms.specs.TermStore.{term_tree}
use Rattle.hol_terms.specs.Substitution.{IsClosed}
use Rattle.hol_terms.specs.Formula.{IsFormula, without}
use Rattle.hol_terms.specs.Constants.{equation, implication, for_all}
use Rattle.hol_terms.specs.Derivable.{abstraction}
use Rattle.hol_terms.proofs.SetLemmas.{same_trans, same_sym}
use Rattle.hol_terms.proofs.FormulaLemmas.{equation_right, implication_is_formula}
use Rattle.lcf_kernel.specs.KernelState.{concl_of, hyps_of, context_of}
use Rattle.lcf_kernel.proofs.KeepLemmas.{keeps_all_trans}
use Rattle.lcf_kernel.proofs.KeptLemmas.{term_kept, tree_kept}
use Rattle.hol_logic.proofs.StateLemmas.{passed_shape}
use Rattle.hol_logic.proofs.DefinitionLemmas.{definition_gives, universal_says, general_of}
use Rattle.hol_logic.proofs.definition.defined.Goals as goal

pub imp_i-requires-clause-closed : goal.imp_i-requires-clause-closed
imp_i-requires-clause-closed c = c.requires.formula.closed

pub all_i-requires-clause-thm : goal.all_i-requires-clause-thm
all_i-requires-clause-thm c = c.in_ok-step.ensures.there

pub all_i-requires-clause-there : goal.all_i-requires-clause-there
all_i-requires-clause-there c = term_kept c.imp_i.ensures.keeps c.requires.left

pub all_e-requires-clause-thm : goal.all_e-requires-clause-thm
all_e-requires-clause-thm c = c.in_ok-general.ensures.there

pub all_e-requires-clause-there : goal.all_e-requires-clause-there
all_e-requires-clause-there c = term_kept (keeps_all_trans c.imp_i.ensures.keeps c.all_i.ensures.keeps) c.requires.right

pub all_e-requires-clause-closed : goal.all_e-requires-clause-closed
all_e-requires-clause-closed c =
    let value = equation_right (subst (λ f. IsFormula f) c.requires.is c.requires.formula) in
    subst (λ t. IsClosed t) (sym (tree_kept (keeps_all_trans c.imp_i.ensures.keeps c.all_i.ensures.keeps) c.requires.right)) value.term.closed

pub returns-clause-states : goal.returns-clause-states
returns-clause-states c =
    let k = c.args.k.now in
    let s = k.store in
    let v = term_tree s c.args.sides.left in
    let e = term_tree s c.args.sides.right in
    let claim = concl_of k c.args.a in
    let whole = implication (equation (ty_of v) v e) claim in
    let first = c.imp_i.ensures.keeps in
    let g = keeps_all_trans first c.all_i.ensures.keeps in
    let formula = implication_is_formula (subst (λ f. IsFormula f) c.requires.is c.requires.formula) c.requires.claim in
    let step = rw c.requires.is at c.in_ok-step.ensures.concl in
    let general : concl_of c.all_i.new.self c.in_ok-general.general ≡ for_all (ty_of v) (abstraction v whole) = rw (tree_kept first c.requires.left, step) at c.in_ok-general.ensures.concl in
    let found = rw (tree_kept g c.requires.right) at c.in_ok-r.ensures.concl in
    record {
      there = c.in_ok-r.ensures.there;
      concl = found.1 ∙ universal_says found.0 (ty_of v) (abstraction v whole) general ∙ definition_gives (ty_of v) v e claim c.requires.variable c.requires.not_in_value c.requires.not_in_claim formula.closed;
      hyps = same_trans c.in_ok-r.ensures.hyps (same_trans c.in_ok-general.ensures.hyps c.in_ok-step.ensures.hyps);
      bare = c.in_ok-r.ensures.bare ∙ c.in_ok-general.ensures.bare ∙ c.in_ok-step.ensures.bare;
    }

pub returns-clause-ok : goal.returns-clause-ok
returns-clause-ok c =
    let k = c.args.k.now in
    let v = term_tree k.store c.args.sides.left in
    let first = c.imp_i.ensures.keeps in
    let general = rw (tree_kept first c.requires.left) at c.in_ok-general.ensures.ok in
    general_of v (context_of c.imp_i.new.self) (context_of k) (hyps_of c.imp_i.new.self c.in_ok-step.step) _ first.records.context_trees c.in_ok-step.ensures.hyps general

pub returns-in_err-step-clause-shape : goal.returns-in_err-step-clause-shape
returns-in_err-step-clause-shape c = passed_shape c.from_residual.result c.in_err-step.field-0.0 c.from_residual.ensures.1 (λ h. absurd (c.in_err-step.ensures.shape h c.requires.formula.bool))

pub returns-in_err-general-clause-shape : goal.returns-in_err-general-clause-shape
returns-in_err-general-clause-shape c =
    let k = c.args.k.now in
    let v = term_tree k.store c.args.sides.left in
    let first = c.imp_i.ensures.keeps in
    let refused = rw (tree_kept first c.requires.left) at c.in_err-general.ensures.shape in
    passed_shape c.from_residual-in_err-general.result c.in_err-general.field-0.0 c.from_residual-in_err-general.ensures.1 (λ h general.
    refused h (general_of v (context_of k) (context_of c.imp_i.new.self) (without (term_tree k.store c.args.d) (hyps_of k c.args.a)) (hyps_of c.imp_i.new.self c.in_ok-step.step) (sym first.records.context_trees) (same_sym c.in_ok-step.ensures.hyps) general))

pub returns-in_err-r-clause-shape : goal.returns-in_err-r-clause-shape
returns-in_err-r-clause-shape c =
    let k = c.args.k.now in
    let s = k.store in
    let v = term_tree s c.args.sides.left in
    let e = term_tree s c.args.sides.right in
    let whole = implication (equation (ty_of v) v e) (concl_of k c.args.a) in
    let first = c.imp_i.ensures.keeps in
    let g = keeps_all_trans first c.all_i.ensures.keeps in
    let value = equation_right (subst (λ f. IsFormula f) c.requires.is c.requires.formula) in
    let step = rw c.requires.is at c.in_ok-step.ensures.concl in
    let general : concl_of c.all_i.new.self c.in_ok-general.general ≡ for_all (ty_of v) (abstraction v whole) = rw (tree_kept first c.requires.left, step) at c.in_ok-general.ensures.concl in
    passed_shape c.from_residual-in_err-r.result c.in_err-r.field-0.0 c.from_residual-in_err-r.ensures.1 (λ h.
    absurd (c.in_err-r.ensures.shape h (record { predicate = abstraction v whole; is = rw (tree_kept g c.requires.right, value.type) general })))

pub returns-in_err-step-clause-keeps : goal.returns-in_err-step-clause-keeps
returns-in_err-step-clause-keeps c = c.imp_i.ensures.keeps

pub returns-in_err-general-clause-keeps : goal.returns-in_err-general-clause-keeps
returns-in_err-general-clause-keeps c = keeps_all_trans c.imp_i.ensures.keeps c.all_i.ensures.keeps

pub returns-in_err-r-clause-keeps : goal.returns-in_err-r-clause-keeps
returns-in_err-r-clause-keeps c = keeps_all_trans (keeps_all_trans c.imp_i.ensures.keeps c.all_i.ensures.keeps) c.all_e.ensures.keeps

pub returns-clause-keeps : goal.returns-clause-keeps
returns-clause-keeps c = keeps_all_trans (keeps_all_trans c.imp_i.ensures.keeps c.all_i.ensures.keeps) c.all_e.ensures.keeps
