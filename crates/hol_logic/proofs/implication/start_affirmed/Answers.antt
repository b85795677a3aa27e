use Rattle.std.proofs.Common.{◌≡◌, ◌∙◌, refl, sym, ap}
use Rattle.hol_terms.specs.TermStore.{term_tree}
use Rattle.hol_terms.specs.Constants.{negation, implication}
use Rattle.lcf_kernel.specs.KernelState.{concl_of}
use Rattle.lcf_kernel.proofs.KeepLemmas.{keeps_all_trans}
use Rattle.lcf_kernel.proofs.KeptLemmas.{has_kept, tree_kept}
use Rattle.hol_logic.proofs.StateLemmas.{passed_on}
use Rattle.hol_logic.proofs.UnderLemmas.{under_keeps, formula_kept, sides_kept, under_more, under_all}
use Rattle.hol_logic.proofs.implication.start_affirmed.Goals as goal

pub negated-requires-clause-there : goal.negated-requires-clause-there
negated-requires-clause-there c = c.requires.formulas.left.there

pub negated-requires-clause-bool : goal.negated-requires-clause-bool
negated-requires-clause-bool c = c.requires.formulas.left.formula.bool

pub led_anywhere-requires-clause-denial : goal.led_anywhere-requires-clause-denial
led_anywhere-requires-clause-denial c = rw (tree_kept c.negated.ensures.keeps c.requires.formulas.left.there) c.in_ok-denial.ensures.is

pub led_anywhere-requires-clause-formulas : goal.led_anywhere-requires-clause-formulas
led_anywhere-requires-clause-formulas c = sides_kept c.negated.ensures.keeps c.requires.formulas

pub affirmed-requires-clause-no : goal.affirmed-requires-clause-no
affirmed-requires-clause-no c = has_kept (keeps_all_trans c.negated.ensures.keeps c.led_anywhere.ensures.keeps) c.requires.no

pub affirmed-requires-clause-yes : goal.affirmed-requires-clause-yes
affirmed-requires-clause-yes c = c.in_ok-step.ensures.there

pub affirmed-requires-clause-formula : goal.affirmed-requires-clause-formula
affirmed-requires-clause-formula c = formula_kept (keeps_all_trans c.negated.ensures.keeps c.led_anywhere.ensures.keeps) c.requires.formulas.left

pub affirmed-requires-clause-negated : goal.affirmed-requires-clause-negated
affirmed-requires-clause-negated c =
    let k = c.args.k.now in
    let step : concl_of c.led_anywhere.new.k c.in_ok-step.step ≡ implication (term_tree k.store c.args.a) (term_tree k.store c.args.b) = c.in_ok-step.ensures.concl ∙ rw (tree_kept c.negated.ensures.keeps c.requires.formulas.left.there, tree_kept c.negated.ensures.keeps c.requires.formulas.right.there) refl in
    (keeps_all_trans c.negated.ensures.keeps c.led_anywhere.ensures.keeps).records.concls c.args.no c.requires.no ∙ c.requires.denies ∙ sym (ap (λ t. negation t) step)

pub returns-clause-concl : goal.returns-clause-concl
returns-clause-concl c = c.in_ok-r.ensures.concl ∙ tree_kept (keeps_all_trans c.negated.ensures.keeps c.led_anywhere.ensures.keeps) c.requires.formulas.left.there

pub returns-clause-under : goal.returns-clause-under
returns-clause-under c hyps u =
    let p = negation (term_tree c.args.k.now.store c.args.a) in
    let step = rw (tree_kept c.negated.ensures.keeps c.requires.formulas.left.there) at c.in_ok-step.ensures.under in
    let affirmed = rw (tree_kept (keeps_all_trans c.negated.ensures.keeps c.led_anywhere.ensures.keeps) c.requires.formulas.left.there) at c.in_ok-r.ensures.under in
    affirmed hyps (under_more p (under_keeps (keeps_all_trans c.negated.ensures.keeps c.led_anywhere.ensures.keeps) c.requires.no u)) (under_all step)

pub returns-in_err-step-clause-shape : goal.returns-in_err-step-clause-shape
returns-in_err-step-clause-shape c = passed_on c.from_residual-in_err-step.result c.in_err-step.field-0.0 c.from_residual-in_err-step.ensures.1 (λ e. c.in_err-step.ensures.shape e)

pub returns-in_err-r-clause-shape : goal.returns-in_err-r-clause-shape
returns-in_err-r-clause-shape c = passed_on c.from_residual-in_err-r.result c.in_err-r.field-0.0 c.from_residual-in_err-r.ensures.1 (λ e. c.in_err-r.ensures.shape e)

pub returns-in_err-denial-clause-keeps : goal.returns-in_err-denial-clause-keeps
returns-in_err-denial-clause-keeps c = c.negated.ensures.keeps

pub returns-in_err-step-clause-keeps : goal.returns-in_err-step-clause-keeps
returns-in_err-step-clause-keeps c = keeps_all_trans c.negated.ensures.keeps c.led_anywhere.ensures.keeps

pub returns-in_err-r-clause-keeps : goal.returns-in_err-r-clause-keeps
returns-in_err-r-clause-keeps c = keeps_all_trans (keeps_all_trans c.negated.ensures.keeps c.led_anywhere.ensures.keeps) c.affirmed.ensures.keeps

pub returns-clause-keeps : goal.returns-clause-keeps
returns-clause-keeps c = keeps_all_trans (keeps_all_trans c.negated.ensures.keeps c.led_anywhere.ensures.keeps) c.affirmed.ensures.keeps
