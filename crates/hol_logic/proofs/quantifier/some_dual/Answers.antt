use Rattle.std.proofs.Common.{◌≡◌, ◌∙◌, sym, subst, ap}
use Rattle.hol_terms.specs.TermStore.{term_tree}
use Rattle.hol_terms.specs.Formula.{IsFormula}
use Rattle.hol_terms.specs.Constants.{negation}
use Rattle.hol_terms.proofs.FormulaLemmas.{negation_is_formula}
use Rattle.lcf_kernel.specs.KernelState.{concl_of}
use Rattle.lcf_kernel.proofs.KeepLemmas.{keeps_all_trans}
use Rattle.lcf_kernel.proofs.KeptLemmas.{has_kept, at_kept}
use Rattle.hol_logic.proofs.StateLemmas.{passed_on}
use Rattle.hol_logic.proofs.UnderLemmas.{under_keeps, formula_at, states_equal}
use Rattle.hol_types.specs.TypeStore.{type_tree}
use Rattle.hol_logic.specs.Quantified.{some_stated, all_contrary}
use Rattle.hol_logic.proofs.QuantifierLemmas.{type_kept, body_kept, predicate_kept, some_stated_kept, all_contrary_kept, predicate_has, some_stated_formula}
use Rattle.hol_formulas.specs.Constants.{IsAt}
use Rattle.hol_formulas.specs.declared.binder.Binder.{Binder}
use Rattle.hol_logic.proofs.quantifier.some_dual.Goals as goal

pub lambda-requires-clause-ty : goal.lambda-requires-clause-ty
lambda-requires-clause-ty c = c.requires.predicate.ty

pub lambda-requires-clause-body : goal.lambda-requires-clause-body
lambda-requires-clause-body c = c.requires.predicate.body

pub lambda-requires-clause-typed : goal.lambda-requires-clause-typed
lambda-requires-clause-typed c = c.requires.predicate.lambda.typed

pub some-requires-clause-there : goal.some-requires-clause-there
some-requires-clause-there c = c.in_ok-predicate.ensures.is.there

pub some-requires-clause-typed : goal.some-requires-clause-typed
some-requires-clause-typed c = rw c.in_ok-predicate.ensures.is.is c.requires.predicate.lambda.typed

pub some-requires-clause-ty : goal.some-requires-clause-ty
some-requires-clause-ty c = c.lambda.ensures.keeps.records.store.types c.args.ty c.requires.predicate.ty

pub some-requires-clause-predicate : goal.some-requires-clause-predicate
some-requires-clause-predicate c = rw (c.in_ok-predicate.ensures.is.is, type_kept c.lambda.ensures.keeps c.requires.predicate) (predicate_has c.requires.predicate).type

pub negated-requires-clause-there : goal.negated-requires-clause-there
negated-requires-clause-there c = c.in_ok-whole.ensures.is.there

pub negated-requires-clause-bool : goal.negated-requires-clause-bool
negated-requires-clause-bool c =
    let k = c.args.k.now in
    let p : Binder = record { ty = c.args.ty; body = c.args.body } in
    let ty = type_tree k.store.types c.args.ty in
    let b = term_tree k.store c.args.body in
    let whole : IsAt c.some.new.k.store c.in_ok-whole.whole (some_stated k.store p) = rw (type_kept c.lambda.ensures.keeps c.requires.predicate, c.in_ok-predicate.ensures.is.is) at c.in_ok-whole.ensures.is in
    (formula_at whole (some_stated_formula c.requires.predicate)).formula.bool

pub not_some-requires-clause-predicate : goal.not_some-requires-clause-predicate
not_some-requires-clause-predicate c = predicate_kept (keeps_all_trans (keeps_all_trans c.lambda.ensures.keeps c.some.ensures.keeps) c.negated.ensures.keeps) c.requires.predicate

pub not_some-requires-clause-formula : goal.not_some-requires-clause-formula
not_some-requires-clause-formula c =
    let k = c.args.k.now in
    let p : Binder = record { ty = c.args.ty; body = c.args.body } in
    let ty = type_tree k.store.types c.args.ty in
    let b = term_tree k.store c.args.body in
    let whole : IsAt c.some.new.k.store c.in_ok-whole.whole (some_stated k.store p) = rw (type_kept c.lambda.ensures.keeps c.requires.predicate, c.in_ok-predicate.ensures.is.is) at c.in_ok-whole.ensures.is in
    let t : IsAt c.negated.new.k.store c.in_ok-t.t (negation (some_stated k.store p)) = rw whole.is at c.in_ok-t.ensures.is in
    formula_at t (negation_is_formula (some_stated_formula c.requires.predicate))

pub not_some-requires-clause-denies : goal.not_some-requires-clause-denies
not_some-requires-clause-denies c =
    let k = c.args.k.now in
    let p : Binder = record { ty = c.args.ty; body = c.args.body } in
    let ty = type_tree k.store.types c.args.ty in
    let b = term_tree k.store c.args.body in
    let whole : IsAt c.some.new.k.store c.in_ok-whole.whole (some_stated k.store p) = rw (type_kept c.lambda.ensures.keeps c.requires.predicate, c.in_ok-predicate.ensures.is.is) at c.in_ok-whole.ensures.is in
    let t : IsAt c.negated.new.k.store c.in_ok-t.t (negation (some_stated k.store p)) = rw whole.is at c.in_ok-t.ensures.is in
    rw (some_stated_kept (keeps_all_trans (keeps_all_trans c.lambda.ensures.keeps c.some.ensures.keeps) c.negated.ensures.keeps) c.requires.predicate) t.is

pub not_some-requires-clause-whole : goal.not_some-requires-clause-whole
not_some-requires-clause-whole c =
    let k = c.args.k.now in
    let p : Binder = record { ty = c.args.ty; body = c.args.body } in
    let ty = type_tree k.store.types c.args.ty in
    let b = term_tree k.store c.args.body in
    let whole : IsAt c.some.new.k.store c.in_ok-whole.whole (some_stated k.store p) = rw (type_kept c.lambda.ensures.keeps c.requires.predicate, c.in_ok-predicate.ensures.is.is) at c.in_ok-whole.ensures.is in
    rw (some_stated_kept (keeps_all_trans (keeps_all_trans c.lambda.ensures.keeps c.some.ensures.keeps) c.negated.ensures.keeps) c.requires.predicate) (at_kept c.negated.ensures.keeps whole)

pub some_denies-requires-clause-predicate : goal.some_denies-requires-clause-predicate
some_denies-requires-clause-predicate c = predicate_kept (keeps_all_trans (keeps_all_trans (keeps_all_trans c.lambda.ensures.keeps c.some.ensures.keeps) c.negated.ensures.keeps) c.not_some.ensures.keeps) c.requires.predicate

pub some_denies-requires-clause-lambda : goal.some_denies-requires-clause-lambda
some_denies-requires-clause-lambda c = rw (type_kept (keeps_all_trans (keeps_all_trans (keeps_all_trans c.lambda.ensures.keeps c.some.ensures.keeps) c.negated.ensures.keeps) c.not_some.ensures.keeps) c.requires.predicate, body_kept (keeps_all_trans (keeps_all_trans (keeps_all_trans c.lambda.ensures.keeps c.some.ensures.keeps) c.negated.ensures.keeps) c.not_some.ensures.keeps) c.requires.predicate) (at_kept (keeps_all_trans (keeps_all_trans c.some.ensures.keeps c.negated.ensures.keeps) c.not_some.ensures.keeps) c.in_ok-predicate.ensures.is)

pub some_denies-requires-clause-formula : goal.some_denies-requires-clause-formula
some_denies-requires-clause-formula c = record { there = c.concl-dual.ensures.there; formula = subst (λ t. IsFormula t) (sym c.concl-dual.ensures.tree) c.concl-dual.ensures.formula }

pub some_denies-requires-clause-every : goal.some_denies-requires-clause-every
some_denies-requires-clause-every c =
    let k = c.args.k.now in
    let p : Binder = record { ty = c.args.ty; body = c.args.body } in
    let ty = type_tree k.store.types c.args.ty in
    let b = term_tree k.store c.args.body in
    let dual : concl_of c.not_some.new.k c.in_ok-forth.forth ≡ all_contrary k.store p = c.in_ok-forth.ensures.concl ∙ all_contrary_kept (keeps_all_trans (keeps_all_trans c.lambda.ensures.keeps c.some.ensures.keeps) c.negated.ensures.keeps) c.requires.predicate in
    rw (all_contrary_kept (keeps_all_trans (keeps_all_trans (keeps_all_trans c.lambda.ensures.keeps c.some.ensures.keeps) c.negated.ensures.keeps) c.not_some.ensures.keeps) c.requires.predicate) (c.concl-dual.ensures.tree ∙ dual)

pub some_denies-requires-clause-whole : goal.some_denies-requires-clause-whole
some_denies-requires-clause-whole c =
    let k = c.args.k.now in
    let p : Binder = record { ty = c.args.ty; body = c.args.body } in
    let ty = type_tree k.store.types c.args.ty in
    let b = term_tree k.store c.args.body in
    let whole : IsAt c.some.new.k.store c.in_ok-whole.whole (some_stated k.store p) = rw (type_kept c.lambda.ensures.keeps c.requires.predicate, c.in_ok-predicate.ensures.is.is) at c.in_ok-whole.ensures.is in
    rw (some_stated_kept (keeps_all_trans (keeps_all_trans (keeps_all_trans c.lambda.ensures.keeps c.some.ensures.keeps) c.negated.ensures.keeps) c.not_some.ensures.keeps) c.requires.predicate) (at_kept (keeps_all_trans c.negated.ensures.keeps c.not_some.ensures.keeps) whole)

pub iff_i-requires-clause-right : goal.iff_i-requires-clause-right
iff_i-requires-clause-right c = has_kept c.some_denies.ensures.keeps c.in_ok-forth.ensures.there

pub iff_i-requires-clause-left : goal.iff_i-requires-clause-left
iff_i-requires-clause-left c = c.in_ok-back.ensures.there

pub returns-clause-states : goal.returns-clause-states
returns-clause-states c =
    let k = c.args.k.now in
    let p : Binder = record { ty = c.args.ty; body = c.args.body } in
    let ty = type_tree k.store.types c.args.ty in
    let b = term_tree k.store c.args.body in
    let whole : IsAt c.some.new.k.store c.in_ok-whole.whole (some_stated k.store p) = rw (type_kept c.lambda.ensures.keeps c.requires.predicate, c.in_ok-predicate.ensures.is.is) at c.in_ok-whole.ensures.is in
    let t : IsAt c.negated.new.k.store c.in_ok-t.t (negation (some_stated k.store p)) = rw whole.is at c.in_ok-t.ensures.is in
    let dual : concl_of c.not_some.new.k c.in_ok-forth.forth ≡ all_contrary k.store p = c.in_ok-forth.ensures.concl ∙ all_contrary_kept (keeps_all_trans (keeps_all_trans c.lambda.ensures.keeps c.some.ensures.keeps) c.negated.ensures.keeps) c.requires.predicate in
    let m = c.some_denies.new.k in
    let one : concl_of m c.in_ok-forth.forth ≡ all_contrary k.store p = c.some_denies.ensures.keeps.records.concls c.in_ok-forth.forth c.in_ok-forth.ensures.there ∙ dual in
    let other : concl_of m c.in_ok-back.back ≡ negation (some_stated k.store p) = c.in_ok-back.ensures.concl ∙ ap (λ t. negation t) (some_stated_kept (keeps_all_trans (keeps_all_trans (keeps_all_trans c.lambda.ensures.keeps c.some.ensures.keeps) c.negated.ensures.keeps) c.not_some.ensures.keeps) c.requires.predicate) in
    let forth = rw t.is at c.in_ok-forth.ensures.under in
    let back = rw (c.concl-dual.ensures.tree ∙ dual) at c.in_ok-back.ensures.under in
    states_equal one other (under_keeps c.some_denies.ensures.keeps c.in_ok-forth.ensures.there forth) back c.in_ok-r.ensures.there c.in_ok-r.ensures.concl c.in_ok-r.ensures.hyps c.in_ok-r.ensures.bare

pub returns-in_err-forth-clause-shape : goal.returns-in_err-forth-clause-shape
returns-in_err-forth-clause-shape c = passed_on c.from_residual-in_err-forth.result c.in_err-forth.field-0.0 c.from_residual-in_err-forth.ensures.1 (λ e. c.in_err-forth.ensures.shape e)

pub returns-in_err-back-clause-shape : goal.returns-in_err-back-clause-shape
returns-in_err-back-clause-shape c = passed_on c.from_residual-in_err-back.result c.in_err-back.field-0.0 c.from_residual-in_err-back.ensures.1 (λ e. c.in_err-back.ensures.shape e)

pub returns-in_err-r-clause-shape : goal.returns-in_err-r-clause-shape
returns-in_err-r-clause-shape c = passed_on c.from_residual-in_err-r.result c.in_err-r.field-0.0 c.from_residual-in_err-r.ensures.1 (λ e. c.in_err-r.ensures.shape e)

pub returns-in_err-predicate-clause-keeps : goal.returns-in_err-predicate-clause-keeps
returns-in_err-predicate-clause-keeps c = c.lambda.ensures.keeps

pub returns-in_err-whole-clause-keeps : goal.returns-in_err-whole-clause-keeps
returns-in_err-whole-clause-keeps c = keeps_all_trans c.lambda.ensures.keeps c.some.ensures.keeps

pub returns-in_err-t-clause-keeps : goal.returns-in_err-t-clause-keeps
returns-in_err-t-clause-keeps c = keeps_all_trans (keeps_all_trans c.lambda.ensures.keeps c.some.ensures.keeps) c.negated.ensures.keeps

pub returns-in_err-forth-clause-keeps : goal.returns-in_err-forth-clause-keeps
returns-in_err-forth-clause-keeps c = keeps_all_trans (keeps_all_trans (keeps_all_trans c.lambda.ensures.keeps c.some.ensures.keeps) c.negated.ensures.keeps) c.not_some.ensures.keeps

pub returns-in_err-back-clause-keeps : goal.returns-in_err-back-clause-keeps
returns-in_err-back-clause-keeps c = keeps_all_trans (keeps_all_trans (keeps_all_trans (keeps_all_trans c.lambda.ensures.keeps c.some.ensures.keeps) c.negated.ensures.keeps) c.not_some.ensures.keeps) c.some_denies.ensures.keeps

pub returns-in_err-r-clause-keeps : goal.returns-in_err-r-clause-keeps
returns-in_err-r-clause-keeps c = keeps_all_trans (keeps_all_trans (keeps_all_trans (keeps_all_trans (keeps_all_trans c.lambda.ensures.keeps c.some.ensures.keeps) c.negated.ensures.keeps) c.not_some.ensures.keeps) c.some_denies.ensures.keeps) c.iff_i.ensures.keeps

pub returns-clause-keeps : goal.returns-clause-keeps
returns-clause-keeps c = keeps_all_trans (keeps_all_trans (keeps_all_trans (keeps_all_trans (keeps_all_trans c.lambda.ensures.keeps c.some.ensures.keeps) c.negated.ensures.keeps) c.not_some.ensures.keeps) c.some_denies.ensures.keeps) c.iff_i.ensures.keeps
