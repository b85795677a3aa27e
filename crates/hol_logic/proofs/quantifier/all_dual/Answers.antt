use Rattle.std.proofs.Common.{◌≡◌, ◌∙◌, ap}
use Rattle.hol_terms.specs.Term.{LamTm}
use Rattle.hol_terms.specs.TermStore.{term_tree}
use Rattle.hol_terms.specs.Constants.{negation}
use Rattle.hol_terms.proofs.FormulaLemmas.{negation_is_formula}
use Rattle.lcf_kernel.specs.KernelState.{concl_of}
use Rattle.lcf_kernel.proofs.KeepLemmas.{keeps_all_trans}
use Rattle.lcf_kernel.proofs.KeptLemmas.{has_kept, at_kept}
use Rattle.hol_logic.proofs.StateLemmas.{passed_on}
use Rattle.hol_logic.proofs.UnderLemmas.{under_keeps, formula_at, states_equal}
use Rattle.hol_types.specs.TypeStore.{type_tree}
use Rattle.hol_logic.specs.Quantified.{all_stated, some_contrary}
use Rattle.hol_logic.proofs.QuantifierLemmas.{type_kept, body_kept, predicate_kept, all_stated_kept, some_contrary_kept, predicate_has, contrary_has, all_stated_formula, some_contrary_formula}
use Rattle.hol_formulas.specs.Constants.{IsAt}
use Rattle.hol_formulas.specs.declared.binder.Binder.{Binder}
use Rattle.hol_logic.proofs.quantifier.all_dual.Goals as goal

pub lambda-requires-clause-ty : goal.lambda-requires-clause-ty
lambda-requires-clause-ty c = c.requires.predicate.ty

pub lambda-requires-clause-body : goal.lambda-requires-clause-body
lambda-requires-clause-body c = c.requires.predicate.body

pub lambda-requires-clause-typed : goal.lambda-requires-clause-typed
lambda-requires-clause-typed c = c.requires.predicate.lambda.typed

pub every-requires-clause-there : goal.every-requires-clause-there
every-requires-clause-there c = c.in_ok-predicate.ensures.is.there

pub every-requires-clause-ty : goal.every-requires-clause-ty
every-requires-clause-ty c = c.lambda.ensures.keeps.records.store.types c.args.ty c.requires.predicate.ty

pub every-requires-clause-predicate : goal.every-requires-clause-predicate
every-requires-clause-predicate c = rw (c.in_ok-predicate.ensures.is.is, type_kept c.lambda.ensures.keeps c.requires.predicate) (predicate_has c.requires.predicate).type

pub negated-requires-clause-there : goal.negated-requires-clause-there
negated-requires-clause-there c = c.in_ok-all.ensures.is.there

pub negated-requires-clause-bool : goal.negated-requires-clause-bool
negated-requires-clause-bool c =
    let k = c.args.k.now in
    let p : Binder = record { ty = c.args.ty; body = c.args.body } in
    let ty = type_tree k.store.types c.args.ty in
    let b = term_tree k.store c.args.body in
    let all : IsAt c.every.new.k.store c.in_ok-all.all (all_stated k.store p) = rw (type_kept c.lambda.ensures.keeps c.requires.predicate, c.in_ok-predicate.ensures.is.is) at c.in_ok-all.ensures.is in
    (formula_at all (all_stated_formula c.requires.predicate)).formula.bool

pub contrary-requires : goal.contrary-requires
contrary-requires c = predicate_kept (keeps_all_trans (keeps_all_trans c.lambda.ensures.keeps c.every.ensures.keeps) c.negated.ensures.keeps) c.requires.predicate

pub some-requires-clause-there : goal.some-requires-clause-there
some-requires-clause-there c = c.in_ok-q.ensures.is.there

pub some-requires-clause-typed : goal.some-requires-clause-typed
some-requires-clause-typed c =
    let k = c.args.k.now in
    let p : Binder = record { ty = c.args.ty; body = c.args.body } in
    let ty = type_tree k.store.types c.args.ty in
    let b = term_tree k.store c.args.body in
    let q : IsAt c.contrary.new.k.store c.in_ok-q.q (LamTm ty (negation b)) = rw (type_kept (keeps_all_trans (keeps_all_trans c.lambda.ensures.keeps c.every.ensures.keeps) c.negated.ensures.keeps) c.requires.predicate, body_kept (keeps_all_trans (keeps_all_trans c.lambda.ensures.keeps c.every.ensures.keeps) c.negated.ensures.keeps) c.requires.predicate) at c.in_ok-q.ensures.is in
    rw q.is (contrary_has c.requires.predicate).term.typed

pub some-requires-clause-ty : goal.some-requires-clause-ty
some-requires-clause-ty c = (keeps_all_trans (keeps_all_trans (keeps_all_trans c.lambda.ensures.keeps c.every.ensures.keeps) c.negated.ensures.keeps) c.contrary.ensures.keeps).records.store.types c.args.ty c.requires.predicate.ty

pub some-requires-clause-predicate : goal.some-requires-clause-predicate
some-requires-clause-predicate c =
    let k = c.args.k.now in
    let p : Binder = record { ty = c.args.ty; body = c.args.body } in
    let ty = type_tree k.store.types c.args.ty in
    let b = term_tree k.store c.args.body in
    let q : IsAt c.contrary.new.k.store c.in_ok-q.q (LamTm ty (negation b)) = rw (type_kept (keeps_all_trans (keeps_all_trans c.lambda.ensures.keeps c.every.ensures.keeps) c.negated.ensures.keeps) c.requires.predicate, body_kept (keeps_all_trans (keeps_all_trans c.lambda.ensures.keeps c.every.ensures.keeps) c.negated.ensures.keeps) c.requires.predicate) at c.in_ok-q.ensures.is in
    rw (q.is, type_kept (keeps_all_trans (keeps_all_trans (keeps_all_trans c.lambda.ensures.keeps c.every.ensures.keeps) c.negated.ensures.keeps) c.contrary.ensures.keeps) c.requires.predicate) (contrary_has c.requires.predicate).type

pub not_all-requires-clause-predicate : goal.not_all-requires-clause-predicate
not_all-requires-clause-predicate c = predicate_kept (keeps_all_trans (keeps_all_trans (keeps_all_trans (keeps_all_trans c.lambda.ensures.keeps c.every.ensures.keeps) c.negated.ensures.keeps) c.contrary.ensures.keeps) c.some.ensures.keeps) c.requires.predicate

pub not_all-requires-clause-formula : goal.not_all-requires-clause-formula
not_all-requires-clause-formula c =
    let k = c.args.k.now in
    let p : Binder = record { ty = c.args.ty; body = c.args.body } in
    let ty = type_tree k.store.types c.args.ty in
    let b = term_tree k.store c.args.body in
    let all : IsAt c.every.new.k.store c.in_ok-all.all (all_stated k.store p) = rw (type_kept c.lambda.ensures.keeps c.requires.predicate, c.in_ok-predicate.ensures.is.is) at c.in_ok-all.ensures.is in
    let t : IsAt c.negated.new.k.store c.in_ok-t.t (negation (all_stated k.store p)) = rw all.is at c.in_ok-t.ensures.is in
    formula_at (at_kept (keeps_all_trans c.contrary.ensures.keeps c.some.ensures.keeps) t) (negation_is_formula (all_stated_formula c.requires.predicate))

pub not_all-requires-clause-denies : goal.not_all-requires-clause-denies
not_all-requires-clause-denies c =
    let k = c.args.k.now in
    let p : Binder = record { ty = c.args.ty; body = c.args.body } in
    let ty = type_tree k.store.types c.args.ty in
    let b = term_tree k.store c.args.body in
    let all : IsAt c.every.new.k.store c.in_ok-all.all (all_stated k.store p) = rw (type_kept c.lambda.ensures.keeps c.requires.predicate, c.in_ok-predicate.ensures.is.is) at c.in_ok-all.ensures.is in
    let t : IsAt c.negated.new.k.store c.in_ok-t.t (negation (all_stated k.store p)) = rw all.is at c.in_ok-t.ensures.is in
    rw (all_stated_kept (keeps_all_trans (keeps_all_trans (keeps_all_trans (keeps_all_trans c.lambda.ensures.keeps c.every.ensures.keeps) c.negated.ensures.keeps) c.contrary.ensures.keeps) c.some.ensures.keeps) c.requires.predicate) (at_kept (keeps_all_trans c.contrary.ensures.keeps c.some.ensures.keeps) t).is

pub not_all-requires-clause-some : goal.not_all-requires-clause-some
not_all-requires-clause-some c =
    let k = c.args.k.now in
    let p : Binder = record { ty = c.args.ty; body = c.args.body } in
    let ty = type_tree k.store.types c.args.ty in
    let b = term_tree k.store c.args.body in
    let q : IsAt c.contrary.new.k.store c.in_ok-q.q (LamTm ty (negation b)) = rw (type_kept (keeps_all_trans (keeps_all_trans c.lambda.ensures.keeps c.every.ensures.keeps) c.negated.ensures.keeps) c.requires.predicate, body_kept (keeps_all_trans (keeps_all_trans c.lambda.ensures.keeps c.every.ensures.keeps) c.negated.ensures.keeps) c.requires.predicate) at c.in_ok-q.ensures.is in
    let dual : IsAt c.some.new.k.store c.in_ok-dual.dual (some_contrary k.store p) = rw (type_kept (keeps_all_trans (keeps_all_trans (keeps_all_trans c.lambda.ensures.keeps c.every.ensures.keeps) c.negated.ensures.keeps) c.contrary.ensures.keeps) c.requires.predicate, q.is) at c.in_ok-dual.ensures.is in
    rw (some_contrary_kept (keeps_all_trans (keeps_all_trans (keeps_all_trans (keeps_all_trans c.lambda.ensures.keeps c.every.ensures.keeps) c.negated.ensures.keeps) c.contrary.ensures.keeps) c.some.ensures.keeps) c.requires.predicate) dual

pub all_denies-requires-clause-predicate : goal.all_denies-requires-clause-predicate
all_denies-requires-clause-predicate c = predicate_kept (keeps_all_trans (keeps_all_trans (keeps_all_trans (keeps_all_trans (keeps_all_trans c.lambda.ensures.keeps c.every.ensures.keeps) c.negated.ensures.keeps) c.contrary.ensures.keeps) c.some.ensures.keeps) c.not_all.ensures.keeps) c.requires.predicate

pub all_denies-requires-clause-contrary : goal.all_denies-requires-clause-contrary
all_denies-requires-clause-contrary c =
    let k = c.args.k.now in
    let p : Binder = record { ty = c.args.ty; body = c.args.body } in
    let ty = type_tree k.store.types c.args.ty in
    let b = term_tree k.store c.args.body in
    let q : IsAt c.contrary.new.k.store c.in_ok-q.q (LamTm ty (negation b)) = rw (type_kept (keeps_all_trans (keeps_all_trans c.lambda.ensures.keeps c.every.ensures.keeps) c.negated.ensures.keeps) c.requires.predicate, body_kept (keeps_all_trans (keeps_all_trans c.lambda.ensures.keeps c.every.ensures.keeps) c.negated.ensures.keeps) c.requires.predicate) at c.in_ok-q.ensures.is in
    rw (type_kept (keeps_all_trans (keeps_all_trans (keeps_all_trans (keeps_all_trans (keeps_all_trans c.lambda.ensures.keeps c.every.ensures.keeps) c.negated.ensures.keeps) c.contrary.ensures.keeps) c.some.ensures.keeps) c.not_all.ensures.keeps) c.requires.predicate, body_kept (keeps_all_trans (keeps_all_trans (keeps_all_trans (keeps_all_trans (keeps_all_trans c.lambda.ensures.keeps c.every.ensures.keeps) c.negated.ensures.keeps) c.contrary.ensures.keeps) c.some.ensures.keeps) c.not_all.ensures.keeps) c.requires.predicate) (at_kept (keeps_all_trans c.some.ensures.keeps c.not_all.ensures.keeps) q)

pub all_denies-requires-clause-formula : goal.all_denies-requires-clause-formula
all_denies-requires-clause-formula c =
    let k = c.args.k.now in
    let p : Binder = record { ty = c.args.ty; body = c.args.body } in
    let ty = type_tree k.store.types c.args.ty in
    let b = term_tree k.store c.args.body in
    let q : IsAt c.contrary.new.k.store c.in_ok-q.q (LamTm ty (negation b)) = rw (type_kept (keeps_all_trans (keeps_all_trans c.lambda.ensures.keeps c.every.ensures.keeps) c.negated.ensures.keeps) c.requires.predicate, body_kept (keeps_all_trans (keeps_all_trans c.lambda.ensures.keeps c.every.ensures.keeps) c.negated.ensures.keeps) c.requires.predicate) at c.in_ok-q.ensures.is in
    let dual : IsAt c.some.new.k.store c.in_ok-dual.dual (some_contrary k.store p) = rw (type_kept (keeps_all_trans (keeps_all_trans (keeps_all_trans c.lambda.ensures.keeps c.every.ensures.keeps) c.negated.ensures.keeps) c.contrary.ensures.keeps) c.requires.predicate, q.is) at c.in_ok-dual.ensures.is in
    formula_at (at_kept c.not_all.ensures.keeps dual) (some_contrary_formula c.requires.predicate)

pub all_denies-requires-clause-some : goal.all_denies-requires-clause-some
all_denies-requires-clause-some c =
    let k = c.args.k.now in
    let p : Binder = record { ty = c.args.ty; body = c.args.body } in
    let ty = type_tree k.store.types c.args.ty in
    let b = term_tree k.store c.args.body in
    let q : IsAt c.contrary.new.k.store c.in_ok-q.q (LamTm ty (negation b)) = rw (type_kept (keeps_all_trans (keeps_all_trans c.lambda.ensures.keeps c.every.ensures.keeps) c.negated.ensures.keeps) c.requires.predicate, body_kept (keeps_all_trans (keeps_all_trans c.lambda.ensures.keeps c.every.ensures.keeps) c.negated.ensures.keeps) c.requires.predicate) at c.in_ok-q.ensures.is in
    let dual : IsAt c.some.new.k.store c.in_ok-dual.dual (some_contrary k.store p) = rw (type_kept (keeps_all_trans (keeps_all_trans (keeps_all_trans c.lambda.ensures.keeps c.every.ensures.keeps) c.negated.ensures.keeps) c.contrary.ensures.keeps) c.requires.predicate, q.is) at c.in_ok-dual.ensures.is in
    rw (some_contrary_kept (keeps_all_trans (keeps_all_trans (keeps_all_trans (keeps_all_trans (keeps_all_trans c.lambda.ensures.keeps c.every.ensures.keeps) c.negated.ensures.keeps) c.contrary.ensures.keeps) c.some.ensures.keeps) c.not_all.ensures.keeps) c.requires.predicate) (at_kept c.not_all.ensures.keeps dual).is

pub all_denies-requires-clause-whole : goal.all_denies-requires-clause-whole
all_denies-requires-clause-whole c =
    let k = c.args.k.now in
    let p : Binder = record { ty = c.args.ty; body = c.args.body } in
    let ty = type_tree k.store.types c.args.ty in
    let b = term_tree k.store c.args.body in
    let all : IsAt c.every.new.k.store c.in_ok-all.all (all_stated k.store p) = rw (type_kept c.lambda.ensures.keeps c.requires.predicate, c.in_ok-predicate.ensures.is.is) at c.in_ok-all.ensures.is in
    rw (all_stated_kept (keeps_all_trans (keeps_all_trans (keeps_all_trans (keeps_all_trans (keeps_all_trans c.lambda.ensures.keeps c.every.ensures.keeps) c.negated.ensures.keeps) c.contrary.ensures.keeps) c.some.ensures.keeps) c.not_all.ensures.keeps) c.requires.predicate) (at_kept (keeps_all_trans (keeps_all_trans (keeps_all_trans c.negated.ensures.keeps c.contrary.ensures.keeps) c.some.ensures.keeps) c.not_all.ensures.keeps) all)

pub iff_i-requires-clause-right : goal.iff_i-requires-clause-right
iff_i-requires-clause-right c = has_kept c.all_denies.ensures.keeps c.in_ok-forth.ensures.there

pub iff_i-requires-clause-left : goal.iff_i-requires-clause-left
iff_i-requires-clause-left c = c.in_ok-back.ensures.there

pub returns-clause-states : goal.returns-clause-states
returns-clause-states c =
    let k = c.args.k.now in
    let p : Binder = record { ty = c.args.ty; body = c.args.body } in
    let ty = type_tree k.store.types c.args.ty in
    let b = term_tree k.store c.args.body in
    let all : IsAt c.every.new.k.store c.in_ok-all.all (all_stated k.store p) = rw (type_kept c.lambda.ensures.keeps c.requires.predicate, c.in_ok-predicate.ensures.is.is) at c.in_ok-all.ensures.is in
    let t : IsAt c.negated.new.k.store c.in_ok-t.t (negation (all_stated k.store p)) = rw all.is at c.in_ok-t.ensures.is in
    let q : IsAt c.contrary.new.k.store c.in_ok-q.q (LamTm ty (negation b)) = rw (type_kept (keeps_all_trans (keeps_all_trans c.lambda.ensures.keeps c.every.ensures.keeps) c.negated.ensures.keeps) c.requires.predicate, body_kept (keeps_all_trans (keeps_all_trans c.lambda.ensures.keeps c.every.ensures.keeps) c.negated.ensures.keeps) c.requires.predicate) at c.in_ok-q.ensures.is in
    let dual : IsAt c.some.new.k.store c.in_ok-dual.dual (some_contrary k.store p) = rw (type_kept (keeps_all_trans (keeps_all_trans (keeps_all_trans c.lambda.ensures.keeps c.every.ensures.keeps) c.negated.ensures.keeps) c.contrary.ensures.keeps) c.requires.predicate, q.is) at c.in_ok-dual.ensures.is in
    let m = c.all_denies.new.k in
    let one : concl_of m c.in_ok-forth.forth ≡ some_contrary k.store p = c.all_denies.ensures.keeps.records.concls c.in_ok-forth.forth c.in_ok-forth.ensures.there ∙ c.in_ok-forth.ensures.concl ∙ some_contrary_kept (keeps_all_trans (keeps_all_trans (keeps_all_trans (keeps_all_trans c.lambda.ensures.keeps c.every.ensures.keeps) c.negated.ensures.keeps) c.contrary.ensures.keeps) c.some.ensures.keeps) c.requires.predicate in
    let other : concl_of m c.in_ok-back.back ≡ negation (all_stated k.store p) = c.in_ok-back.ensures.concl ∙ ap (λ t. negation t) (all_stated_kept (keeps_all_trans (keeps_all_trans (keeps_all_trans (keeps_all_trans (keeps_all_trans c.lambda.ensures.keeps c.every.ensures.keeps) c.negated.ensures.keeps) c.contrary.ensures.keeps) c.some.ensures.keeps) c.not_all.ensures.keeps) c.requires.predicate) in
    let forth = rw ((at_kept (keeps_all_trans c.contrary.ensures.keeps c.some.ensures.keeps) t).is) at c.in_ok-forth.ensures.under in
    let back = rw ((at_kept c.not_all.ensures.keeps dual).is) at c.in_ok-back.ensures.under in
    states_equal one other (under_keeps c.all_denies.ensures.keeps c.in_ok-forth.ensures.there forth) back c.in_ok-r.ensures.there c.in_ok-r.ensures.concl c.in_ok-r.ensures.hyps c.in_ok-r.ensures.bare

pub returns-in_err-forth-clause-shape : goal.returns-in_err-forth-clause-shape
returns-in_err-forth-clause-shape c = passed_on c.from_residual-in_err-forth.result c.in_err-forth.field-0.0 c.from_residual-in_err-forth.ensures.1 (λ e. c.in_err-forth.ensures.shape e)

pub returns-in_err-back-clause-shape : goal.returns-in_err-back-clause-shape
returns-in_err-back-clause-shape c = passed_on c.from_residual-in_err-back.result c.in_err-back.field-0.0 c.from_residual-in_err-back.ensures.1 (λ e. c.in_err-back.ensures.shape e)

pub returns-in_err-r-clause-shape : goal.returns-in_err-r-clause-shape
returns-in_err-r-clause-shape c = passed_on c.from_residual-in_err-r.result c.in_err-r.field-0.0 c.from_residual-in_err-r.ensures.1 (λ e. c.in_err-r.ensures.shape e)

pub returns-in_err-predicate-clause-keeps : goal.returns-in_err-predicate-clause-keeps
returns-in_err-predicate-clause-keeps c = c.lambda.ensures.keeps

pub returns-in_err-all-clause-keeps : goal.returns-in_err-all-clause-keeps
returns-in_err-all-clause-keeps c = keeps_all_trans c.lambda.ensures.keeps c.every.ensures.keeps

pub returns-in_err-t-clause-keeps : goal.returns-in_err-t-clause-keeps
returns-in_err-t-clause-keeps c = keeps_all_trans (keeps_all_trans c.lambda.ensures.keeps c.every.ensures.keeps) c.negated.ensures.keeps

pub returns-in_err-q-clause-keeps : goal.returns-in_err-q-clause-keeps
returns-in_err-q-clause-keeps c = keeps_all_trans (keeps_all_trans (keeps_all_trans c.lambda.ensures.keeps c.every.ensures.keeps) c.negated.ensures.keeps) c.contrary.ensures.keeps

pub returns-in_err-dual-clause-keeps : goal.returns-in_err-dual-clause-keeps
returns-in_err-dual-clause-keeps c = keeps_all_trans (keeps_all_trans (keeps_all_trans (keeps_all_trans c.lambda.ensures.keeps c.every.ensures.keeps) c.negated.ensures.keeps) c.contrary.ensures.keeps) c.some.ensures.keeps

pub returns-in_err-forth-clause-keeps : goal.returns-in_err-forth-clause-keeps
returns-in_err-forth-clause-keeps c = keeps_all_trans (keeps_all_trans (keeps_all_trans (keeps_all_trans (keeps_all_trans c.lambda.ensures.keeps c.every.ensures.keeps) c.negated.ensures.keeps) c.contrary.ensures.keeps) c.some.ensures.keeps) c.not_all.ensures.keeps

pub returns-in_err-back-clause-keeps : goal.returns-in_err-back-clause-keeps
returns-in_err-back-clause-keeps c = keeps_all_trans (keeps_all_trans (keeps_all_trans (keeps_all_trans (keeps_all_trans (keeps_all_trans c.lambda.ensures.keeps c.every.ensures.keeps) c.negated.ensures.keeps) c.contrary.ensures.keeps) c.some.ensures.keeps) c.not_all.ensures.keeps) c.all_denies.ensures.keeps

pub returns-in_err-r-clause-keeps : goal.returns-in_err-r-clause-keeps
returns-in_err-r-clause-keeps c = keeps_all_trans (keeps_all_trans (keeps_all_trans (keeps_all_trans (keeps_all_trans (keeps_all_trans (keeps_all_trans c.lambda.ensures.keeps c.every.ensures.keeps) c.negated.ensures.keeps) c.contrary.ensures.keeps) c.some.ensures.keeps) c.not_all.ensures.keeps) c.all_denies.ensures.keeps) c.iff_i.ensures.keeps

pub returns-clause-keeps : goal.returns-clause-keeps
returns-clause-keeps c = keeps_all_trans (keeps_all_trans (keeps_all_trans (keeps_all_trans (keeps_all_trans (keeps_all_trans (keeps_all_trans c.lambda.ensures.keeps c.every.ensures.keeps) c.negated.ensures.keeps) c.contrary.ensures.keeps) c.some.ensures.keeps) c.not_all.ensures.keeps) c.all_denies.ensures.keeps) c.iff_i.ensures.keeps
