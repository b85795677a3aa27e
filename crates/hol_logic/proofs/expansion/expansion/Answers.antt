use Rattle.std.proofs.Common.{◌≡◌, ◌∙◌, refl}
use Rattle.hol_types.specs.Ty.{BoolTy}
use Rattle.hol_terms.specs.Term.{AppTm, LamTm}
use Rattle.hol_terms.specs.TermStore.{term_tree}
use Rattle.hol_terms.specs.Constants.{equation}
use Rattle.hol_terms.proofs.FormulaLemmas.{has_app, Has}
use Rattle.lcf_kernel.specs.KernelState.{concl_of}
use Rattle.lcf_kernel.proofs.KeepLemmas.{keeps_all_trans}
use Rattle.lcf_kernel.proofs.KeptLemmas.{term_kept, tree_kept}
use Rattle.hol_logic.proofs.StateLemmas.{passed_on}
use Rattle.hol_types.specs.TypeStore.{type_tree}
use Rattle.hol_logic.specs.Quantified.{IsFresh}
use Rattle.hol_logic.proofs.QuantifierLemmas.{type_kept, body_kept, predicate_kept, predicate_has, fresh_has, fresh_type, fresh_general}
use Rattle.hol_formulas.specs.Constants.{IsAt}
use Rattle.hol_logic.proofs.EquationLemmas.{agree_says}
use Rattle.hol_logic.proofs.ExpansionLemmas.{absent_expanded, expansion_says, under_nothing}
use Rattle.hol_logic.proofs.expansion.expansion.Goals as goal

pub fresh-requires-clause-ty : goal.fresh-requires-clause-ty
fresh-requires-clause-ty c = c.requires.expanded.predicate.ty

pub fresh-requires-clause-there : goal.fresh-requires-clause-there
fresh-requires-clause-there c = c.requires.expanded.there

pub lambda-requires-clause-ty : goal.lambda-requires-clause-ty
lambda-requires-clause-ty c = (predicate_kept c.fresh.ensures.keeps c.requires.expanded.predicate).ty

pub lambda-requires-clause-body : goal.lambda-requires-clause-body
lambda-requires-clause-body c = (predicate_kept c.fresh.ensures.keeps c.requires.expanded.predicate).body

pub lambda-requires-clause-typed : goal.lambda-requires-clause-typed
lambda-requires-clause-typed c = (predicate_kept c.fresh.ensures.keeps c.requires.expanded.predicate).lambda.typed

pub application-requires-clause-function : goal.application-requires-clause-function
application-requires-clause-function c = c.in_ok-whole.ensures.is.there

pub application-requires-clause-argument : goal.application-requires-clause-argument
application-requires-clause-argument c = term_kept c.lambda.ensures.keeps c.in_ok-v.ensures.there

pub application-requires-clause-typed : goal.application-requires-clause-typed
application-requires-clause-typed c =
    let k = c.args.k.now in
    let ty = type_tree k.store.types c.args.ty in
    let b = term_tree k.store c.args.body in
    let p = term_tree k.store c.args.p in
    let v = term_tree c.fresh.new.k.store c.in_ok-v.v in
    let whole : IsAt c.lambda.new.k.store c.in_ok-whole.whole (LamTm ty b) = rw (type_kept c.fresh.ensures.keeps c.requires.expanded.predicate, body_kept c.fresh.ensures.keeps c.requires.expanded.predicate) at c.in_ok-whole.ensures.is in
    let applied : Has (AppTm (LamTm ty b) v) BoolTy = has_app (predicate_has c.requires.expanded.predicate) (fresh_has c.in_ok-v.ensures.is) in
    rw (whole.is, tree_kept c.lambda.ensures.keeps c.in_ok-v.ensures.there) applied.term.typed

pub beta-requires-clause-there : goal.beta-requires-clause-there
beta-requires-clause-there c = c.in_ok-applied.ensures.is.there

pub beta-requires-clause-closed : goal.beta-requires-clause-closed
beta-requires-clause-closed c =
    let k = c.args.k.now in
    let ty = type_tree k.store.types c.args.ty in
    let b = term_tree k.store c.args.body in
    let p = term_tree k.store c.args.p in
    let v = term_tree c.fresh.new.k.store c.in_ok-v.v in
    let whole : IsAt c.lambda.new.k.store c.in_ok-whole.whole (LamTm ty b) = rw (type_kept c.fresh.ensures.keeps c.requires.expanded.predicate, body_kept c.fresh.ensures.keeps c.requires.expanded.predicate) at c.in_ok-whole.ensures.is in
    let applied : Has (AppTm (LamTm ty b) v) BoolTy = has_app (predicate_has c.requires.expanded.predicate) (fresh_has c.in_ok-v.ensures.is) in
    let app : term_tree c.application.new.k.store c.in_ok-applied.applied ≡ AppTm (LamTm ty b) v = c.in_ok-applied.ensures.is.is ∙ rw (whole.is, tree_kept c.lambda.ensures.keeps c.in_ok-v.ensures.there) refl in
    rw app applied.term.closed

pub ext-requires-clause-thm : goal.ext-requires-clause-thm
ext-requires-clause-thm c = c.in_ok-step.ensures.there

pub ext-requires-clause-there : goal.ext-requires-clause-there
ext-requires-clause-there c = term_kept (keeps_all_trans (keeps_all_trans c.lambda.ensures.keeps c.application.ensures.keeps) c.beta.ensures.keeps) c.in_ok-v.ensures.there

pub returns-clause-states : goal.returns-clause-states
returns-clause-states c =
    let k = c.args.k.now in
    let ty = type_tree k.store.types c.args.ty in
    let b = term_tree k.store c.args.body in
    let p = term_tree k.store c.args.p in
    let v = term_tree c.fresh.new.k.store c.in_ok-v.v in
    let whole : IsAt c.lambda.new.k.store c.in_ok-whole.whole (LamTm ty b) = rw (type_kept c.fresh.ensures.keeps c.requires.expanded.predicate, body_kept c.fresh.ensures.keeps c.requires.expanded.predicate) at c.in_ok-whole.ensures.is in
    let app : term_tree c.application.new.k.store c.in_ok-applied.applied ≡ AppTm (LamTm ty b) v = c.in_ok-applied.ensures.is.is ∙ rw (whole.is, tree_kept c.lambda.ensures.keeps c.in_ok-v.ensures.there) refl in
    let step : concl_of c.beta.new.self c.in_ok-step.step ≡ equation BoolTy (AppTm (LamTm ty b) v) (AppTm p v) = expansion_says c.in_ok-step.ensures.concl.0 app c.requires.expanded.is c.requires.expanded.term.closed c.requires.expanded.predicate.bool c.in_ok-step.ensures.concl.1 in
    let fresh : IsFresh v ty p = c.in_ok-v.ensures.is in
    let found = rw (tree_kept (keeps_all_trans (keeps_all_trans c.lambda.ensures.keeps c.application.ensures.keeps) c.beta.ensures.keeps) c.in_ok-v.ensures.there) at c.in_ok-r.ensures.concl in
    record {
      there = c.in_ok-r.ensures.there;
      concl = found.3 ∙ agree_says found.2 step ∙ rw (fresh_type fresh) refl;
      hyps = rw c.in_ok-step.ensures.hyps at c.in_ok-r.ensures.hyps;
      bare = c.in_ok-r.ensures.bare ∙ c.in_ok-step.ensures.bare;
    }

pub returns-in_err-step-clause-shape : goal.returns-in_err-step-clause-shape
returns-in_err-step-clause-shape c =
    let k = c.args.k.now in
    let ty = type_tree k.store.types c.args.ty in
    let b = term_tree k.store c.args.body in
    let p = term_tree k.store c.args.p in
    let v = term_tree c.fresh.new.k.store c.in_ok-v.v in
    let whole : IsAt c.lambda.new.k.store c.in_ok-whole.whole (LamTm ty b) = rw (type_kept c.fresh.ensures.keeps c.requires.expanded.predicate, body_kept c.fresh.ensures.keeps c.requires.expanded.predicate) at c.in_ok-whole.ensures.is in
    let app : term_tree c.application.new.k.store c.in_ok-applied.applied ≡ AppTm (LamTm ty b) v = c.in_ok-applied.ensures.is.is ∙ rw (whole.is, tree_kept c.lambda.ensures.keeps c.in_ok-v.ensures.there) refl in
    passed_on c.from_residual-in_err-step.result c.in_err-step.field-0.0 c.from_residual-in_err-step.ensures.1 (λ e. c.in_err-step.ensures.shape e (record { type = ty; body = b; argument = v; is = app }))

pub returns-in_err-r-clause-shape : goal.returns-in_err-r-clause-shape
returns-in_err-r-clause-shape c =
    let k = c.args.k.now in
    let ty = type_tree k.store.types c.args.ty in
    let b = term_tree k.store c.args.body in
    let p = term_tree k.store c.args.p in
    let v = term_tree c.fresh.new.k.store c.in_ok-v.v in
    let whole : IsAt c.lambda.new.k.store c.in_ok-whole.whole (LamTm ty b) = rw (type_kept c.fresh.ensures.keeps c.requires.expanded.predicate, body_kept c.fresh.ensures.keeps c.requires.expanded.predicate) at c.in_ok-whole.ensures.is in
    let app : term_tree c.application.new.k.store c.in_ok-applied.applied ≡ AppTm (LamTm ty b) v = c.in_ok-applied.ensures.is.is ∙ rw (whole.is, tree_kept c.lambda.ensures.keeps c.in_ok-v.ensures.there) refl in
    let step : concl_of c.beta.new.self c.in_ok-step.step ≡ equation BoolTy (AppTm (LamTm ty b) v) (AppTm p v) = expansion_says c.in_ok-step.ensures.concl.0 app c.requires.expanded.is c.requires.expanded.term.closed c.requires.expanded.predicate.bool c.in_ok-step.ensures.concl.1 in
    let fresh : IsFresh v ty p = c.in_ok-v.ensures.is in
    let refused = rw (tree_kept (keeps_all_trans (keeps_all_trans c.lambda.ensures.keeps c.application.ensures.keeps) c.beta.ensures.keeps) c.in_ok-v.ensures.there) at c.in_err-r.ensures.shape in
    let general = fresh_general c.concl-said.ensures.lawful fresh fresh.absent (under_nothing p c.in_ok-step.ensures.hyps c.in_ok-step.ensures.bare) in
    passed_on c.from_residual-in_err-r.result c.in_err-r.field-0.0 c.from_residual-in_err-r.ensures.1 (λ e. refused e (LamTm ty b) p (record { type = BoolTy; said_is = step; general = general; not_in_left = absent_expanded v c.requires.expanded.is fresh.absent; not_in_right = fresh.absent }))

pub returns-in_err-v-clause-keeps : goal.returns-in_err-v-clause-keeps
returns-in_err-v-clause-keeps c = c.fresh.ensures.keeps

pub returns-in_err-whole-clause-keeps : goal.returns-in_err-whole-clause-keeps
returns-in_err-whole-clause-keeps c = keeps_all_trans c.fresh.ensures.keeps c.lambda.ensures.keeps

pub returns-in_err-applied-clause-keeps : goal.returns-in_err-applied-clause-keeps
returns-in_err-applied-clause-keeps c = keeps_all_trans (keeps_all_trans c.fresh.ensures.keeps c.lambda.ensures.keeps) c.application.ensures.keeps

pub returns-in_err-step-clause-keeps : goal.returns-in_err-step-clause-keeps
returns-in_err-step-clause-keeps c = keeps_all_trans (keeps_all_trans (keeps_all_trans c.fresh.ensures.keeps c.lambda.ensures.keeps) c.application.ensures.keeps) c.beta.ensures.keeps

pub returns-in_err-r-clause-keeps : goal.returns-in_err-r-clause-keeps
returns-in_err-r-clause-keeps c = keeps_all_trans (keeps_all_trans (keeps_all_trans (keeps_all_trans c.fresh.ensures.keeps c.lambda.ensures.keeps) c.application.ensures.keeps) c.beta.ensures.keeps) c.ext.ensures.keeps

pub returns-clause-keeps : goal.returns-clause-keeps
returns-clause-keeps c = keeps_all_trans (keeps_all_trans (keeps_all_trans (keeps_all_trans c.fresh.ensures.keeps c.lambda.ensures.keeps) c.application.ensures.keeps) c.beta.ensures.keeps) c.ext.ensures.keeps
