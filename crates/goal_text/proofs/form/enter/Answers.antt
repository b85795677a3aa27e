use Rattle.std.proofs.Common.{◌∙◌, Some, sym, ap}
use Rattle.std.proofs.lemmas.Result.{err_from_is_err_and}
use Rattle.sexp.specs.Forest.{trees_at}
use Rattle.goal_text.specs.Scope.{env_of, rest_of}
use Rattle.goal_text.specs.Terms.{terms_of}
use Rattle.goal_text.proofs.FormLemmas.{applied_parts, ascribed_inside, ascribed_parts, binding_inside, binding_parts, bound_form, bound_form_fails, no_run, operation_parts, skip_one}
use Rattle.goal_text.proofs.ScopeLemmas.{env_kept, scope_kept}
use Rattle.goal_text.proofs.form.enter.Goals as goal

pub returns-in_err-entered-in-Some-Binds-clause-form : goal.returns-in_err-entered-in-Some-Binds-clause-form
returns-in_err-entered-in-Some-Binds-clause-form c =
    let p = err_from_is_err_and c.from_residual-in_err-entered-in-Some-Binds.result c.from_residual-in_err-entered-in-Some-Binds.ensures.1 in
    rw (p.1, p.2) (bound_form_fails c.args.base.now c.args.scope.now c.args.at c.in-Some-Binds.binder _ _ _ c.in-Some.ensures.0 (sym c.in-Some-Binds.ensures ∙ ap Some c.in-Some-Binds.field-0-is) c.in_err-entered-in-Some-Binds.field-0.0 c.in_err-entered-in-Some-Binds.ensures.form)

pub returns-in_ok-head-in-Some-Applies-clause-parts : goal.returns-in_ok-head-in-Some-Applies-clause-parts
returns-in_ok-head-in-Some-Applies-clause-parts c = λ names.
    ap (λ kinds. terms_of names kinds (trees_at c.args.forest.now c.args.first c.args.end)) (operation_parts c.args.base.now c.args.scope.now c.in-Some-Applies.operator c.in_ok-head-in-Some-Applies.head c.in_ok-head-in-Some-Applies.ensures.head)
    ∙ skip_one names (rest_of c.in_ok-head-in-Some-Applies.head) _ _ _ c.in-Some.ensures.0

pub returns-in_ok-entered-in-Some-Binds-clause-form : goal.returns-in_ok-entered-in-Some-Binds-clause-form
returns-in_ok-entered-in-Some-Binds-clause-form c =
    bound_form c.args.base.now c.args.scope.now c.args.at c.in-Some-Binds.binder _ _ _ c.in-Some.ensures.0 (sym c.in-Some-Binds.ensures ∙ ap Some c.in-Some-Binds.field-0-is) ∙ c.in_ok-entered-in-Some-Binds.ensures.form

pub returns-in_ok-entered-in-Some-Binds-clause-parts : goal.returns-in_ok-entered-in-Some-Binds-clause-parts
returns-in_ok-entered-in-Some-Binds-clause-parts c = λ names.
    let e = c.in_ok-entered-in-Some-Binds.ensures in
    binding_parts names c.binding.new.base c.binding.new.scope c.in_ok-entered-in-Some-Binds.entered.head _ _ _ _ e.binds c.in-Some.ensures.0 (e.parts names)

pub returns-in_ok-entered-in-Some-Binds-clause-inside : goal.returns-in_ok-entered-in-Some-Binds-clause-inside
returns-in_ok-entered-in-Some-Binds-clause-inside c =
    let e = c.in_ok-entered-in-Some-Binds.ensures in
    binding_inside c.args.base.now c.binding.new.base c.args.scope.now c.binding.new.scope c.in_ok-entered-in-Some-Binds.entered.head e.binds e.keeps c.requires.scope e.others e.outer

pub returns-in_ok-head-in-Some-Ascribes-clause-parts : goal.returns-in_ok-head-in-Some-Ascribes-clause-parts
returns-in_ok-head-in-Some-Ascribes-clause-parts c = λ names.
    let e = c.in_ok-head-in-Some-Ascribes.ensures in
    ascribed_parts names c.ascription.new.base c.args.scope.now c.in_ok-head-in-Some-Ascribes.head _ _ _ _ e.ascribes c.in-Some.ensures.0 (e.parts names) (no_run c.args.forest.now c.args.end)

pub returns-in_ok-head-in-Some-Ascribes-clause-inside : goal.returns-in_ok-head-in-Some-Ascribes-clause-inside
returns-in_ok-head-in-Some-Ascribes-clause-inside c =
    let e = c.in_ok-head-in-Some-Ascribes.ensures in
    env_kept c.args.scope.now e.keeps c.requires.scope ∙ sym (ascribed_inside (env_of c.args.base.now c.args.scope.now) c.ascription.new.base c.args.scope.now c.in_ok-head-in-Some-Ascribes.head e.ascribes)

pub returns-in_ok-head-in-Some-Ascribes-clause-scope : goal.returns-in_ok-head-in-Some-Ascribes-clause-scope
returns-in_ok-head-in-Some-Ascribes-clause-scope c = scope_kept c.in_ok-head-in-Some-Ascribes.ensures.keeps c.requires.scope

pub returns-in-Some-next-clause-parts : goal.returns-in-Some-next-clause-parts
returns-in-Some-next-clause-parts c = λ names. applied_parts names c.args.base.now c.args.scope.now c.application.result.head c.args.forest.now c.args.first c.in-Some.second c.application.result.first c.args.end c.application.ensures.applies c.in-Some.ensures.0
