use Rattle.std.proofs.Common.{true, ◌≡◌, ◌∙◌, [], refl}
use Rattle.hol_types.specs.Ty.{BoolTy, FunTy}
use Rattle.hol_terms.specs.Term.{BoundTm, LamTm}
use Rattle.hol_terms.specs.TermStore.{term_tree}
use Rattle.hol_terms.specs.Constants.{negation, equation, exists}
use Rattle.lcf_kernel.proofs.KeepLemmas.{keeps_all_trans}
use Rattle.lcf_kernel.proofs.KeptLemmas.{has_kept, tree_kept}
use Rattle.hol_logic.proofs.StateLemmas.{passed_on, states_keep}
use Rattle.hol_types.specs.TypeStore.{type_tree}
use Rattle.hol_logic.specs.Quantified.{all_contrary}
use Rattle.hol_logic.proofs.QuantifierLemmas.{type_kept, body_kept, predicate_kept}
use Rattle.hol_logic.specs.States.{States}
use Rattle.hol_formulas.specs.declared.binder.Binder.{Binder}
use Rattle.std.specs.Prelude.{codes}
use Rattle.hol_logic.proofs.EquationLemmas.{equal_from, type_is, left_is}
use Rattle.hol_logic.proofs.BodyLemmas.{lambda_is, in_app, in_const, in_place}
use Rattle.hol_logic.proofs.ExpansionLemmas.{expanded_kept}
use Rattle.hol_logic.proofs.expansion.some_expanded.Goals as goal

pub some_dual-requires : goal.some_dual-requires
some_dual-requires c = record { predicate = c.requires.expanded.predicate }

pub expansion-requires : goal.expansion-requires
expansion-requires c = record { expanded = expanded_kept c.some_dual.ensures.keeps c.requires.expanded }

pub place_not_some-requires : goal.place_not_some-requires
place_not_some-requires c = (predicate_kept (keeps_all_trans c.some_dual.ensures.keeps c.expansion.ensures.keeps) c.requires.expanded.predicate).ty

pub restated-requires-clause-same : goal.restated-requires-clause-same
restated-requires-clause-same c =
    let k = c.args.k.now in
    let ty = type_tree k.store.types c.args.ty in
    let b = term_tree k.store c.args.body in
    let p = term_tree k.store c.args.p in
    let parts : Binder = record { ty = c.args.ty; body = c.args.body } in
    let same : States c.place_not_some.new.k c.in_ok-same.same (equation (FunTy ty BoolTy) (LamTm ty b) p) [] true = states_keep c.place_not_some.ensures.keeps (rw (type_kept c.some_dual.ensures.keeps c.requires.expanded.predicate, body_kept c.some_dual.ensures.keeps c.requires.expanded.predicate, tree_kept c.some_dual.ensures.keeps c.requires.expanded.there) at c.in_ok-same.ensures.states) in
    let place : term_tree c.place_not_some.new.k.store c.in_ok-place.place ≡ negation (exists ty (BoundTm 0 (FunTy ty BoolTy))) = c.in_ok-place.ensures.is.is ∙ rw (type_kept (keeps_all_trans c.some_dual.ensures.keeps c.expansion.ensures.keeps) c.requires.expanded.predicate) refl in
    let dual : States c.place_not_some.new.k c.in_ok-dual.dual (equation BoolTy (negation (exists ty (LamTm ty b))) (all_contrary k.store parts)) [] true = states_keep (keeps_all_trans c.expansion.ensures.keeps c.place_not_some.ensures.keeps) c.in_ok-dual.ensures.states in
    equal_from (FunTy ty BoolTy) (LamTm ty b) p same

pub restated-requires-clause-dual : goal.restated-requires-clause-dual
restated-requires-clause-dual c = has_kept (keeps_all_trans c.expansion.ensures.keeps c.place_not_some.ensures.keeps) c.in_ok-dual.ensures.states.there

pub restated-requires-clause-place : goal.restated-requires-clause-place
restated-requires-clause-place c = c.in_ok-place.ensures.is.there

pub restated-requires-clause-function : goal.restated-requires-clause-function
restated-requires-clause-function c =
    let k = c.args.k.now in
    let ty = type_tree k.store.types c.args.ty in
    let b = term_tree k.store c.args.body in
    let p = term_tree k.store c.args.p in
    let parts : Binder = record { ty = c.args.ty; body = c.args.body } in
    let same : States c.place_not_some.new.k c.in_ok-same.same (equation (FunTy ty BoolTy) (LamTm ty b) p) [] true = states_keep c.place_not_some.ensures.keeps (rw (type_kept c.some_dual.ensures.keeps c.requires.expanded.predicate, body_kept c.some_dual.ensures.keeps c.requires.expanded.predicate, tree_kept c.some_dual.ensures.keeps c.requires.expanded.there) at c.in_ok-same.ensures.states) in
    let place : term_tree c.place_not_some.new.k.store c.in_ok-place.place ≡ negation (exists ty (BoundTm 0 (FunTy ty BoolTy))) = c.in_ok-place.ensures.is.is ∙ rw (type_kept (keeps_all_trans c.some_dual.ensures.keeps c.expansion.ensures.keeps) c.requires.expanded.predicate) refl in
    let dual : States c.place_not_some.new.k c.in_ok-dual.dual (equation BoolTy (negation (exists ty (LamTm ty b))) (all_contrary k.store parts)) [] true = states_keep (keeps_all_trans c.expansion.ensures.keeps c.place_not_some.ensures.keeps) c.in_ok-dual.ensures.states in
    λ e. let type = type_is e (FunTy ty BoolTy) (LamTm ty b) p same.concl in
    rw (type, place) (lambda_is (in_app (in_const (codes "not") (FunTy BoolTy BoolTy)) (in_app (in_const (codes "ex") (FunTy (FunTy ty BoolTy) BoolTy)) (in_place (FunTy ty BoolTy)))))

pub restated-requires-clause-linked : goal.restated-requires-clause-linked
restated-requires-clause-linked c =
    let k = c.args.k.now in
    let ty = type_tree k.store.types c.args.ty in
    let b = term_tree k.store c.args.body in
    let p = term_tree k.store c.args.p in
    let parts : Binder = record { ty = c.args.ty; body = c.args.body } in
    let same : States c.place_not_some.new.k c.in_ok-same.same (equation (FunTy ty BoolTy) (LamTm ty b) p) [] true = states_keep c.place_not_some.ensures.keeps (rw (type_kept c.some_dual.ensures.keeps c.requires.expanded.predicate, body_kept c.some_dual.ensures.keeps c.requires.expanded.predicate, tree_kept c.some_dual.ensures.keeps c.requires.expanded.there) at c.in_ok-same.ensures.states) in
    let place : term_tree c.place_not_some.new.k.store c.in_ok-place.place ≡ negation (exists ty (BoundTm 0 (FunTy ty BoolTy))) = c.in_ok-place.ensures.is.is ∙ rw (type_kept (keeps_all_trans c.some_dual.ensures.keeps c.expansion.ensures.keeps) c.requires.expanded.predicate) refl in
    let dual : States c.place_not_some.new.k c.in_ok-dual.dual (equation BoolTy (negation (exists ty (LamTm ty b))) (all_contrary k.store parts)) [] true = states_keep (keeps_all_trans c.expansion.ensures.keeps c.place_not_some.ensures.keeps) c.in_ok-dual.ensures.states in
    λ e. let left = left_is e (FunTy ty BoolTy) (LamTm ty b) p same.concl in
    (all_contrary k.store parts, dual.concl ∙ rw (place, left) refl)

pub returns-clause-states : goal.returns-clause-states
returns-clause-states c =
    let k = c.args.k.now in
    let ty = type_tree k.store.types c.args.ty in
    let b = term_tree k.store c.args.body in
    let p = term_tree k.store c.args.p in
    let parts : Binder = record { ty = c.args.ty; body = c.args.body } in
    let same : States c.place_not_some.new.k c.in_ok-same.same (equation (FunTy ty BoolTy) (LamTm ty b) p) [] true = states_keep c.place_not_some.ensures.keeps (rw (type_kept c.some_dual.ensures.keeps c.requires.expanded.predicate, body_kept c.some_dual.ensures.keeps c.requires.expanded.predicate, tree_kept c.some_dual.ensures.keeps c.requires.expanded.there) at c.in_ok-same.ensures.states) in
    let place : term_tree c.place_not_some.new.k.store c.in_ok-place.place ≡ negation (exists ty (BoundTm 0 (FunTy ty BoolTy))) = c.in_ok-place.ensures.is.is ∙ rw (type_kept (keeps_all_trans c.some_dual.ensures.keeps c.expansion.ensures.keeps) c.requires.expanded.predicate) refl in
    let dual : States c.place_not_some.new.k c.in_ok-dual.dual (equation BoolTy (negation (exists ty (LamTm ty b))) (all_contrary k.store parts)) [] true = states_keep (keeps_all_trans c.expansion.ensures.keeps c.place_not_some.ensures.keeps) c.in_ok-dual.ensures.states in
    let restated = rw place at c.in_ok-r.ensures.states in
    restated (FunTy ty BoolTy) (LamTm ty b) p (all_contrary k.store parts) same dual

pub returns-in_err-dual-clause-shape : goal.returns-in_err-dual-clause-shape
returns-in_err-dual-clause-shape c = passed_on c.from_residual.result c.in_err-dual.field-0.0 c.from_residual.ensures.1 (λ e. c.in_err-dual.ensures.shape e)

pub returns-in_err-same-clause-shape : goal.returns-in_err-same-clause-shape
returns-in_err-same-clause-shape c = passed_on c.from_residual-in_err-same.result c.in_err-same.field-0.0 c.from_residual-in_err-same.ensures.1 (λ e. c.in_err-same.ensures.shape e)

pub returns-in_err-r-clause-shape : goal.returns-in_err-r-clause-shape
returns-in_err-r-clause-shape c = passed_on c.from_residual-in_err-r.result c.in_err-r.field-0.0 c.from_residual-in_err-r.ensures.1 (λ e. c.in_err-r.ensures.shape e)

pub returns-in_err-dual-clause-keeps : goal.returns-in_err-dual-clause-keeps
returns-in_err-dual-clause-keeps c = c.some_dual.ensures.keeps

pub returns-in_err-same-clause-keeps : goal.returns-in_err-same-clause-keeps
returns-in_err-same-clause-keeps c = keeps_all_trans c.some_dual.ensures.keeps c.expansion.ensures.keeps

pub returns-in_err-place-clause-keeps : goal.returns-in_err-place-clause-keeps
returns-in_err-place-clause-keeps c = keeps_all_trans (keeps_all_trans c.some_dual.ensures.keeps c.expansion.ensures.keeps) c.place_not_some.ensures.keeps

pub returns-in_err-r-clause-keeps : goal.returns-in_err-r-clause-keeps
returns-in_err-r-clause-keeps c = keeps_all_trans (keeps_all_trans (keeps_all_trans c.some_dual.ensures.keeps c.expansion.ensures.keeps) c.place_not_some.ensures.keeps) c.restated.ensures.keeps

pub returns-clause-keeps : goal.returns-clause-keeps
returns-clause-keeps c = keeps_all_trans (keeps_all_trans (keeps_all_trans c.some_dual.ensures.keeps c.expansion.ensures.keeps) c.place_not_some.ensures.keeps) c.restated.ensures.keeps
