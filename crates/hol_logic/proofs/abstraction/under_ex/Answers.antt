use Rattle.std.proofs.Common.{◌∙◌, ap}
use Rattle.std.specs.Prelude.{codes}
use Rattle.hol_types.specs.Ty.{BoolTy, FunTy}
use Rattle.hol_terms.specs.Term.{ty_of}
use Rattle.hol_terms.specs.TermStore.{term_tree}
use Rattle.hol_terms.specs.Constants.{equation, exists}
use Rattle.hol_terms.specs.Derivable.{abstraction}
use Rattle.lcf_kernel.proofs.KeepLemmas.{keeps_all_trans}
use Rattle.lcf_kernel.proofs.KeptLemmas.{tree_kept}
use Rattle.hol_logic.proofs.StateLemmas.{states_keep, passed_shape}
use Rattle.hol_logic.proofs.EquationLemmas.{equal_from, type_is, under_says, states_through}
use Rattle.hol_logic.proofs.BodyLemmas.{lambda_is, in_app, in_const, in_place}
use Rattle.hol_logic.proofs.abstraction.under_ex.Goals as goal

pub place_some-requires : goal.place_some-requires
place_some-requires c = c.abstracted.ensures.keeps.records.store.terms c.args.v c.requires.there

pub carry-requires-clause-equal : goal.carry-requires-clause-equal
carry-requires-clause-equal c = equal_from _ _ _ (states_keep c.place_some.ensures.keeps c.in_ok-lambdas.ensures.states)

pub carry-requires-clause-body : goal.carry-requires-clause-body
carry-requires-clause-body c = c.in_ok-body.ensures.is.there

pub carry-requires-clause-function : goal.carry-requires-clause-function
carry-requires-clause-function c = λ e.
    let s = c.args.k.now.store in
    let v = term_tree s c.args.v in
    let left = term_tree s c.in-Some.sides.left in
    let right = term_tree s c.in-Some.sides.right in
    let lambdas = states_keep c.place_some.ensures.keeps c.in_ok-lambdas.ensures.states in
    let type = type_is e (FunTy (ty_of v) (ty_of left)) (abstraction v left) (abstraction v right) lambdas.concl in
    let body = rw (tree_kept c.abstracted.ensures.keeps c.requires.there) at c.in_ok-body.ensures.is.is in
    rw (type, c.in-Some.ensures.bool, body) (lambda_is (in_app (in_const (codes "ex") (FunTy (FunTy (ty_of v) BoolTy) BoolTy)) (in_place (FunTy (ty_of v) BoolTy))))

pub returns-clause-states : goal.returns-clause-states
returns-clause-states c =
    let s = c.args.k.now.store in
    let v = term_tree s c.args.v in
    let left = term_tree s c.in-Some.sides.left in
    let right = term_tree s c.in-Some.sides.right in
    let lambdas = states_keep c.place_some.ensures.keeps c.in_ok-lambdas.ensures.states in
    let body = rw (tree_kept c.abstracted.ensures.keeps c.requires.there) at c.in_ok-body.ensures.is.is in
    let made = rw body at c.in_ok-r.ensures.states in
    let stated = states_through lambdas made.1 in (
      record { left = left; right = right; is = c.in-Some.ensures.some.concl ∙ ap (λ ty. equation ty left right) c.in-Some.ensures.bool; general = c.in_ok-lambdas.ensures.ok },
      record {
        there = stated.there;
        concl = stated.concl ∙ under_says made.0 (FunTy (ty_of v) (ty_of left)) (abstraction v left) (abstraction v right) (λ u. exists (ty_of v) u) lambdas.concl;
        hyps = stated.hyps;
        bare = stated.bare;
      },
    )

pub returns-in_err-lambdas-clause-shape : goal.returns-in_err-lambdas-clause-shape
returns-in_err-lambdas-clause-shape c = passed_shape c.from_residual.result c.in_err-lambdas.field-0.0 c.from_residual.ensures.1 (λ e form. c.in_err-lambdas.ensures.shape e form.general)

pub returns-in_err-r-clause-shape : goal.returns-in_err-r-clause-shape
returns-in_err-r-clause-shape c = passed_shape c.from_residual-in_err-r.result c.in_err-r.field-0.0 c.from_residual-in_err-r.ensures.1 (λ e form. c.in_err-r.ensures.shape e)

pub returns-in_err-lambdas-clause-keeps : goal.returns-in_err-lambdas-clause-keeps
returns-in_err-lambdas-clause-keeps c = c.abstracted.ensures.keeps

pub returns-in_err-body-clause-keeps : goal.returns-in_err-body-clause-keeps
returns-in_err-body-clause-keeps c = keeps_all_trans c.abstracted.ensures.keeps c.place_some.ensures.keeps

pub returns-in_err-r-clause-keeps : goal.returns-in_err-r-clause-keeps
returns-in_err-r-clause-keeps c = keeps_all_trans (keeps_all_trans c.abstracted.ensures.keeps c.place_some.ensures.keeps) c.carry.ensures.keeps

pub returns-clause-keeps : goal.returns-clause-keeps
returns-clause-keeps c = keeps_all_trans (keeps_all_trans c.abstracted.ensures.keeps c.place_some.ensures.keeps) c.carry.ensures.keeps
