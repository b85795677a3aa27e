use Rattle.std.proofs.Common.{◌≡◌, ◌∙◌, ◌+◌, ◌-◌, sym, subst, arith, take, true}
use Rattle.hol_types.specs.TypeStore.{type_tree}
use Rattle.hol_terms.specs.Term.{ty_of}
use Rattle.hol_terms.specs.TermStore.{term_tree}
use Rattle.hol_terms.proofs.KeepsLemmas.{keeps_trans}
use Rattle.goal_text.specs.Bounds.{FitsAll}
use Rattle.goal_text.specs.Operations as operations
use Rattle.goal_text.specs.Scope.{binders_in}
use Rattle.goal_text.proofs.BuiltLemmas.{body_fits, innermost_fits, others_fit, nothing_left, others_there, outer_left, under_next, variable_there}
use Rattle.goal_text.proofs.KeptLemmas.{same_Ok}
use Rattle.goal_text.proofs.built.under_all.Goals as goal

pub under-requires-clause-ty : goal.under-requires-clause-ty
under-requires-clause-ty c =
    let s = c.args.base.now in
    let now = c.loop-left.base in
    let inv = c.loop-left.invariant in
    let bs = c.loop-left.scope.binders in
    let cs = c.leave.new.self in
    let left = c.loop-left.left in
    let next : left ≡ left - 1 + 1 = omega (arith, c.loop-left-test.true) in
    let name = c.in-Some.ensures.0 in
    let is = c.in-Some.ensures.1 in
    let ty = c.in-Some.ty in
    inv.keeps.types ty (variable_there s bs cs name ty left (left - 1) is next inv.scope.binders)

pub under-requires-clause-bounds : goal.under-requires-clause-bounds
under-requires-clause-bounds c =
    let s = c.args.base.now in
    let now = c.loop-left.base in
    let inv = c.loop-left.invariant in
    let bs = c.loop-left.scope.binders in
    let cs = c.leave.new.self in
    let left = c.loop-left.left in
    let next : left ≡ left - 1 + 1 = omega (arith, c.loop-left-test.true) in
    let name = c.in-Some.ensures.0 in
    let is = c.in-Some.ensures.1 in
    let ty = c.in-Some.ty in
    innermost_fits s bs cs name ty left (left - 1) is next now inv.keeps inv.scope.binders c.args.binder (term_tree now c.loop-left.t) inv.bounds

pub loop-left-preserved : goal.loop-left-preserved
loop-left-preserved c =
    let s = c.args.base.now in
    let now = c.loop-left.base in
    let inv = c.loop-left.invariant in
    let bs = c.loop-left.scope.binders in
    let cs = c.leave.new.self in
    let left = c.loop-left.left in
    let next : left ≡ left - 1 + 1 = omega (arith, c.loop-left-test.true) in
    let name = c.in-Some.ensures.0 in
    let is = c.in-Some.ensures.1 in
    let ty = c.in-Some.ty in
    let p = term_tree now c.loop-left.t in
    let made = same_Ok _ _ c.in_ok-t.ensures.read in
    let rest = binders_in s (take (left - 1) cs) in
    record {
      scope = record { types = inv.scope.types; consts = inv.scope.consts; binders = others_there s bs cs name ty left (left - 1) is next inv.scope.binders };
      others = record { types = inv.others.types; consts = inv.others.consts };
      outer = sym (outer_left s bs cs name ty left (left - 1) is next) ∙ inv.outer;
      keeps = keeps_trans inv.keeps c.in_ok-t.ensures.keeps;
      there = c.in_ok-t.ensures.there;
      bounds = subst (λ x. FitsAll rest x 0) made (others_fit s bs cs name ty left (left - 1) is next now inv.keeps inv.scope.binders c.args.binder p inv.bounds);
      fits = subst (λ x. operations.fits_body c.args.binder (ty_of x) ≡ true) made (body_fits c.args.binder (type_tree now.types ty) p inv.fits);
      read = subst (λ x. operations.under_all c.args.binder rest x ≡ operations.under_all c.args.binder (binders_in s (take c.args.n c.args.scope.now.binders)) (term_tree s c.args.body)) made (under_next s bs cs name ty left (left - 1) is next now inv.keeps inv.scope.binders c.args.binder p _ inv.read);
    }

pub returns-in_default-clause-binders : goal.returns-in_default-clause-binders
returns-in_default-clause-binders c = c.in_default.ensures.1 ∙ sym (nothing_left c.loop-left.left c.loop-left.scope.binders c.in_default.ensures.0) ∙ c.loop-left.invariant.outer
