use Rattle.std.proofs.Common.{sym, ap, ◌∙◌, arith}
use Rattle.hol_types.proofs.TypeLemmas.{eqb_sound, eqb_complete}
use Rattle.hol_types.specs.TypeStore.{tree_of}
use Rattle.hol_terms.specs.TermStore.{joined}
use Rattle.hol_terms.proofs.TermLemmas.{applied_fit, applied_ty, applied_unfit, applied_other}
use Rattle.hol_terms.proofs.typed.applied.Goals as goal

pub returns-then-eq-clause-fit : goal.returns-then-eq-clause-fit
returns-then-eq-clause-fit c =
    let s = joined c.args.base.now c.args.own.now in
    applied_fit s c.args.f c.args.x c.ty_in-function.result c.ty_in-argument.result c.ty_in-function.ensures.ty c.ty_in-argument.ensures.ty c.in-Fun.from c.in-Fun.to (c.type_node_in.ensures.tree ∙ ap (λ n. tree_of s.types n) c.in-Fun.is) (eqb_sound _ _ (sym c.if-eq.ensures))

pub returns-then-eq-clause-ty : goal.returns-then-eq-clause-ty
returns-then-eq-clause-ty c =
    let s = joined c.args.base.now c.args.own.now in
    applied_ty s c.args.f c.args.x c.ty_in-function.result c.ty_in-argument.result c.ty_in-function.ensures.ty c.ty_in-argument.ensures.ty c.in-Fun.from c.in-Fun.to (c.type_node_in.ensures.tree ∙ ap (λ n. tree_of s.types n) c.in-Fun.is)

pub returns-else-eq-clause-unfit : goal.returns-else-eq-clause-unfit
returns-else-eq-clause-unfit c =
    let s = joined c.args.base.now c.args.own.now in
    let parts = rw c.in-Fun.is at c.type_node_in.ensures.parts in
    let below = c.ty_in-function.ensures.there in
    applied_unfit s c.args.f c.args.x c.ty_in-function.result c.ty_in-argument.result c.ty_in-function.ensures.ty c.ty_in-argument.ensures.ty c.in-Fun.from c.in-Fun.to (c.type_node_in.ensures.tree ∙ ap (λ n. tree_of s.types n) c.in-Fun.is) c.type_node_in.ensures.apart (omega (arith, parts.0)) c.ty_in-argument.ensures.there (eqb_complete _ _ (sym c.if-eq.ensures))

pub returns-in_default : goal.returns-in_default
returns-in_default c =
    let s = joined c.args.base.now c.args.own.now in
    record {
      unfit = applied_other s c.args.f c.args.x c.ty_in-function.result c.ty_in-argument.result c.ty_in-function.ensures.ty c.ty_in-argument.ensures.ty c.type_node_in.result.now c.type_node_in.ensures.tree c.in_default.not-Fun;
      fit = tt;
      there = tt;
      ty = tt;
    }
