use Rattle.std.proofs.Common.{◌≡◌, ◌∙◌, ap, map, subst, arith}
use Rattle.std.specs.Prelude.{IfSome}
use Rattle.hol_types.specs.Ty.{FunTy}
use Rattle.hol_types.specs.TypeStore.{PartsBelow, tree_of, type_tree}
use Rattle.hol_types.specs.TypeSubst.{HasSubst, subst_tree}
use Rattle.hol_types.specs.TypeMatch.{IsLeast, Matches}
use Rattle.hol_terms.specs.Term.{ty_of}
use Rattle.goal_text.specs.Matching as matching
use Rattle.goal_text.proofs.InstanceLemmas.{no_parameters}
use Rattle.goal_text.proofs.MatchLemmas.{match_never, match_step, parameters_done, parameters_step, parameters_stop, terms_next, types_from}
use Rattle.goal_text.proofs.OperationLemmas.{terms_end}
use Rattle.goal_text.proofs.matching.match_parameters.Goals as goal

pub returns-in-None-clause-none : goal.returns-in-None-clause-none
returns-in-None-clause-none c =
    let types = c.args.base.now.types in
    let inv = c.loop-term.invariant in
    let is : type_tree types c.loop-term.u ≡ FunTy (type_tree types c.in-Fun.from) (type_tree types c.in-Fun.to) = c.type_node.ensures.tree ∙ ap (λ n. tree_of types n) c.in-Fun.is in
    let split = types_from c.args.base.now c.args.terms.now c.loop-term.term-index c.term-item.result (type_tree types c.ty.result) c.loop-term-test.true c.term-item.is c.ty.ensures.ty in
    let from = type_tree types c.in-Fun.from in
    let t = type_tree types c.ty.result in
    let s = subst_tree types c.loop-term.s in
    let none = match_never inv.found.0 s from t inv.found.1 (c.in_ok-more.ensures.none c.in-None.is) in
    parameters_stop _ inv.found.0 _ _ _ _ _ _ is split inv.found.2 none

pub loop-term-preserved : goal.loop-term-preserved
loop-term-preserved c =
    let types = c.args.base.now.types in
    let inv = c.loop-term.invariant in
    let is : type_tree types c.loop-term.u ≡ FunTy (type_tree types c.in-Fun.from) (type_tree types c.in-Fun.to) = c.type_node.ensures.tree ∙ ap (λ n. tree_of types n) c.in-Fun.is in
    let split = types_from c.args.base.now c.args.terms.now c.loop-term.term-index c.term-item.result (type_tree types c.ty.result) c.loop-term-test.true c.term-item.is c.ty.ensures.ty in
    let from = type_tree types c.in-Fun.from in
    let t = type_tree types c.ty.result in
    let s = subst_tree types c.loop-term.s in
    let least = subst (λ o. IfSome o (λ u. IsLeast (Matches from t) s (subst_tree types u))) c.in-Some.is c.in_ok-more.ensures.least in
    let next = match_step inv.found.0 s (subst_tree types c.in-Some.more) from t inv.found.1 least in
    let parts = subst (λ n. PartsBelow types c.loop-term.u n) c.in-Fun.is c.type_node.ensures.parts in
    record {
      there = subst (λ o. IfSome o (λ u. HasSubst types u)) c.in-Some.is c.in_ok-more.ensures.there;
      type = omega (arith, parts.1, inv.type);
      terms = terms_next c.args.base.now c.args.terms.now c.loop-term.term-index inv.terms;
      found = (next.0, next.2, parameters_step _ inv.found.0 _ _ _ _ _ _ is split inv.found.2 next.0 next.1);
    }

pub returns-in_default : goal.returns-in_default
returns-in_default c =
    let types = c.args.base.now.types in
    let inv = c.loop-term.invariant in
    record {
      there = inv.there;
      found = (inv.found.0, inv.found.2 ∙ no_parameters types c.type_node.result.now inv.found.0 (type_tree types c.loop-term.u) _ c.type_node.ensures.tree c.in_default.not-Fun, inv.found.1.there, inv.found.1.back);
      none = tt;
    }

pub returns-clause-found : goal.returns-clause-found
returns-clause-found c =
    let types = c.args.base.now.types in
    let inv = c.loop-term.invariant in
    let none = terms_end c.args.base.now c.args.terms.now c.loop-term.term-index c.loop-term-test.false in
    (inv.found.0, inv.found.2 ∙ ap (λ l. matching.match_parameters inv.found.0 (type_tree types c.loop-term.u) (map ty_of l)) none ∙ parameters_done inv.found.0 (type_tree types c.loop-term.u), inv.found.1.there, inv.found.1.back)
