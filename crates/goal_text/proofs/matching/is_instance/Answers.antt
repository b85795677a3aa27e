use Rattle.std.proofs.Common.{◌∙◌, subst}
use Rattle.std.specs.Prelude.{IfSome}
use Rattle.hol_types.specs.TypeStore.{type_tree}
use Rattle.hol_types.specs.TypeSubst.{subst_tree}
use Rattle.hol_types.specs.TypeMatch.{IsLeast, Matches, NeverIs}
use Rattle.goal_text.proofs.MatchLemmas.{found_instance}
use Rattle.goal_text.proofs.matching.is_instance.Goals as goal

pub returns : goal.returns
returns c =
    let types = c.args.base.now.types in
    let p = type_tree types c.args.pattern in
    let t = type_tree types c.args.t in
    let empty = c.in_ok-none.ensures.empty in
    c.is_some.ensures
    ∙ found_instance (λ u. subst_tree types u) p t c.in_ok-found.found
    (subst (λ e. IfSome c.in_ok-found.found (λ u. IsLeast (Matches p t) (subst_tree types e) (subst_tree types u))) empty c.in_ok-found.ensures.least)
    (λ h. subst (λ e. NeverIs (subst_tree types e) p t) empty (c.in_ok-found.ensures.none h))
