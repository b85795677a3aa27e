use Rattle.std.proofs.Common.{◌≡◌, ◌∙◌, Some, None, length, refl, sym, ap, arith}
use Rattle.goal_text.specs.Hiding.{newest_by}
use Rattle.goal_text.proofs.HidingLemmas.{found_below, found_within}
use Rattle.goal_text.proofs.binders.Binders.find.Goals as goal

pub overflow_sub-result : goal.overflow_sub-result
overflow_sub-result c =
    let below = found_below c.self.inside.stack.items c.self.inside.newest c.args.name.now c.self.invariant.0 (Some c.in-Some.spot) (c.in-Some.ensures ∙ ap newest_by c.find.ensures) c.in-Some.spot refl in
    omega (arith, below, c.len.ensures, c.self.inside.stack.ok.0)

pub overflow_sub-result-in-Some : goal.overflow_sub-result-in-Some
overflow_sub-result-in-Some c =
    let below = found_below c.self.inside.stack.items c.self.inside.newest c.args.name.now c.self.invariant.0 (Some c.in-Some.spot) (c.in-Some.ensures ∙ ap newest_by c.find.ensures) c.in-Some.spot refl in
    omega (arith, below, c.len.ensures, c.self.inside.stack.ok.0)

pub returns-in-Some : goal.returns-in-Some
returns-in-Some c =
    let is = found_within c.self.inside.stack.items c.self.inside.newest c.args.name.now c.self.invariant.0 (Some c.in-Some.spot) (c.in-Some.ensures ∙ ap newest_by c.find.ensures) c.args.self.now c.self.view_is in
    let count : c.len.result ≡ length c.self.inside.stack.items = c.len.ensures ∙ c.self.inside.stack.ok.0 in
    rw count (sym is)

pub returns-in-None : goal.returns-in-None
returns-in-None c =
    let is = found_within c.self.inside.stack.items c.self.inside.newest c.args.name.now c.self.invariant.0 None (c.in-None.ensures ∙ ap newest_by c.find.ensures) c.args.self.now c.self.view_is in
    sym is
