use Rattle.std.proofs.Common.{◌∙◌, sym, ap, rules, bytes_eq}
use Rattle.std.specs.Map.{lookup}
use Rattle.goal_text.specs.Hiding.{newest_by}
use Rattle.goal_text.proofs.HidingLemmas.{bound_keeps}
use Rattle.goal_text.proofs.binders.Binders.bind.Goals as goal

pub invariant_of-self-in-Ok : goal.invariant_of-self-in-Ok
invariant_of-self-in-Ok c =
    let own = c.in_ok-own.ensures.items in
    let key = c.in_ok-key.ensures.items in
    let table = c.self.inside.newest in
    bound_keeps c.self.inside.stack.items c.push.new.self.items _ table c.set.new.self c.in_ok-key.key.items c.len-place.result c.in_ok-push.ensures.items c.self.invariant (c.len-place.ensures ∙ c.self.inside.stack.ok.0) (search rules) (key ∙ sym own)
    (c.newest_of-hidden.ensures ∙ ap newest_by c.find.ensures ∙ ap (λ n. newest_by (lookup (bytes_eq n) table)) (sym own)) c.in-Ok.ensures.ok
