use Rattle.std.proofs.Common.{◌≡◌, length, ◌∙◌, sym, rules}
use Rattle.proof_plan.proofs.SizeLemmas.{count_is}
use Rattle.proof_plan.proofs.size.count_parts.Goals as goal

pub returns-in-Ok : goal.returns-in-Ok
returns-in-Ok g c =
    let same : length c.in_ok-parts.parts ≡ c.in-Ok.count = search rules in
    sym same ∙ count_is c.args.task.now.plan c.args.task.now.node (g.S.Terms.store c.args.store.now) c.requires c.in_ok-terms.terms.items c.in_ok-parts.parts c.in_ok-terms.ensures.there c.in_ok-terms.ensures.trees (search rules)
