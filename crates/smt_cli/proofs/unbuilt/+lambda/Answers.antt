use Rattle.std.proofs.Common.{◌∙◌, sym}
use Rattle.smt_cli.proofs.LambdaLemmas.{without_put}
use Rattle.smt_cli.proofs.unbuilt.+lambda.Goals as goal

pub part_holds-returns-in_ok-insert-clause-seen : goal.part_holds-returns-in_ok-insert-clause-seen
part_holds-returns-in_ok-insert-clause-seen t c =
    without_put c.args.base.now c.node_holds.new.seen c.insert.new.self c.args.t c.in_ok-holds.ensures.seen (λ q. c.in_ok-insert.ensures.updates.0 q) (sym c.in_ok-holds.ensures.holds ∙ c.if-not-holds.true)
