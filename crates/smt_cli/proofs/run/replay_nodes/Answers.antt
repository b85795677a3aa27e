use Rattle.std.proofs.Common.{◌<◌, length, arith}
use Rattle.smt_cli.proofs.RunLemmas.{stated_at}
use Rattle.smt_cli.proofs.run.replay_nodes.Goals as goal

pub know_claim-requires-clause-states : goal.know_claim-requires-clause-states
know_claim-requires-clause-states c =
    let so_far = c.loop-k.invariant in
    let within : c.root-root.result < length c.loop-k.thms.items = omega (arith, c.root-root.ensures.there, c.len-k-end.ensures.is, c.loop-k-test.false, so_far.count) in
    stated_at c.args.plan.now c.loop-k.kernel c.loop-k.thms.items c.root-root.result c.index.result.now so_far.states within c.index.ensures
