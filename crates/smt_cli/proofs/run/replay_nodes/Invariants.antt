use Rattle.smt_cli.specs.Outcomes.{IsReplayed}
use Rattle.smt_cli.proofs.run.replay_nodes.Given as goal

-- the nodes so far are replayed
abbrev pub invariant-loop-k : goal.invariant-loop-k
invariant-loop-k l = IsReplayed l.plan l.kernel l.thms.items l.k
