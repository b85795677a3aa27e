use Rattle.smt_cli.specs.LambdaWalk.{AllWithout}
use Rattle.smt_cli.proofs.unbuilt.know_parts.Given as goal

-- what is known is right
abbrev pub invariant-loop-t : goal.invariant-loop-t
invariant-loop-t l = AllWithout l.base l.seen
