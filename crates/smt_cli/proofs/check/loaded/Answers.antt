use Rattle.smt_cli.proofs.TextLemmas.{goal_cut, proof_cut}
use Rattle.smt_cli.proofs.check.loaded.Goals as goal

pub returns-in-Ok-clause-goal : goal.returns-in-Ok-clause-goal
returns-in-Ok-clause-goal g c = λ all told. goal_cut c.in-Ok.text all (rw told at c.in-Ok.ensures.bytes)

pub returns-in-Ok-clause-proof : goal.returns-in-Ok-clause-proof
returns-in-Ok-clause-proof g c = λ all source told. proof_cut source c.in-Ok.text all (rw told at c.in-Ok.ensures.bytes)
