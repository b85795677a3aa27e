use Rattle.bench_kernel.specs.Given.{HasGiven}
use Rattle.bench_kernel.proofs.calls.Given as goal

abbrev pub invariant-loop : goal.invariant-loop
invariant-loop l = HasGiven l.k l.g
