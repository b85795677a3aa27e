use Rattle.std.proofs.Common.{◌≡◌, map, take}
use Rattle.std.specs.Prelude.{slice_index_or}
use Rattle.smt_cli.proofs.run.premise_theorems.Given as goal

-- the theorems of the premises so far
abbrev pub invariant-loop-j : goal.invariant-loop-j
invariant-loop-j l = l.ts.items ≡ map (λ i. slice_index_or l.thms i 0) (take l.j-index l.premises)
