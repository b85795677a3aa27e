use Rattle.call_tests.proofs.small_terms.+pairs.Given as goal

abbrev pub decreases-pairs : goal.decreases-pairs
decreases-pairs g l = l.length
