use Rattle.call_tests.proofs.types.+functions.Given as goal

abbrev pub decreases-functions : goal.decreases-functions
decreases-functions l = l.length
