use Rattle.call_tests.proofs.terms.+nested.Given as goal

abbrev pub decreases-nested : goal.decreases-nested
decreases-nested g l = l.length
