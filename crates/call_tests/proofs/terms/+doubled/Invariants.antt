use Rattle.call_tests.proofs.terms.+doubled.Given as goal

abbrev pub decreases-doubled : goal.decreases-doubled
decreases-doubled g l = l.length
