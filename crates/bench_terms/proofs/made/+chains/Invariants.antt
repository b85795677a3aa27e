use Rattle.bench_terms.proofs.made.+chains.Given as goal

abbrev pub decreases-chains : goal.decreases-chains
decreases-chains l = l.count
