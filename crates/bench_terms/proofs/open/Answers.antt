use Rattle.bench_terms.proofs.open.Goals as goal

pub open-requires-clause-new : goal.open-requires-clause-new
open-requires-clause-new c = c.intern.ensures.keeps.terms c.args.x c.requires.value
