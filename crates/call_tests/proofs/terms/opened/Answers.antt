use Rattle.call_tests.proofs.terms.opened.Goals as goal

pub open-requires-clause-new : goal.open-requires-clause-new
open-requires-clause-new g c = c.intern.ensures.keeps.terms c.args.x c.requires.value
