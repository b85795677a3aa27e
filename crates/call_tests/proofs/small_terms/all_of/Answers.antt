use Rattle.call_tests.proofs.small_terms.all_of.Goals as goal

pub intern-requires-3 : goal.intern-requires-3
intern-requires-3 g c = (c.in_ok-truth.ensures.there, c.in_ok-truth.ensures.keeps.terms c.in_ok-b.b c.in_ok-b.ensures.there)
