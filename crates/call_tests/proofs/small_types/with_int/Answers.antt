use Rattle.call_tests.proofs.small_types.with_int.Goals as goal

pub instance-requires-clause-there : goal.instance-requires-clause-there
instance-requires-clause-there c = c.in_ok-int.ensures.keeps.types c.args.t c.requires.t

pub instance-requires-clause-subst : goal.instance-requires-clause-subst
instance-requires-clause-subst c = rw c.in_ok-subst.ensures ((c.in_ok-int.ensures.keeps.names c.args.variable c.requires.variable, c.in_ok-int.ensures.there), tt)
