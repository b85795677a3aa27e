use Rattle.std.proofs.Common.{◌^◌}
use Rattle.goal_text.specs.Lexicon.{value_of}
use Rattle.goal_text.proofs.LexiconLemmas.{value_too_large}
use Rattle.goal_text.proofs.lexicon.value.Goals as goal

pub returns-in-None : goal.returns-in-None
unfolding value_of
returns-in-None c = value_too_large (2 ^ 127) c.loop-digit.n c.loop-digit.digit-index c.args.text.now c.loop-digit-test.true c.in-None.ensures c.loop-digit.invariant.value
