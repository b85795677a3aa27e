use Rattle.std.proofs.Common.{◌≡◌, drop}
use Rattle.std.specs.List.{list_all}
use Rattle.goal_text.specs.Lexicon.{is_inner}
use Rattle.goal_text.proofs.lexicon.all_inner.Given as goal

-- the bytes still to come decide
abbrev pub invariant-loop-b : goal.invariant-loop-b
invariant-loop-b l = list_all is_inner (drop l.b-index l.text) ≡ list_all is_inner l.text
