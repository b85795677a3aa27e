use Rattle.std.proofs.Common.{◌≡◌, ◌<◌, ◌^◌, drop, true}
use Rattle.std.specs.List.{list_all}
use Rattle.goal_text.specs.Lexicon.{is_digit, value_behind}
use Rattle.goal_text.proofs.lexicon.value.Given as goal

-- the digits still to come are behind the number so far
abbrev pub invariant-loop-digit : goal.invariant-loop-digit
invariant-loop-digit l =
    record {
      small : l.n < 2 ^ 127;
      digits : list_all is_digit (drop l.digit-index l.text) ≡ true;
      value : value_behind l.n (drop l.digit-index l.text) ≡ value_behind 0 l.text;
    }
