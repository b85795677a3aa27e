use Rattle.std.proofs.Common.{true, drop, reverse}
use Rattle.sexp.specs.Growing.{GrowsFrom}
use Rattle.sexp.specs.Reading.{answers, count_fed, KeepsFed}
use Rattle.sexp.specs.Tokens.{tokens_left}
use Rattle.sexp.proofs.forest.grow.Given as goal

abbrev pub invariant-tokens : goal.invariant-tokens
invariant-tokens l = record {
  keeps : KeepsFed l.fn.reader l.reader;
  grows : GrowsFrom l.bytes l.reader l.records (reverse l.lists.items);
}

abbrev pub decreases-tokens : goal.decreases-tokens
decreases-tokens l = tokens_left (answers l.reader true (drop (count_fed l.reader) l.bytes))
