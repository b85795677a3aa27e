use Rattle.std.proofs.Common.{◌≡◌, ◌≤◌, ◌-◌, false, length, reverse}
use Rattle.sexp.specs.Growing.{GrowsFrom}
use Rattle.sexp.specs.Reading.{count_fed, is_whole}
use Rattle.sexp.proofs.forest.read_records.Given as goal

abbrev pub invariant-pieces : goal.invariant-pieces
invariant-pieces l = record {
  grows : GrowsFrom l.bytes l.reader l.records (reverse l.lists.items);
  counted : count_fed l.reader ≡ l.fed;
  within : l.fed ≤ length l.bytes;
  unfinished : is_whole l.reader ≡ false;
  limit : l.reader.most ≡ l.most;
}

abbrev pub decreases-pieces : goal.decreases-pieces
decreases-pieces l = length l.bytes - l.fed
