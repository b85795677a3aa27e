-- The records of a text that is read a piece at a time.
use Rattle.std.specs.Prelude.{◌≡◌, ℕ, ◌≤◌, List, length, drop, true, false, None}
use Rattle.sexp.specs.Forest.{Kept}
use Rattle.sexp.specs.Nesting.{Answers}
use Rattle.sexp.specs.Reading.{Reading, answers, count_fed}
use Rattle.sexp.specs.Records.{grown, AllBelow}
use Rattle.sexp.specs.Spans.{IsOrderly}
use Rattle.sexp.specs.TextTrees.{mapped, tokens_or_fault, records_of}

-- the records, with the lists that are open and the answers to come, are those of the text
pub record IsGrowing (text : List ℕ) (rs : List Kept) (lists : List ℕ) (a : Answers) : Type 0 where
  pub reads : mapped (grown text rs lists) (tokens_or_fault a) ≡ records_of text
  pub orderly : IsOrderly a (length lists) (length rs) (length text)
  pub below : AllBelow lists (length rs)
  pub fits : length rs ≤ length text

-- A reader was fed a front part of the text and has met no fault: once it has the rest of the text too, the records are the text's.
pub record GrowsFrom (text : List ℕ) (r : Reading) (rs : List Kept) (lists : List ℕ) : Type 0 where
  pub none : r.fault ≡ None
  pub short : r.long ≡ false
  pub growing : IsGrowing text rs lists (answers r true (drop (count_fed r) text))
