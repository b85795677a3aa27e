-- The room ends before each failing place met so far.
use Rattle.std.proofs.Common.{◌≡◌, ℕ, ◌+◌, ◌<◌, ◌≤◌, get_or}
use Rattle.smt_io.specs.declared.mem_file.FailAt.{FailAt}
use Rattle.smt_io.proofs.mem_files.room_before.Given as goal

abbrev pub invariant-loop-fail : goal.invariant-loop-fail
invariant-loop-fail l = record {
  clear : (k : ℕ) (d : FailAt) → k < l.fail-index → (get_or l.fails k d).name ≡ l.name → l.at < (get_or l.fails k d).place;
  before : (k : ℕ) (d : FailAt) → k < l.fail-index → (get_or l.fails k d).name ≡ l.name → l.at + l.room ≤ (get_or l.fails k d).place;
  within : l.room ≤ l.len;
  nonzero : l.room ≡ 0 → l.len ≡ 0;
}
