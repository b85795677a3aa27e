-- What was loaded is the front of what is told.
use Rattle.std.proofs.Common.{◌≡◌, ℕ, ◌+◌, ◌-◌, ◌<◌, ◌≤◌, List, take, vec_len}
use Rattle.std.specs.Prelude.{IfSome}
use Rattle.smt_io.proofs.loading.load.Given as goal

abbrev pub invariant-reads : goal.invariant-reads
invariant-reads g l =
    let told = g.F.Files.contents in
    record {
      front : IfSome (told l.fn.files l.name) (λ all. l.bytes.items ≡ take (vec_len l.bytes) all);
      within : vec_len l.bytes ≤ l.most + 1;
      room : 0 < vec_len l.chunk;
      contents_stay : told l.files ≡ told l.fn.files;
      counts_stay : (other : List ℕ) → g.F.Files.faults l.fn.files other ≤ g.F.Files.faults l.files other;
      promises_stay : (other : List ℕ) → g.F.Files.never_fails l.fn.files other → g.F.Files.never_fails l.files other;
    }

abbrev pub decreases-reads : goal.decreases-reads
decreases-reads g l = l.most + 1 - vec_len l.bytes
