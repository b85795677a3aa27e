-- A sink in memory.
use Rattle.std.specs.Prelude.{ℕ, ◌-◌, ◌<◌, List, length, min, Contains}
use Rattle.smt_io.specs.Faults.{counted}

-- the bytes written, the room for all, the numbers of the calls that fail, how many calls there were, how many bytes a write takes at most, and the count of faults
pub record Page : Type 0 where
  pub bytes : List ℕ
  pub room : ℕ
  pub fails : List ℕ
  pub calls : ℕ
  pub most : ℕ
  pub faults : ℕ

-- the next call isn't one of those that fail, and a piece of this length finds room for some of it
abbrev pub IsTaken : Page → ℕ → Type 0
IsTaken page size = (¬ Contains page.fails (counted page.calls)) × (0 < size → length page.bytes < page.room)

-- how many bytes of a piece of this length are taken
abbrev pub taken : Page → ℕ → ℕ
taken page size = min (min size page.most) (page.room - length page.bytes)
