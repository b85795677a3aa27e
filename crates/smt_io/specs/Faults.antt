-- Counts of faults. A count is kept as a `u64` and stops at its greatest number.
use Rattle.std.specs.Prelude.{ℕ, ◌+◌, ◌-◌, ◌^◌, ◌≤◌, min}

-- the count after one fault more
abbrev pub counted : ℕ → ℕ
counted count = min (count + 1) (2 ^ 64 - 1)

-- the count rose, or stands at its greatest number
abbrev pub Rose : ℕ → ℕ → Type 0
Rose before after = counted before ≤ after
