-- What a sink is told to hold after a write.
use Rattle.std.specs.Prelude.{ℕ, ◌<◌, ◌≡◌, List, Option, length, take}
use Rattle.std.specs.Io.KnownBytes.{append_known}

-- the told bytes grew by a front part of the piece, and not by all of it
abbrev pub AppendsPart : Option (List ℕ) → Option (List ℕ) → List ℕ → Type 0
AppendsPart before after piece = (n : ℕ) × (n < length piece) × (after ≡ append_known before (take n piece))
