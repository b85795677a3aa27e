-- Texts by number.
use Rattle.std.specs.Prelude.{◌≡◌, ℕ, List, Some, slice_get}

-- each text stays where it is
abbrev pub Keeps : List (List ℕ) → List (List ℕ) → Type 0
Keeps old new = (i : ℕ) (text : List ℕ) → slice_get old i ≡ Some text → slice_get new i ≡ Some text
