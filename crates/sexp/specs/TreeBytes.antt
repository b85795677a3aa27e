-- What the bytes of a tree are, and how trees stand in one another.
use Rattle.std.specs.Prelude.{◌≡◌, ℕ, ◌+◌, ◌-◌, ◌<◌, ◌≤◌, List, length, slice_index}
use Rattle.sexp.specs.Forest.{Body, ListBody, AtomBody, QuotedBody, Kept, kept_at, after_of, HasTree}
use Rattle.sexp.specs.Records.{between}
use Rattle.sexp.specs.TokenBytes.{IsAtom, IsQuoted}

-- an opening parenthesis stands at the one place, and a closing one is the last byte before the other
pub record IsInParentheses (text : List ℕ) (from to : ℕ) : Type 0 where
  pub opens : slice_index text from ≡ 40
  pub closing : ℕ
  pub last : to ≡ closing + 1
  pub order : from < closing
  pub closes : slice_index text closing ≡ 41

-- what stands from one place up to another is a tree of that kind, an atom with its text
abbrev pub HasTreeBytes : Body → List ℕ → ℕ → ℕ → Type 0
HasTreeBytes ListBody text from to = IsInParentheses text from to
HasTreeBytes (AtomBody own) text from to = IsAtom text from to × (own ≡ between text from to)
HasTreeBytes (QuotedBody own) text from to = IsQuoted text from to × (own ≡ between text (from + 1) (to - 1))

-- A tree is what stands there in the text. The trees within it stand between its parentheses, those past it behind them: so the
-- parenthesis with which a list ends is the one that closes it.
pub record IsTreeOf (text : List ℕ) (forest : List Kept) (i : ℕ) : Type 0 where
  pub bytes : HasTreeBytes (kept_at forest i).body text (kept_at forest i).start (kept_at forest i).end
  pub there : (kept_at forest i).end ≤ length text
  pub within : (j : ℕ) → i < j → j < after_of forest i → ((kept_at forest i).start < (kept_at forest j).start) × ((kept_at forest j).end < (kept_at forest i).end)
  pub past : (j : ℕ) → after_of forest i ≤ j → j < length forest → (kept_at forest i).end ≤ (kept_at forest j).start

-- each tree is what stands there in the text
abbrev pub AreTreesOf : List ℕ → List Kept → Type 0
AreTreesOf text forest = (i : ℕ) → HasTree forest i → IsTreeOf text forest i
