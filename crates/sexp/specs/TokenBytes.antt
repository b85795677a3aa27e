-- What the bytes of a token are.
use Rattle.std.specs.Prelude.{◌≡◌, ℕ, ◌+◌, ◌<◌, ◌≤◌, ◌==◌, List, All, Bool, true, false, ◌&&◌, ◌||◌, not, nat_le, slice_index}
use Rattle.sexp.specs.Bytes.{is_white}
use Rattle.sexp.specs.declared.token.Token.{Token}
use Rattle.sexp.specs.declared.token.TokenKind.{TokenKind}
use Rattle.sexp.specs.declared.token.TokenKind.TheVariants as kinds

-- a byte of an atom: 0x21 to 0x7E without parentheses, semicolon, bar and quote
abbrev pub is_of_atom : ℕ → Bool
is_of_atom b = not (b == 59) && not (b == 40) && not (b == 41) && not (b == 124) && not (b == 34) && nat_le 33 b && nat_le b 126

-- a byte between bars: 0x20 to 0x7E, tab, CR and LF, without bar and backslash
abbrev pub is_within_bars : ℕ → Bool
is_within_bars b = not (b == 124) && not (b == 92) && ((nat_le 32 b && nat_le b 126) || is_white b)

-- no byte of an atom stands before a place
abbrev pub IsFree : List ℕ → ℕ → Type 0
IsFree text at = (k : ℕ) → k + 1 ≡ at → is_of_atom (slice_index text k) ≡ false

-- Bytes of an atom stand from the one place up to the other, and none before them or behind. (Past the text's end stands 0.)
pub record IsAtom (text : List ℕ) (from to : ℕ) : Type 0 where
  pub before : IsFree text from
  pub bytes : (k : ℕ) → from ≤ k → k < to → is_of_atom (slice_index text k) ≡ true
  pub behind : is_of_atom (slice_index text to) ≡ false

-- A bar, bytes that may stand between bars, and a bar.
pub record IsQuoted (text : List ℕ) (from to : ℕ) : Type 0 where
  pub opens : slice_index text from ≡ 124
  pub bytes : (k : ℕ) → from < k → k + 1 < to → is_within_bars (slice_index text k) ≡ true
  pub closes : (k : ℕ) → k + 1 ≡ to → slice_index text k ≡ 124

-- this one byte stands there
pub record IsByte (text : List ℕ) (from to b : ℕ) : Type 0 where
  pub byte : slice_index text from ≡ b
  pub one : to ≡ from + 1

-- what stands from one place up to another is a token of that kind
abbrev pub HasBytes : TokenKind → List ℕ → ℕ → ℕ → Type 0
HasBytes kinds.Open text from to = IsByte text from to 40
HasBytes kinds.Close text from to = IsByte text from to 41
HasBytes kinds.Atom text from to = IsAtom text from to
HasBytes kinds.Quoted text from to = IsQuoted text from to

-- a token is what stands there in the text
abbrev pub IsTokenOf : List ℕ → Token → Type 0
IsTokenOf text t = HasBytes t.kind text t.start t.end

-- each token is what stands there in the text
abbrev pub AreTokensOf : List ℕ → List Token → Type 0
AreTokensOf text tokens = All (λ t. IsTokenOf text t) tokens
