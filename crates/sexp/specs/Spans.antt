-- The tokens of a text stand one behind another, and each closing parenthesis has its opening one.
use Rattle.std.specs.Prelude.{◌≡◌, ℕ, zero, suc, ◌+◌, ◌<◌, ◌≤◌, List, [], ◌∷◌}
use Rattle.sexp.specs.Text.{Ending, more, ends, faulty, Words, word, stop, token_of}
use Rattle.sexp.specs.Nesting.{Answers, last, token}
use Rattle.sexp.specs.declared.lexis.Mode.{Mode}
use Rattle.sexp.specs.declared.lexis.Mode.TheVariants as modes
use Rattle.sexp.specs.declared.token.Token.{Token}
use Rattle.sexp.specs.declared.token.TokenKind.{TokenKind}
use Rattle.sexp.specs.declared.token.TokenKind.TheVariants as kinds

-- how many bytes a token has at least
abbrev pub least : TokenKind → ℕ
least kinds.Open = 1
least kinds.Close = 1
least kinds.Atom = 1
least kinds.Quoted = 2

-- the token stands between these places
pub record IsSpan (t : Token) (from to : ℕ) : Type 0 where
  pub begins : from ≤ t.start
  pub wide : t.start + least t.kind ≤ t.end
  pub within : t.end ≤ to

-- the words stand one behind another between these places
abbrev pub AreWithin : Words → ℕ → ℕ → Type 0
AreWithin (stop ending) from to = Unit {0}
AreWithin (word w rest) from to = IsSpan (token_of w) from to × AreWithin rest w.end to

-- what is begun and not ended began between these places
abbrev pub BeganWithin : Mode → ℕ → ℕ → Type 0
BeganWithin modes.Between from at = from ≤ at
BeganWithin modes.Comment from at = from ≤ at
BeganWithin (modes.Atom start letters) from at = (from ≤ start) × (start < at)
BeganWithin (modes.Quoted start) from at = (from ≤ start) × (start < at)

-- a text ends with all lists closed
abbrev pub IsClosed : Ending → ℕ → Type 0
IsClosed ends lists = lists ≡ 0
IsClosed more lists = Unit {0}
IsClosed (faulty fault) lists = Unit {0}

abbrev pub orderly_by : TokenKind → ℕ → (ℕ → Type 0) → Type 0
orderly_by kinds.Open lists go_on = go_on (suc lists)
orderly_by kinds.Close zero go_on = ⊥
orderly_by kinds.Close (suc lists) go_on = go_on lists
orderly_by kinds.Atom lists go_on = go_on lists
orderly_by kinds.Quoted lists go_on = go_on lists

-- The tokens stand one behind another between these places; so many lists are open before them, and where
-- the text ends, all are closed.
abbrev pub IsOrderly : Answers → ℕ → ℕ → ℕ → Type 0
IsOrderly (last ending) lists from to = IsClosed ending lists
IsOrderly (token t rest) lists from to = IsSpan t from to × orderly_by t.kind lists (λ inner. IsOrderly rest inner t.end to)

-- the tokens stand one behind another between these places
abbrev pub AreSpans : List Token → ℕ → ℕ → Type 0
AreSpans [] from to = Unit {0}
AreSpans (t ∷ ts) from to = IsSpan t from to × AreSpans ts t.end to
