-- The records of a list of tokens, in text order.
use Rattle.std.specs.Prelude.{ℕ, zero, suc, ◌+◌, ◌-◌, ◌<◌, List, [], ◌∷◌, ◌++◌, length, take, drop, slice_index_or}
use Rattle.sexp.specs.Forest.{Body, ListBody, AtomBody, QuotedBody, Kept}
use Rattle.sexp.specs.declared.token.Token.{Token}
use Rattle.sexp.specs.declared.token.TokenKind.{TokenKind}
use Rattle.sexp.specs.declared.token.TokenKind.TheVariants as kinds
use Rattle.sexp.specs.declared.records.Record.{Record}
use Rattle.sexp.specs.declared.records.Content.{Content}
use Rattle.sexp.specs.declared.records.Content.TheVariants as contents

-- the bytes from one place up to another
abbrev pub between : List ℕ → ℕ → ℕ → List ℕ
between bytes from to = take (to - from) (drop from bytes)

-- the bytes of an atom
abbrev pub atom_text : List ℕ → Token → List ℕ
atom_text bytes t = between bytes t.start t.end

-- the bytes between the bars of a quoted atom
abbrev pub quoted_text : List ℕ → Token → List ℕ
quoted_text bytes t = between bytes (t.start + 1) (t.end - 1)

abbrev pub closing_by : TokenKind → ℕ → ℕ → ℕ → (ℕ → ℕ → ℕ × ℕ) → ℕ × ℕ
closing_by kinds.Open outer n «end» go_on = go_on (suc outer) (n + 1)
closing_by kinds.Close zero n «end» go_on = («end», n)
closing_by kinds.Close (suc outer) n «end» go_on = go_on outer n
closing_by kinds.Atom outer n «end» go_on = go_on outer (n + 1)
closing_by kinds.Quoted outer n «end» go_on = go_on outer (n + 1)

-- The end of the list that the tokens are within, so many lists further out, and the number of the first
-- record behind it, where the next record has the number n.
unfoldable pub closing : List Token → ℕ → ℕ → ℕ × ℕ
closing [] outer n = (0, n)
closing (t ∷ ts) outer n = closing_by t.kind outer n t.end (closing ts)

-- the record of a token that is a tree by itself
abbrev pub leaf : Body → Token → ℕ → Kept
leaf body t n = record { start = t.start; end = t.end; body = body; after = n + 1 }

-- a list that begins at a place, with its end and the number of the record behind it
abbrev pub list_of : ℕ → ℕ × ℕ → Kept
list_of start close = record { start = start; end = close.0; body = ListBody; after = close.1 }

abbrev pub records_by : TokenKind → List ℕ → Token → List Token → ℕ → (ℕ → List Kept) → List Kept
records_by kinds.Open bytes t ts n go_on = list_of t.start (closing ts 0 (n + 1)) ∷ go_on (n + 1)
records_by kinds.Close bytes t ts n go_on = go_on n
records_by kinds.Atom bytes t ts n go_on = leaf (AtomBody (atom_text bytes t)) t n ∷ go_on (n + 1)
records_by kinds.Quoted bytes t ts n go_on = leaf (QuotedBody (quoted_text bytes t)) t n ∷ go_on (n + 1)

-- The records of the tokens of these bytes, the first of which has the number n.
unfoldable pub records : List ℕ → List Token → ℕ → List Kept
records bytes [] n = []
records bytes (t ∷ ts) n = records_by t.kind bytes t ts n (records bytes ts)

-- the record of that number with another end and another number behind it
abbrev pub closed_at : ℕ → ℕ × ℕ → List Kept → List Kept
closed_at i close [] = []
closed_at zero close (r ∷ rs) = record r { end = close.0; after = close.1 } ∷ rs
closed_at (suc i) close (r ∷ rs) = r ∷ closed_at i close rs

-- the records with the lists that are still open, the innermost first, closed by the tokens to come
unfoldable pub patched : List ℕ → ℕ → ℕ → List Token → List Kept → List Kept
patched [] outer n ts rs = rs
patched (i ∷ inner) outer n ts rs = patched inner (suc outer) n ts (closed_at i (closing ts outer n) rs)

-- what the records become once these tokens are added
abbrev pub grown : List ℕ → List Kept → List ℕ → List Token → List Kept
grown bytes rs lists ts = patched lists 0 (length rs) ts rs ++ records bytes ts (length rs)

-- all of these numbers are below n
abbrev pub AllBelow : List ℕ → ℕ → Type 0
AllBelow [] n = Unit {0}
AllBelow (i ∷ inner) n = (i < n) × AllBelow inner n

-- how many lists are open behind a token
abbrev pub opens_after : TokenKind → ℕ → ℕ
opens_after kinds.Open k = suc k
opens_after kinds.Close k = k - 1
opens_after kinds.Atom k = k
opens_after kinds.Quoted k = k

-- what a record is, its text being found by its number
abbrev pub body_in : List (List ℕ) → Content → Body
body_in texts contents.List = ListBody
body_in texts (contents.Atom n) = AtomBody (slice_index_or texts n [])
body_in texts (contents.Quoted n) = QuotedBody (slice_index_or texts n [])

-- a record with its text
abbrev pub kept_in : List (List ℕ) → Record → Kept
kept_in texts r = record { start = r.start; end = r.end; body = body_in texts r.content; after = r.after }

-- the text of a record is there
abbrev pub HasText : List (List ℕ) → Content → Type 0
HasText texts contents.List = Unit {0}
HasText texts (contents.Atom n) = n < length texts
HasText texts (contents.Quoted n) = n < length texts

-- the text of each record is there
abbrev pub HaveTexts : List (List ℕ) → List Record → Type 0
HaveTexts texts [] = Unit {0}
HaveTexts texts (r ∷ rs) = HasText texts r.content × HaveTexts texts rs
