-- The tokens of each text stand one behind another, with all lists closed at the end.
use Rattle.std.proofs.Common.{◌≡◌, ℕ, zero, suc, ◌+◌, ◌-◌, ◌<◌, ◌≤◌, ◌==◌, List, [], ◌∷◌, length, Bool, true, false, nat_lt, refl, arith, if◌then◌else◌}
use Rattle.sexp.specs.Bytes.{class_of, stands_in_bars}
use Rattle.sexp.specs.Depth.{depth_of}
use Rattle.sexp.specs.Text.{Ending, more, ends, faulty, Words, word, stop, token_of, begin_at, in_atom, at_byte, at_end, words_from}
use Rattle.sexp.specs.Nesting.{Answers, last, token, answers_of, at_word, at_limit, at_close, ending_in, opened}
use Rattle.sexp.specs.Tokens.{answers_to, prepend}
use Rattle.sexp.specs.Spans.{IsSpan, AreWithin, BeganWithin, IsClosed, orderly_by, IsOrderly, AreSpans}
use Rattle.sexp.specs.Records.{opens_after}
use Rattle.sexp.specs.declared.bytes.Class.{Class}
use Rattle.sexp.specs.declared.bytes.Class.TheVariants as classes
use Rattle.sexp.specs.declared.lexis.Mode.{Mode}
use Rattle.sexp.specs.declared.lexis.Mode.TheVariants as modes
use Rattle.sexp.specs.declared.token.Token.{Token}
use Rattle.sexp.specs.declared.token.TokenKind.{TokenKind}
use Rattle.sexp.specs.declared.token.TokenKind.TheVariants as kinds
use Rattle.sexp.specs.declared.token.SexpFault.{SexpFault}
use Rattle.sexp.specs.declared.token.SexpFault.TheVariants.{TooDeep}
use Rattle.sexp.specs.declared.nest.Frame.{Frame}

-- reading on gives words that stand between these places
abbrev ReadsWithin : (Mode → Words) → ℕ → ℕ → Type 0
ReadsWithin read_on at to = (mode : Mode) (from : ℕ) → BeganWithin mode from at → AreWithin (read_on mode) from to

begin-within : (class : Class) (b from at to : ℕ) (read_on : Mode → Words) → from ≤ at → at + 1 ≤ to → ReadsWithin read_on (at + 1) to
    → AreWithin (begin_at class b at read_on) from to
begin-within classes.White b from at to read_on low high on = on modes.Between from (omega arith)
begin-within classes.Semicolon b from at to read_on low high on = on modes.Comment from (omega arith)
begin-within classes.Open b from at to read_on low high on = (record { begins = low; wide = omega arith; within = high }, on modes.Between (at + 1) (omega arith))
begin-within classes.Close b from at to read_on low high on = (record { begins = low; wide = omega arith; within = high }, on modes.Between (at + 1) (omega arith))
begin-within classes.Bar b from at to read_on low high on = on (modes.Quoted at) from (low, omega arith)
begin-within classes.Letter b from at to read_on low high on = on (modes.Atom at _) from (low, omega arith)
begin-within classes.Bad b from at to read_on low high on = tt

atom-within : (class : Class) (start letters b from at to : ℕ) (read_on : Mode → Words) → from ≤ start → start < at → at + 1 ≤ to → ReadsWithin read_on (at + 1) to
    → AreWithin (in_atom class start letters b at read_on) from to
atom-within classes.Letter start letters b from at to read_on low begun high on = on (modes.Atom start _) from (low, omega arith)
atom-within classes.White start letters b from at to read_on low begun high on =
    (record { begins = low; wide = omega arith; within = omega arith }, begin-within classes.White b at at to read_on (omega arith) high on)
atom-within classes.Semicolon start letters b from at to read_on low begun high on =
    (record { begins = low; wide = omega arith; within = omega arith }, begin-within classes.Semicolon b at at to read_on (omega arith) high on)
atom-within classes.Open start letters b from at to read_on low begun high on =
    (record { begins = low; wide = omega arith; within = omega arith }, begin-within classes.Open b at at to read_on (omega arith) high on)
atom-within classes.Close start letters b from at to read_on low begun high on =
    (record { begins = low; wide = omega arith; within = omega arith }, begin-within classes.Close b at at to read_on (omega arith) high on)
atom-within classes.Bar start letters b from at to read_on low begun high on =
    (record { begins = low; wide = omega arith; within = omega arith }, begin-within classes.Bar b at at to read_on (omega arith) high on)
atom-within classes.Bad start letters b from at to read_on low begun high on =
    (record { begins = low; wide = omega arith; within = omega arith }, begin-within classes.Bad b at at to read_on (omega arith) high on)

comment-within : (is_end : Bool) (from at to : ℕ) (read_on : Mode → Words) → from ≤ at → ReadsWithin read_on (at + 1) to
    → AreWithin (if is_end then read_on modes.Between else read_on modes.Comment) from to
comment-within true from at to read_on low on = on modes.Between from (omega arith)
comment-within false from at to read_on low on = on modes.Comment from (omega arith)

bars-within : (is_bar stands : Bool) (start from at to : ℕ) (fault : SexpFault) (read_on : Mode → Words) → from ≤ start → start < at → at + 1 ≤ to
    → ReadsWithin read_on (at + 1) to
    → AreWithin (if is_bar then word (record { start = start; end = at + 1; kind = kinds.Quoted; is_let = false }) (read_on modes.Between) else
    if stands then read_on (modes.Quoted start) else stop (faulty fault)) from to
bars-within true stands start from at to fault read_on low begun high on =
    (record { begins = low; wide = omega arith; within = high }, on modes.Between (at + 1) (omega arith))
bars-within false true start from at to fault read_on low begun high on = on (modes.Quoted start) from (low, omega arith)
bars-within false false start from at to fault read_on low begun high on = tt

byte-within : (mode : Mode) (b from at to : ℕ) (read_on : Mode → Words) → BeganWithin mode from at → at + 1 ≤ to → ReadsWithin read_on (at + 1) to
    → AreWithin (at_byte mode at b read_on) from to
byte-within modes.Between b from at to read_on began high on = begin-within (class_of b) b from at to read_on began high on
byte-within modes.Comment b from at to read_on began high on = comment-within (b == 10) from at to read_on began on
byte-within (modes.Atom start letters) b from at to read_on began high on = atom-within (class_of b) start letters b from at to read_on began.0 began.1 high on
byte-within (modes.Quoted start) b from at to read_on began high on = bars-within (b == 124) (stands_in_bars b) start from at to _ read_on began.0 began.1 high on

end-within : (whole : Bool) (mode : Mode) (from at to : ℕ) → BeganWithin mode from at → at ≤ to → AreWithin (at_end whole mode at) from to
end-within false mode from at to began high = tt
end-within true modes.Between from at to began high = tt
end-within true modes.Comment from at to began high = tt
end-within true (modes.Atom start letters) from at to began high = (record { begins = began.0; wide = (let s = began.1 in omega arith); within = high }, tt)
end-within true (modes.Quoted start) from at to began high = tt

pub words-within : (whole : Bool) (bytes : List ℕ) (mode : Mode) (from at to : ℕ) → BeganWithin mode from at → at + length bytes ≤ to
    → AreWithin (words_from whole bytes mode at) from to
unfolding words_from
words-within whole [] mode from at to began high = end-within whole mode from at to began (omega arith)
words-within whole (b ∷ bytes) mode from at to began high =
    byte-within mode b from at to (λ after. words_from whole bytes after (at + 1)) began (omega arith)
    (λ after begin is. words-within whole bytes after begin (at + 1) to is (omega arith))

let_orderly : (is_let : Bool) (t : Token) (go_on : Answers) (lists from to : ℕ) → IsSpan t from to → t.kind ≡ kinds.Open
    → IsOrderly go_on (suc lists) t.end to → IsOrderly (if is_let then token t go_on else last (faulty (TooDeep t.start))) lists from to
let_orderly true t go_on lists from to span is_open on = (span, rw is_open on)
let_orderly false t go_on lists from to span is_open on = tt

limit-orderly : (t : Token) (content : Words) (go_on : Answers) (lists from to : ℕ) → IsSpan t from to → t.kind ≡ kinds.Open
    → IsOrderly go_on (suc lists) t.end to → IsOrderly (at_limit t content go_on) lists from to
limit-orderly t (stop more) go_on lists from to span is_open on = tt
limit-orderly t (stop ends) go_on lists from to span is_open on = tt
limit-orderly t (stop (faulty f)) go_on lists from to span is_open on = tt
limit-orderly t (word w rest) go_on lists from to span is_open on = let_orderly w.is_let t go_on lists from to span is_open on

open-orderly : (below : Bool) (t : Token) (content : Words) (go_on : Answers) (lists from to : ℕ) → IsSpan t from to → t.kind ≡ kinds.Open
    → IsOrderly go_on (suc lists) t.end to → IsOrderly (if below then token t go_on else at_limit t content go_on) lists from to
open-orderly true t content go_on lists from to span is_open on = (span, rw is_open on)
open-orderly false t content go_on lists from to span is_open on = limit-orderly t content go_on lists from to span is_open on

close-orderly : (t : Token) (lists : List Frame) (go_on : List Frame → Answers) (from to : ℕ) → IsSpan t from to → t.kind ≡ kinds.Close
    → ((inner : List Frame) → IsOrderly (go_on inner) (length inner) t.end to) → IsOrderly (at_close t lists go_on) (length lists) from to
close-orderly t [] go_on from to span close on = tt
close-orderly t (list ∷ lists) go_on from to span close on = (span, rw close (on lists))

word-orderly : (kind : TokenKind) (t : Token) (rest : Words) (lists : List Frame) (go_on : List Frame → Answers) (from to : ℕ) → t.kind ≡ kind
    → IsSpan t from to → ((inner : List Frame) → IsOrderly (go_on inner) (length inner) t.end to)
    → IsOrderly (at_word kind t rest lists go_on) (length lists) from to
word-orderly kinds.Open t rest lists go_on from to is span on =
    open-orderly (nat_lt (depth_of lists) 2000) t rest (go_on (opened t.start rest ∷ lists)) (length lists) from to span is (on (opened t.start rest ∷ lists))
word-orderly kinds.Close t rest lists go_on from to is span on = close-orderly t lists go_on from to span is on
word-orderly kinds.Atom t rest lists go_on from to is span on = (span, rw is (on lists))
word-orderly kinds.Quoted t rest lists go_on from to is span on = (span, rw is (on lists))

ending-closed : (ending : Ending) (lists : List Frame) → IsClosed (ending_in ending lists) (length lists)
ending-closed more lists = tt
ending-closed ends [] = refl
ending-closed ends (list ∷ lists) = tt
ending-closed (faulty fault) lists = tt

pub answers-orderly : (words : Words) (lists : List Frame) (from to : ℕ) → AreWithin words from to → IsOrderly (answers_of words lists) (length lists) from to
unfolding answers_of
answers-orderly (stop ending) lists from to within = ending-closed ending lists
answers-orderly (word w rest) lists from to within =
    word-orderly w.kind (token_of w) rest lists (answers_of rest) from to refl within.0 (λ inner. answers-orderly rest inner w.end to within.1)

pub text-orderly : (text : List ℕ) → IsOrderly (answers_to text) 0 0 (length text)
text-orderly text = answers-orderly (words_from true text modes.Between 0) [] 0 (length text) (words-within true text modes.Between 0 0 (length text) (omega arith) (omega arith))

-- what stands behind a place stands behind each earlier one
pub orderly-from : (a : Answers) (lists from earlier to : ℕ) → earlier ≤ from → IsOrderly a lists from to → IsOrderly a lists earlier to
orderly-from (last ending) lists from earlier to le orderly = orderly
orderly-from (token t rest) lists from earlier to le orderly =
    let span = orderly.0 in
    let low = span.begins in
    (record { begins = omega arith; wide = span.wide; within = span.within }, orderly.1)

pub orderly_after : (kind : TokenKind) (lists : ℕ) (P : ℕ → Type 0) → orderly_by kind lists P → P (opens_after kind lists)
orderly_after kinds.Open lists P h = h
orderly_after kinds.Close zero P h = absurd h
orderly_after kinds.Close (suc lists) P h = let e : suc lists - 1 ≡ lists = omega arith in rw e h
orderly_after kinds.Atom lists P h = h
orderly_after kinds.Quoted lists P h = h

pub closes_one : (kind : TokenKind) (lists : ℕ) (P : ℕ → Type 0) → orderly_by kind lists P → kind ≡ kinds.Close → 0 < lists
closes_one kinds.Open lists P h is = cc
closes_one kinds.Close zero P h is = absurd h
closes_one kinds.Close (suc lists) P h is = omega arith
closes_one kinds.Atom lists P h is = cc
closes_one kinds.Quoted lists P h is = cc

spans_of : (tokens : List Token) (a : Answers) (lists from to : ℕ) → IsOrderly (prepend tokens a) lists from to → AreSpans tokens from to
spans_of [] a lists from to orderly = tt
spans_of (t ∷ tokens) a lists from to orderly = (
  orderly.0,
  spans_of tokens a (opens_after t.kind lists) t.end to
      (orderly_after t.kind lists (λ inner. IsOrderly (prepend tokens a) inner t.end to) orderly.1),
)

-- the tokens of a text stand one behind another
pub text-spans : (text : List ℕ) (tokens : List Token) (a : Answers) → answers_to text ≡ prepend tokens a → AreSpans tokens 0 (length text)
text-spans text tokens a e = spans_of tokens a 0 0 (length text) (rw e at (text-orderly text))
