-- Reading on within the bytes that a lexer holds.
use Rattle.std.proofs.Common.{◌≡◌, ℕ, ◌+◌, List, [], ◌++◌, Bool, false, Option, Some, None, drop, take, length, length-drop, ◌-◌, arith}
use Rattle.std.proofs.lemmas.List.{drop-drop, append-nil, take_all}
use Rattle.sexp.specs.Text.{Words, word, stop, more, words_from, CanFollow, AlwaysReads}
use Rattle.sexp.specs.Lexing.{Lexing, words_of, AreAlike, AlwaysHas}
use Rattle.sexp.specs.declared.lexis.Mode.{Mode}
use Rattle.sexp.specs.declared.lexis.Word.{Word}

abbrev lexing : List ℕ → Mode → ℕ → Option Word → Bool → Lexing
lexing left mode at found whole = record { left = left; mode = mode; at = at; found = found; whole = whole }

pub finds : (bytes : List ℕ) (place read at : ℕ) (mode after : Mode) (whole : Bool) (w : Word) (now : Lexing)
    → lexing (drop place bytes) mode at None whole ≡ now
    → ((whole_then : Bool) (tail : List ℕ) → CanFollow whole whole_then tail
    → words_from whole_then (drop place bytes ++ tail) mode at ≡ word w (words_from whole_then (drop read (drop place bytes) ++ tail) after (at + read)))
    → AreAlike now (lexing (drop (place + read) bytes) after (at + read) (Some w) whole)
unfolding words_of
finds bytes place read at mode after whole w now e words = rw (← e) (λ whole_then tail follow. rw (← drop-drop read place bytes) (words whole_then tail follow))

pub reads : (bytes : List ℕ) (place read at : ℕ) (mode after : Mode) (whole : Bool) (now : Lexing)
    → lexing (drop place bytes) mode at None whole ≡ now
    → ((whole_then : Bool) (tail : List ℕ) → CanFollow whole whole_then tail
    → words_from whole_then (drop place bytes ++ tail) mode at ≡ words_from whole_then (drop read (drop place bytes) ++ tail) after (at + read))
    → AreAlike now (lexing (drop (place + read) bytes) after (at + read) None whole)
unfolding words_of
reads bytes place read at mode after whole now e words = rw (← e) (λ whole_then tail follow. rw (← drop-drop read place bytes) (words whole_then tail follow))

pub stays : (bytes : List ℕ) (place read at : ℕ) (mode : Mode) (whole : Bool) (words : Words)
    → AlwaysReads whole (drop read (drop place bytes)) mode at words
    → AlwaysHas (lexing (drop (place + read) bytes) mode at None whole) words
unfolding words_of
stays bytes place read at mode whole words reads = λ whole_then tail follow. rw (← drop-drop read place bytes) (reads whole_then tail follow)

pub awaits : (bytes : List ℕ) (place read at : ℕ) (mode : Mode) (whole : Bool)
    → words_from false (drop read (drop place bytes)) mode at ≡ stop more
    → words_of (lexing (drop (place + read) bytes) mode at None whole) false [] ≡ stop more
unfolding words_of
awaits bytes place read at mode whole e = rw (append-nil, ← drop-drop read place bytes) e

-- what `&bytes[n..]` is
pub slice_end : (n : ℕ) (bytes : List ℕ) → take (length bytes - n) (drop n bytes) ≡ drop n bytes
slice_end n bytes = take_all (length bytes - n) (drop n bytes) (omega (arith, length-drop n bytes))
