-- Reading the words of a text, a byte at a time.
use Rattle.std.proofs.Common.{◌≡◌, ℕ, ◌+◌, ◌<◌, List, [], ◌∷◌, ◌++◌, Bool, true, length, drop, get_or, refl, ap, sym, ◌∙◌, arith, drop-cons, add-one}
use Rattle.sexp.specs.Text.{Words, word, stop, ends, words_from, words_from-cons, words_from-end, at_byte, at_end, AlwaysReads, CanFollow}
use Rattle.sexp.specs.declared.lexis.Word.{Word}
use Rattle.sexp.specs.declared.lexis.Mode.TheVariants.{Between, Atom}
use Rattle.sexp.specs.declared.bytes.Class.TheVariants.{Letter}
use Rattle.sexp.specs.Bytes.{class_of, letters_after}
use Rattle.sexp.specs.declared.lexis.Mode.{Mode}

front : (bytes : List ℕ) (i : ℕ) → i < length bytes → drop i bytes ≡ get_or bytes i 0 ∷ drop (i + 1) bytes
front bytes i below = rw (add-one i, drop-cons bytes i 0) refl

pub words_from-step : (whole : Bool) (bytes tail : List ℕ) (mode : Mode) (at i : ℕ) → i < length bytes
    → words_from whole (drop i bytes ++ tail) mode (at + i)
    ≡ at_byte mode (at + i) (get_or bytes i 0) (λ after. words_from whole (drop (i + 1) bytes ++ tail) after (at + (i + 1)))
words_from-step whole bytes tail mode at i below =
    let regroup : (at + i) + 1 ≡ at + (i + 1) = omega arith in
    ap (λ d. words_from whole (d ++ tail) mode (at + i)) (front bytes i below)
    ∙ (words_from-cons whole (get_or bytes i 0) (drop (i + 1) bytes ++ tail) mode (at + i)
    ∙ ap (λ n. at_byte mode (at + i) (get_or bytes i 0) (λ after. words_from whole (drop (i + 1) bytes ++ tail) after n)) regroup)

drop-all : (bytes : List ℕ) → drop (length bytes) bytes ≡ []
drop-all [] = refl
drop-all (b ∷ bytes) = drop-all bytes

-- nothing is left behind all of the bytes
pub all_read : (bytes : List ℕ) (read : ℕ) → read ≡ length bytes → drop read bytes ≡ []
all_read bytes read e = rw e (drop-all bytes)

pub reads_end : (whole : Bool) (bytes : List ℕ) (read : ℕ) (mode : Mode) (at : ℕ) (words : Words)
    → read ≡ length bytes → whole ≡ true → at_end true mode at ≡ words → AlwaysReads whole (drop read bytes) mode at words
reads_end whole bytes read mode at words all is_whole ended = λ whole_then tail follow.
    rw ((follow is_whole).0, (follow is_whole).1, all_read bytes read all) (words_from-end true mode at ∙ ended)

-- the atom that the end of the text ends
pub word_at_end : (whole : Bool) (bytes : List ℕ) (read : ℕ) (mode : Mode) (at : ℕ) (w : Word)
    → read ≡ length bytes → whole ≡ true → at_end true mode at ≡ word w (stop ends)
    → (whole_then : Bool) (tail : List ℕ) → CanFollow whole whole_then tail
    → words_from whole_then (drop read bytes ++ tail) mode at ≡ word w (words_from whole_then (drop read bytes ++ tail) Between at)
word_at_end whole bytes read mode at w all is_whole ended = λ whole_then tail follow.
    reads_end whole bytes read mode at (word w (stop ends)) all is_whole ended whole_then tail follow
    ∙ ap (word w) (sym (reads_end whole bytes read Between at (stop ends) all is_whole refl whole_then tail follow))

-- a letter leaves an atom as it is that can't be `let`
pub letter_stays : (start letters b at : ℕ) (read_on : Mode → Words) → letters ≡ 4 → class_of b ≡ Letter
    → at_byte (Atom start letters) at b read_on ≡ read_on (Atom start letters)
unfolding letters_after
letter_stays start letters b at read_on four letter = rw (letter, four) refl
