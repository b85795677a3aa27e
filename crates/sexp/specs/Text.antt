-- The words of a text, and what ends them.
use Rattle.std.specs.Prelude.{◌≡◌, refl, ℕ, ◌+◌, ◌==◌, List, [], ◌∷◌, ◌++◌, Bool, true, false, if◌then◌else◌}
use Rattle.sexp.specs.Bytes.{class_of, stands_in_bars, letters_after}
use Rattle.sexp.specs.declared.bytes.Class.{Class}
use Rattle.sexp.specs.declared.bytes.Class.TheVariants as classes
use Rattle.sexp.specs.declared.token.Token.{Token}
use Rattle.sexp.specs.declared.token.TokenKind.{TokenKind}
use Rattle.sexp.specs.declared.token.TokenKind.TheVariants as kinds
use Rattle.sexp.specs.declared.token.SexpFault.{SexpFault}
use Rattle.sexp.specs.declared.token.SexpFault.TheVariants.{BadByte, Unclosed}
use Rattle.sexp.specs.declared.lexis.Word.{Word}
use Rattle.sexp.specs.declared.lexis.Mode.{Mode}
use Rattle.sexp.specs.declared.lexis.Mode.TheVariants.{Between, Comment, Atom, Quoted}
use Rattle.sexp.specs.declared.lexis.Step.{Step}
use Rattle.sexp.specs.declared.lexis.Step.TheVariants as steps
use Rattle.sexp.specs.declared.scan.Found.{Found}
use Rattle.sexp.specs.declared.scan.Found.TheVariants as finds
use Rattle.sexp.specs.declared.look.Peek.{Peek}
use Rattle.sexp.specs.declared.look.Peek.TheVariants as peeks

-- How a text goes on after its last word: more bytes may come, it ends, or it breaks a rule.
pub data Ending : Type 0 where
  more : Ending
  ends : Ending
  faulty : SexpFault → Ending

-- The words of a text in order, and what comes after the last.
pub data Words : Type 0 where
  stop : Ending → Words
  word : Word → Words → Words

abbrev pub word_of : TokenKind → ℕ → ℕ → Bool → Word
word_of kind from to is_let = record { start = from; end = to; kind = kind; is_let = is_let }

-- the token that a word is
abbrev pub token_of : Word → Token
token_of w = record { start = w.start; end = w.end; kind = w.kind }

abbrev pub atom_of : ℕ → ℕ → ℕ → Word
atom_of start letters at = word_of kinds.Atom start at (letters == 3)

-- What a byte outside tokens and comments is; reading on gives the words after it.
abbrev pub begin_at : Class → ℕ → ℕ → (Mode → Words) → Words
begin_at classes.White b at read_on = read_on Between
begin_at classes.Semicolon b at read_on = read_on Comment
begin_at classes.Open b at read_on = word (word_of kinds.Open at (at + 1) false) (read_on Between)
begin_at classes.Close b at read_on = word (word_of kinds.Close at (at + 1) false) (read_on Between)
begin_at classes.Bar b at read_on = read_on (Quoted at)
begin_at classes.Letter b at read_on = read_on (Atom at (letters_after 0 b))
begin_at classes.Bad b at read_on = stop (faulty (BadByte at))

-- A byte of an atom goes on with it; any other ends it, and is read as one outside.
abbrev pub in_atom : Class → ℕ → ℕ → ℕ → ℕ → (Mode → Words) → Words
in_atom classes.Letter start letters b at read_on = read_on (Atom start (letters_after letters b))
in_atom other start letters b at read_on = word (atom_of start letters at) (begin_at other b at read_on)

abbrev pub at_byte : Mode → ℕ → ℕ → (Mode → Words) → Words
at_byte Between at b read_on = begin_at (class_of b) b at read_on
at_byte Comment at b read_on = if b == 10 then read_on Between else read_on Comment
at_byte (Atom start letters) at b read_on = in_atom (class_of b) start letters b at read_on
at_byte (Quoted start) at b read_on =
    if b == 124 then word (word_of kinds.Quoted start (at + 1) false) (read_on Between) else
    if stands_in_bars b then read_on (Quoted start) else stop (faulty (BadByte at))

-- At the end of a text that is whole an atom ends, and a bar that is open stays so.
abbrev pub at_end : Bool → Mode → ℕ → Words
at_end false mode at = stop more
at_end true (Atom start letters) at = word (atom_of start letters at) (stop ends)
at_end true (Quoted start) at = stop (faulty (Unclosed start))
at_end true mode at = stop ends

-- The words of the bytes from a place on. Whole says that no more bytes come.
unfoldable pub words_from : Bool → List ℕ → Mode → ℕ → Words
words_from whole [] mode at = at_end whole mode at
words_from whole (b ∷ bytes) mode at = at_byte mode at b (λ after. words_from whole bytes after (at + 1))

pub words_from-cons : (whole : Bool) (b : ℕ) (bytes : List ℕ) (mode : Mode) (at : ℕ) → ◌≡◌ (words_from whole (b ∷ bytes) mode at) (at_byte mode at b (λ after. words_from whole bytes after (at + 1)))
unfolding words_from
words_from-cons whole b bytes mode at = refl

abbrev pub gives : Step → ℕ → ℕ → (Mode → Words) → Words
gives (steps.On mode) at b read_on = read_on mode
gives (steps.Word w) at b read_on = word w (read_on Between)
gives (steps.Before w) at b read_on = word w (at_byte Between at b read_on)
gives steps.Bad at b read_on = stop (faulty (BadByte at))

-- what a scan found is before the words that are left
abbrev pub found_then : Found → Words → Words
found_then (finds.Word w) rest = word w rest
found_then finds.Bad rest = rest
found_then finds.Nothing rest = rest

-- a byte that has no place in the text comes next
abbrev pub IsBadAt : Found → ℕ → Words → Type 0
IsBadAt finds.Bad at words = words ≡ stop (faulty (BadByte at))
IsBadAt other at words = Unit {0}

-- Nothing follows a text that is whole.
abbrev pub CanFollow : Bool → Bool → List ℕ → Type 0
CanFollow whole whole_then tail = whole ≡ true → (whole_then ≡ true) × (tail ≡ [])

-- Whatever may follow these bytes, the words are those.
abbrev pub AlwaysReads : Bool → List ℕ → Mode → ℕ → Words → Type 0
AlwaysReads whole left mode at words =
    (whole_then : Bool) (tail : List ℕ) → CanFollow whole whole_then tail → words_from whole_then (left ++ tail) mode at ≡ words

abbrev pub peeked : Peek → Words → Words
peeked (peeks.Word w) rest = word w rest
peeked other rest = rest

-- What stands there, if it is no word.
abbrev pub Stops : Peek → Bool → List ℕ → Mode → ℕ → Type 0
Stops (peeks.Word w) whole left mode at = Unit {0}
Stops (peeks.Fault f) whole left mode at = AlwaysReads whole left mode at (stop (faulty f))
Stops peeks.End whole left mode at = (whole ≡ true) × AlwaysReads whole left mode at (stop ends)
Stops peeks.More whole left mode at = (whole ≡ false) × (words_from false left mode at ≡ stop more)

abbrev pub IsEnd : Peek → Words → Type 0
IsEnd (peeks.Word w) words = words ≡ word w (stop ends)
IsEnd (peeks.Fault f) words = words ≡ stop (faulty f)
IsEnd peeks.End words = words ≡ stop ends
IsEnd peeks.More words = ⊥

pub words_from-end : (whole : Bool) (mode : Mode) (at : ℕ) → words_from whole [] mode at ≡ at_end whole mode at
unfolding words_from
words_from-end whole mode at = refl
