-- The words of a shape's text.
use Rattle.std.proofs.Common.{◌≡◌, ℕ, ◌+◌, List, [], ◌∷◌, ◌++◌, true, false, length, refl, ap, sym, ◌∙◌, arith, append_assoc, length-append}
use Rattle.sexp.specs.Bytes.{class_of, letters_after}
use Rattle.sexp.specs.Text.{Words, word, word_of, atom_of, begin_at, in_atom, words_from}
use Rattle.sexp.specs.declared.bytes.Class.{Class}
use Rattle.sexp.specs.declared.bytes.Class.TheVariants as classes
use Rattle.sexp.specs.declared.lexis.Word.{Word}
use Rattle.sexp.specs.declared.lexis.Mode.{Mode}
use Rattle.sexp.specs.declared.lexis.Mode.TheVariants.{Between, Atom}
use Rattle.sexp.specs.declared.token.TokenKind.TheVariants as kinds
use Rattle.goal_print.specs.Shapes.{Shape, Shapes, AtomShape, ListShape, no_shapes, more_shapes, shape_text, shapes_text, behind_text, AreLetters, IsAtomText, IsWritten, AreWritten}

-- how many letters bytes have in common with `let`, behind so many
abbrev letters_of : List ℕ → ℕ → ℕ
letters_of [] letters = letters
letters_of (b ∷ bytes) letters = letters_of bytes (letters_after letters b)

-- the atom of a text from a place on
abbrev pub atom_at : List ℕ → ℕ → Word
atom_at text at = atom_of at (letters_of text 0) (at + length text)

-- a parenthesis at a place
abbrev pub open_at : ℕ → Word
open_at at = word_of kinds.Open at (at + 1) false

abbrev pub close_at : ℕ → Word
close_at at = word_of kinds.Close at (at + 1) false

unfoldable mutual
  -- the words of a shape's text from a place on, before others
  pub shape_words : Shape → ℕ → Words → Words
  shape_words (AtomShape text) at behind = word (atom_at text at) behind
  shape_words (ListShape parts) at behind = word (open_at at) (shapes_words parts (at + 1) (word (close_at (at + 1 + length (shapes_text parts))) behind))

  pub shapes_words : Shapes → ℕ → Words → Words
  shapes_words no_shapes at behind = behind
  shapes_words (more_shapes first rest) at behind = shape_words first at (behind_words rest (at + length (shape_text first)) behind)

  pub behind_words : Shapes → ℕ → Words → Words
  behind_words no_shapes at behind = behind
  behind_words (more_shapes first rest) at behind = shape_words first (at + 1) (behind_words rest (at + 1 + length (shape_text first)) behind)

-- bytes behind which an atom has ended
abbrev pub IsBreak : List ℕ → Type 0
IsBreak [] = Unit {0}
IsBreak (b ∷ bytes) = class_of b ≡ classes.Letter → ⊥

ends_atom : (class : Class) (start letters b at : ℕ) (read_on : Mode → Words) → (class ≡ classes.Letter → ⊥)
    → in_atom class start letters b at read_on ≡ word (atom_of start letters at) (begin_at class b at read_on)
ends_atom classes.White start letters b at read_on other = refl
ends_atom classes.Semicolon start letters b at read_on other = refl
ends_atom classes.Open start letters b at read_on other = refl
ends_atom classes.Close start letters b at read_on other = refl
ends_atom classes.Bar start letters b at read_on other = refl
ends_atom classes.Letter start letters b at read_on other = absurd (other refl)
ends_atom classes.Bad start letters b at read_on other = refl

atom_ends : (rest : List ℕ) (start letters at : ℕ) → IsBreak rest → words_from true rest (Atom start letters) at ≡ word (atom_of start letters at) (words_from true rest Between at)
unfolding words_from
atom_ends [] start letters at broken = refl
atom_ends (b ∷ rest) start letters at broken = ends_atom (class_of b) start letters b at _ broken

-- the letters of an atom, and what is behind it
atom_goes_on : (bytes rest : List ℕ) (start letters at next : ℕ) → AreLetters bytes → IsBreak rest → next ≡ at + length bytes
    → words_from true (bytes ++ rest) (Atom start letters) at ≡ word (atom_of start (letters_of bytes letters) next) (words_from true rest Between next)
unfolding words_from
atom_goes_on [] rest start letters at next are broken e = let same : next ≡ at = omega arith in rw same (atom_ends rest start letters at broken)
atom_goes_on (b ∷ bytes) rest start letters at next are broken e = rw (are.0) (atom_goes_on bytes rest start (letters_after letters b) (at + 1) next are.1 broken (omega arith))

atom_words : (text rest : List ℕ) (at : ℕ) → IsAtomText text → IsBreak rest
    → words_from true (text ++ rest) Between at ≡ word (atom_at text at) (words_from true rest Between (at + length text))
unfolding words_from
atom_words [] rest at is broken = absurd is
atom_words (b ∷ bytes) rest at is broken = rw (is.0) (atom_goes_on bytes rest at (letters_after 0 b) (at + 1) (at + length (b ∷ bytes)) is.1 broken (omega arith))

-- ---- the words of a byte that is no letter

read_blank : (rest : List ℕ) (at : ℕ) → words_from true (32 ∷ rest) Between at ≡ words_from true rest Between (at + 1)
unfolding words_from class_of
read_blank rest at = refl

read_open : (rest : List ℕ) (at : ℕ) → words_from true (40 ∷ rest) Between at ≡ word (open_at at) (words_from true rest Between (at + 1))
unfolding words_from class_of
read_open rest at = refl

read_close : (rest : List ℕ) (at : ℕ) → words_from true (41 ∷ rest) Between at ≡ word (close_at at) (words_from true rest Between (at + 1))
unfolding words_from class_of
read_close rest at = refl

blank_breaks : class_of 32 ≡ classes.Letter → ⊥
unfolding class_of
blank_breaks e = let h : classes.White ≡ classes.Letter = e in cc

close_breaks : class_of 41 ≡ classes.Letter → ⊥
unfolding class_of
close_breaks e = let h : classes.Close ≡ classes.Letter = e in cc

behind_breaks : (shapes : Shapes) (rest : List ℕ) → IsBreak rest → IsBreak (behind_text shapes ++ rest)
unfolding behind_text
behind_breaks no_shapes rest broken = broken
behind_breaks (more_shapes first others) rest broken = blank_breaks

-- ---- the words of shapes

mutual
  unfolding shape_text shapes_text behind_text IsWritten AreWritten shape_words shapes_words behind_words

  -- the words of a shape's text, before those of what follows
  pub shape_read : (s : Shape) (rest : List ℕ) (at next : ℕ) → IsWritten s → IsBreak rest → next ≡ at + length (shape_text s)
      → words_from true (shape_text s ++ rest) Between at ≡ shape_words s at (words_from true rest Between next)
  shape_read (AtomShape text) rest at next is broken e = rw e (atom_words text rest at is broken)
  shape_read (ListShape parts) rest at next is broken e =
      let size = length-append (shapes_text parts) (41 ∷ []) in
      let same : next ≡ at + 1 + length (shapes_text parts) + 1 = omega (arith, size) in
      let inner = shapes_read parts (41 ∷ rest) (at + 1) (at + 1 + length (shapes_text parts)) is close_breaks refl in
      ap (λ t. words_from true (40 ∷ t) Between at) (append_assoc (shapes_text parts) (41 ∷ []) rest)
      ∙ (read_open (shapes_text parts ++ (41 ∷ rest)) at
      ∙ ap (word (open_at at)) (inner ∙ ap (shapes_words parts (at + 1)) (read_close rest (at + 1 + length (shapes_text parts)) ∙ ap (λ n. word (close_at (at + 1 + length (shapes_text parts))) (words_from true rest Between n)) (sym same))))

  pub shapes_read : (shapes : Shapes) (rest : List ℕ) (at next : ℕ) → AreWritten shapes → IsBreak rest → next ≡ at + length (shapes_text shapes)
      → words_from true (shapes_text shapes ++ rest) Between at ≡ shapes_words shapes at (words_from true rest Between next)
  shapes_read no_shapes rest at next are broken e = let same : next ≡ at = omega arith in rw same refl
  shapes_read (more_shapes first others) rest at next are broken e =
      let size = length-append (shape_text first) (behind_text others) in
      ap (λ t. words_from true t Between at) (append_assoc (shape_text first) (behind_text others) rest)
      ∙ (shape_read first (behind_text others ++ rest) at (at + length (shape_text first)) are.0 (behind_breaks others rest broken) refl
      ∙ ap (shape_words first at) (behind_read others rest (at + length (shape_text first)) next are.1 broken (omega (arith, size))))

  pub behind_read : (shapes : Shapes) (rest : List ℕ) (at next : ℕ) → AreWritten shapes → IsBreak rest → next ≡ at + length (behind_text shapes)
      → words_from true (behind_text shapes ++ rest) Between at ≡ behind_words shapes at (words_from true rest Between next)
  behind_read no_shapes rest at next are broken e = let same : next ≡ at = omega arith in rw same refl
  behind_read (more_shapes first others) rest at next are broken e =
      let size = length-append (shape_text first) (behind_text others) in
      read_blank ((shape_text first ++ behind_text others) ++ rest) at
      ∙ (ap (λ t. words_from true t Between (at + 1)) (append_assoc (shape_text first) (behind_text others) rest)
      ∙ (shape_read first (behind_text others ++ rest) (at + 1) (at + 1 + length (shape_text first)) are.0 (behind_breaks others rest broken) refl
      ∙ ap (shape_words first (at + 1)) (behind_read others rest (at + 1 + length (shape_text first)) next are.1 broken (omega (arith, size)))))
