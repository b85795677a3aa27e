-- What is written consists of letters of atoms.
use Rattle.std.proofs.Common.{inl, inr, ◌≡◌, ℕ, zero, suc, ◌+◌, ◌<◌, ◌≤◌, ◌/◌, ◌%◌, ◌==◌, List, [], ◌∷◌, length, Bool, true, false, ◌&&◌, ◌||◌, not, nat_lt, nat_eq, bytes_eq, codes, refl, arith, if◌then◌else◌}
use Rattle.std.proofs.lemmas.Bool.{eqb-true, ltb-true, ne_eqb, le-leb, lt-ltb, and_parts, or_cases}
use Rattle.std.specs.List.{list_all}
use Rattle.std.specs.Fmt.{decimal, digits, digit_glyph}
use Rattle.sexp.specs.Bytes.{class_of}
use Rattle.sexp.specs.declared.bytes.Class.TheVariants.{Letter}
use Rattle.goal_text.specs.Lexicon.{is_letter, is_digit, is_inner, has_name_form, is_reserved, is_name, is_type_variable}
use Rattle.goal_print.specs.TermText.{variable_text, word_for}
use Rattle.goal_print.specs.Shapes.{AreLetters, IsAtomText}

-- ---- bytes

-- from the star up to the letter z, without the semicolon
letter_byte : (b : ℕ) → 42 ≤ b → b < 124 → (b ≡ 59 → ⊥) → class_of b ≡ Letter
unfolding class_of
letter_byte b low high other =
    rw (
      ne_eqb b 59 other,
      ne_eqb b 40 (λ e. omega arith),
      ne_eqb b 41 (λ e. omega arith),
      ne_eqb b 124 (λ e. omega arith),
      ne_eqb b 32 (λ e. omega arith),
      ne_eqb b 9 (λ e. omega arith),
      ne_eqb b 13 (λ e. omega arith),
      ne_eqb b 10 (λ e. omega arith),
      le-leb 33 b (omega arith),
      le-leb b 126 (omega arith),
      ne_eqb b 34 (λ e. omega arith),
    ) refl

-- strictly between two numbers
inside : (low high b : ℕ) → (nat_lt low b && nat_lt b high) ≡ true → (low < b) × (b < high)
inside low high b h = let both = and_parts (nat_lt low b) (nat_lt b high) h in (ltb-true low b both.0, ltb-true b high both.1)

letter_is : (b : ℕ) → is_letter b ≡ true → class_of b ≡ Letter
letter_is b h = elim (or_cases (nat_lt 64 b && nat_lt b 91) (nat_lt 96 b && nat_lt b 123) h) [
  | inl large ↦ let bounds = inside 64 91 b large in letter_byte b (omega (arith, bounds.0)) (omega (arith, bounds.1)) (λ e. omega (arith, bounds.0))
  | inr small ↦ let bounds = inside 96 123 b small in letter_byte b (omega (arith, bounds.0)) (omega (arith, bounds.1)) (λ e. omega (arith, bounds.0))
]

digit_is : (b : ℕ) → is_digit b ≡ true → class_of b ≡ Letter
digit_is b h = let bounds = inside 47 58 b h in letter_byte b (omega (arith, bounds.0)) (omega (arith, bounds.1)) (λ e. omega (arith, bounds.1))

inner_is : (b : ℕ) → is_inner b ≡ true → class_of b ≡ Letter
inner_is b h = elim (or_cases (is_letter b || is_digit b || nat_eq b 95) (nat_eq b 46) h) [
  | inr point ↦ let same = eqb-true b 46 point in letter_byte b (omega (arith, same)) (omega (arith, same)) (λ e. omega (arith, same))
  | inl other ↦ elim (or_cases (is_letter b || is_digit b) (nat_eq b 95) other) [
    | inr line ↦ let same = eqb-true b 95 line in letter_byte b (omega (arith, same)) (omega (arith, same)) (λ e. omega (arith, same))
    | inl plain ↦ elim (or_cases (is_letter b) (is_digit b) plain) [
      | inl letter ↦ letter_is b letter
      | inr digit ↦ digit_is b digit
    ]
  ]
]

inner_all : (text : List ℕ) → list_all is_inner text ≡ true → AreLetters text
inner_all [] h = tt
inner_all (b ∷ text) h = let both = and_parts (is_inner b) (list_all is_inner text) h in (inner_is b both.0, inner_all text both.1)

-- ---- names

name_form_is : (text : List ℕ) → has_name_form text ≡ true → IsAtomText text
name_form_is [] h = absurd cc
name_form_is (b ∷ text) h =
    let form = (and_parts (is_letter b && list_all is_inner text) (nat_lt (length text) 255) h).0 in
    let both = and_parts (is_letter b) (list_all is_inner text) form in
    (letter_is b both.0, inner_all text both.1)

pub name_is : (text : List ℕ) → is_name text ≡ true → IsAtomText text
unfolding is_name
name_is text h = name_form_is text (and_parts (has_name_form text) (not (is_reserved text)) h).0

atom_letters : (text : List ℕ) → IsAtomText text → AreLetters text
atom_letters [] is = tt
atom_letters (b ∷ text) is = is

quote_is : class_of 39 ≡ Letter
unfolding class_of
quote_is = refl

pub type_variable_is : (text : List ℕ) → is_type_variable text ≡ true → IsAtomText text
unfolding is_type_variable
type_variable_is [] h = absurd cc
type_variable_is (b ∷ text) h =
    let both = and_parts (nat_eq b 39) (has_name_form text) h in
    (rw (eqb-true b 39 both.0) quote_is, atom_letters text (name_form_is text both.1))

word_by : (first second third fourth fifth : Bool) (name : List ℕ) → IsAtomText name
    → IsAtomText (if first then codes "=" else if second then codes "-" else if third then codes "-" else if fourth then codes "<=" else if fifth then codes "<" else name)
unfolding class_of
word_by true second third fourth fifth name is = (refl, tt)
word_by false true third fourth fifth name is = (refl, tt)
word_by false false true fourth fifth name is = (refl, tt)
word_by false false false true fifth name is = (refl, (refl, tt))
word_by false false false false true name is = (refl, tt)
word_by false false false false false name is = is

pub word_is : (name : List ℕ) → IsAtomText name → IsAtomText (word_for name)
unfolding word_for
word_is name is = word_by (bytes_eq name (codes "eq")) (bytes_eq name (codes "neg")) (bytes_eq name (codes "sub")) (bytes_eq name (codes "le")) (bytes_eq name (codes "lt")) name is

-- ---- numbers

-- the last k digits of n at most, in front of others
abbrev digits_before : ℕ → ℕ → List ℕ → List ℕ
digits_before zero n others = others
digits_before (suc k) n others = if n / 10 == 0 then digit_glyph false (n % 10) ∷ others else digits_before k (n / 10) (digit_glyph false (n % 10) ∷ others)

decimal_is : (n : ℕ) → decimal n ≡ digits_before 64 n []
unfolding digits
decimal_is n = refl

glyph_is : (d : ℕ) → d < 10 → class_of (digit_glyph false d) ≡ Letter
glyph_is d small = rw (lt-ltb d 10 small) (letter_byte (48 + d) (omega arith) (omega arith) (λ e. omega arith))

one_more : (last : Bool) (digit : ℕ) (others more : List ℕ) → class_of digit ≡ Letter → AreLetters others → IsAtomText more → IsAtomText (if last then digit ∷ others else more)
one_more true digit others more is are rest = (is, are)
one_more false digit others more is are rest = rest

last_is : (n : ℕ) → class_of (digit_glyph false (n % 10)) ≡ Letter
last_is n = glyph_is (n % 10) (omega arith)

digits_are : (k n : ℕ) (others : List ℕ) → AreLetters others → IsAtomText (digits_before (suc k) n others)
digits_are zero n others are = one_more (n / 10 == 0) (digit_glyph false (n % 10)) others (digit_glyph false (n % 10) ∷ others) (last_is n) are (last_is n, are)
digits_are (suc k) n others are =
    one_more (n / 10 == 0) (digit_glyph false (n % 10)) others (digits_before (suc k) (n / 10) (digit_glyph false (n % 10) ∷ others)) (last_is n) are
    (digits_are k (n / 10) (digit_glyph false (n % 10) ∷ others) (last_is n, are))

pub decimal_letters : (n : ℕ) → IsAtomText (decimal n)
decimal_letters n = rw (decimal_is n) (digits_are 63 n [] tt)

pub variable_is : (k : ℕ) → IsAtomText (variable_text k)
unfolding class_of
variable_is k = (refl, (refl, atom_letters (decimal k) (decimal_letters k)))
