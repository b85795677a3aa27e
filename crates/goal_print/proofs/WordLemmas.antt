-- Names, variables and numbers, as texts.
use Rattle.std.proofs.Common.{◌≡◌, ℕ, zero, suc, ◌+◌, ◌-◌, ◌^◌, ◌<◌, ◌≤◌, List, [], ◌∷◌, ◌++◌, length, ◌%◌, Some, None, drop, add-one, Bool as Truth, true, false, true≢false, ◌&&◌, ◌||◌, not, nat_eq, nat_lt, bytes_eq, codes, refl, sym, ap, ◌∙◌, arith, rules}
use Rattle.std.specs.Fmt.{decimal}
use Rattle.std.specs.List.{list_all}
use Rattle.std.proofs.lemmas.Fmt.{decimal_is_IsNumeral_wide, decimal_by_steps_wide, decimal_injective, length-decimal-le}
use Rattle.std.proofs.lemmas.Str.Parse.{IsNumeralModel, numerals_by_fold}
use Rattle.std.proofs.lemmas.Bool.Decides.{nat_tests}
use Rattle.std.proofs.lemmas.List.Folds.{list_all-append}
use Rattle.std.proofs.lemmas.Bool.{lt-ltb}
use Rattle.std.proofs.lemmas.Option.{none-some, same_Some}
use Rattle.hol_types.specs.Ty.{Ty}
use Rattle.hol_types.proofs.TyEqLemmas.{text_eq_sound, text_eq_refl}
use Rattle.hol_types.specs.Exact.{both_true}
use Rattle.goal_text.specs.Lexicon.{is_letter, is_digit, is_inner, is_name, is_number, is_variable, is_type_variable, has_name_form, are_digits, value_of, value_behind, is_reserved, word_of}
use Rattle.goal_text.specs.Names.{bound_to}
use Rattle.goal_print.specs.TermText.{variable_text}
use Rattle.goal_text.specs.Given.{binder_at}
use Rattle.goal_print.specs.Under.{named}

-- a text that passes a test differs from one that doesn't
pub apart : (test : List ℕ → Truth) (a b : List ℕ) → test a ≡ true → test b ≡ false → bytes_eq a b ≡ false
apart test a b h k = by (bytes_eq a b) refl
  where
    by : (c : Truth) → bytes_eq a b ≡ c → bytes_eq a b ≡ false
    by false e = e
    by true e = absurd (true≢false (sym h ∙ ap test (text_eq_sound a b e) ∙ k))

digit_byte : (n : ℕ) → n < 10 → is_digit (48 + n) ≡ true
digit_byte n h = grind (arith, nat_tests)

-- what decimal writes are digits, of which there is one at least
are_decimal : (n : ℕ) → n < 10 ^ 64 → are_digits (decimal n) ≡ true
are_decimal = decimal_by_steps_wide (λ n ds. are_digits ds ≡ true) (λ n h. one n h) (λ n ds h k. more n ds k)
  where
    one : (n : ℕ) → n < 10 → are_digits ((48 + n) ∷ []) ≡ true
    one n h = rw (digit_byte n h) refl

    more : (n : ℕ) (ds : List ℕ) → are_digits ds ≡ true → are_digits (ds ++ ((48 + n % 10) ∷ [])) ≡ true
    more n [] k = absurd (true≢false (sym k))
    more n (d ∷ ds) k =
        let both = both_true (is_digit d) (list_all is_digit ds) k in
        let last : is_digit (48 + n % 10) ≡ true = digit_byte (n % 10) (omega arith) in
        rw (both.0, list_all-append is_digit ds ((48 + n % 10) ∷ []), both.1, last) refl

own : IsNumeralModel (λ ds. list_all is_digit ds ≡ true) (value_behind 0)
own = numerals_by_fold _ (search rules) value_behind (search rules)

digits_all : (ds : List ℕ) → are_digits ds ≡ true → list_all is_digit ds ≡ true
digits_all [] h = absurd (true≢false (sym h))
digits_all (d ∷ ds) h = h

pub number_form : (n : ℕ) → n < 10 ^ 64 → is_number (decimal n) ≡ true
unfolding is_number
number_form n h = are_decimal n h

pub number_value : (n : ℕ) → n < 10 ^ 64 → value_of (decimal n) ≡ n
unfolding value_of
number_value n h =
    let all : list_all is_digit (decimal n) ≡ true = digits_all (decimal n) (are_decimal n h) in
    own.same (decimal n) (own.to (decimal n) all) ∙ (decimal_is_IsNumeral_wide n h).1

-- ---- names

-- a name begins with a letter
first_letter : (b : ℕ) (rest : List ℕ) → is_name (b ∷ rest) ≡ true → is_letter b ≡ true
unfolding is_name
first_letter b rest h =
    let form : has_name_form (b ∷ rest) ≡ true = (both_true (has_name_form (b ∷ rest)) (not (is_reserved (b ∷ rest))) h).0 in
    let front = both_true (is_letter b && list_all is_inner rest) (nat_lt (length rest) 255) form in
    (both_true (is_letter b) (list_all is_inner rest) front.0).0

letter_no_digit : (b : ℕ) → is_letter b ≡ true → is_digit b ≡ false
letter_no_digit b h = grind (arith, nat_tests)

letter_no_quote : (b : ℕ) → is_letter b ≡ true → nat_eq b 39 ≡ false
letter_no_quote b h = grind (arith, nat_tests)

pub name_no_number : (name : List ℕ) → is_name name ≡ true → is_number name ≡ false
unfolding is_number
name_no_number [] h = refl
name_no_number (b ∷ rest) h = rw (letter_no_digit b (first_letter b rest h)) refl

pub name_no_type_variable : (name : List ℕ) → is_name name ≡ true → is_type_variable name ≡ false
unfolding is_type_variable
name_no_type_variable [] h = refl
name_no_type_variable (b ∷ rest) h = rw (letter_no_quote b (first_letter b rest h)) refl

-- no word of the grammar is a name
pub name_apart : (name word : List ℕ) → is_name name ≡ true → is_name word ≡ false → bytes_eq name word ≡ false
name_apart name word h k = apart (λ text. is_name text) name word h k

pub name_no_word : (name : List ℕ) → is_name name ≡ true → word_of name ≡ None
unfolding word_of is_name
name_no_word name h =
    let no : (word : List ℕ) → is_name word ≡ false → bytes_eq name word ≡ false = λ word k. name_apart name word h k in
    rw (
      no (codes "not") refl,
      no (codes "and") refl,
      no (codes "or") refl,
      no (codes "=>") refl,
      no (codes "=") refl,
      no (codes "distinct") refl,
      no (codes "xor") refl,
      no (codes "ite") refl,
      no (codes "+") refl,
      no (codes "*") refl,
      no (codes "-") refl,
      no (codes "<=") refl,
      no (codes "<") refl,
      no (codes ">=") refl,
      no (codes ">") refl,
      no (codes "div") refl,
      no (codes "mod") refl,
      no (codes "forall") refl,
      no (codes "exists") refl,
      no (codes "lambda") refl,
      no (codes "as") refl,
    ) refl

-- ---- variables

pub variable_no_word : (k : ℕ) → word_of (variable_text k) ≡ None
unfolding word_of
variable_no_word k = refl

pub variable_no_number : (k : ℕ) → is_number (variable_text k) ≡ false
unfolding is_number
variable_no_number k = refl

pub variable_no_name : (k : ℕ) → is_name (variable_text k) ≡ false
unfolding is_name
variable_no_name k = refl

digit_inner : (b : ℕ) → is_digit b ≡ true → is_inner b ≡ true
digit_inner b h = by (is_letter b)
  where
    by : (c : Truth) → (c || is_digit b || nat_eq b 95 || nat_eq b 46) ≡ true
    by true = refl
    by false = rw h refl

digits_inner : (ds : List ℕ) → list_all is_digit ds ≡ true → list_all is_inner ds ≡ true
digits_inner [] h = refl
digits_inner (d ∷ ds) h =
    let both = both_true (is_digit d) (list_all is_digit ds) h in
    rw (digit_inner d both.0, digits_inner ds both.1) refl

pub variable_form : (k : ℕ) → k < 2 ^ 32 → is_variable (variable_text k) ≡ true
unfolding is_variable is_name
variable_form k h =
    let wide : k < 10 ^ 64 = omega arith in
    let inner : list_all is_inner (decimal k) ≡ true = digits_inner (decimal k) (digits_all (decimal k) (are_decimal k wide)) in
    let short : length (decimal k) ≤ 10 = length-decimal-le 10 k (omega arith) (omega arith) (omega arith) in
    let fits : nat_lt (suc (length (decimal k))) 255 ≡ true = lt-ltb (suc (length (decimal k))) 255 (omega arith) in
    rw (inner, fits) refl

pub variables_apart : (j k : ℕ) → j < k → k < 2 ^ 32 → bytes_eq (variable_text j) (variable_text k) ≡ false
variables_apart j k below h = by (bytes_eq (variable_text j) (variable_text k)) refl
  where
    by : (c : Truth) → bytes_eq (variable_text j) (variable_text k) ≡ c → bytes_eq (variable_text j) (variable_text k) ≡ false
    by false e = e
    by true e =
        let texts : variable_text j ≡ variable_text k = text_eq_sound (variable_text j) (variable_text k) e in
        let digits : decimal j ≡ decimal k = ap (λ t. drop 2 t) texts in
        let same : j ≡ k = decimal_injective j k (omega arith) (omega arith) digits in
        absurd (omega arith)

-- ---- variables bound by number

pub bound_below : (bs : List Ty) (i : ℕ) (t : Ty) → binder_at bs i ≡ Some t → i < length bs
bound_below [] i t h = absurd (none-some t h)
bound_below (b ∷ bs) zero t h = omega arith
bound_below (b ∷ bs) (suc i) t h = let less = bound_below bs i t h in omega (arith, less)

pub bound_found : (bs : List Ty) (i : ℕ) (t : Ty) → length bs ≤ 2 ^ 32 → binder_at bs i ≡ Some t → bound_to (named bs) (variable_text (length bs - 1 - i)) ≡ Some (i, t)
unfolding bound_to
bound_found [] i t most h = absurd (none-some t h)
bound_found (b ∷ bs) zero t most h =
    let own : length (b ∷ bs) - 1 - 0 ≡ length bs = omega arith in
    rw (own, text_eq_refl (variable_text (length bs))) (ap (λ u. Some (0, u)) (same_Some b t h))
bound_found (b ∷ bs) (suc i) t most h =
    let less : i < length bs = bound_below bs i t h in
    let place : length (b ∷ bs) - 1 - suc i ≡ length bs - 1 - i = omega arith in
    let other : bytes_eq (variable_text (length bs - 1 - i)) (variable_text (length bs)) ≡ false = variables_apart (length bs - 1 - i) (length bs) (omega arith) (omega arith) in
    rw (place, other, bound_found bs i t (omega arith) h, add-one) refl

pub name_unbound : (bs : List Ty) (name : List ℕ) → is_name name ≡ true → bound_to (named bs) name ≡ None
unfolding bound_to
name_unbound [] name h = refl
name_unbound (b ∷ bs) name h = rw (name_apart name (variable_text (length bs)) h (variable_no_name (length bs)), name_unbound bs name h) refl

pub equal_numbers : (n : ℕ) → nat_eq n n ≡ true
equal_numbers n = grind (arith, nat_tests)

-- ---- single words

pub bool_no_name : is_name (codes "Bool") ≡ false
unfolding is_name
bool_no_name = refl

pub int_no_name : is_name (codes "Int") ≡ false
unfolding is_name
int_no_name = refl

pub arrow_no_name : is_name (codes "->") ≡ false
unfolding is_name
arrow_no_name = refl

pub true_no_name : is_name (codes "true") ≡ false
unfolding is_name
true_no_name = refl

pub false_no_name : is_name (codes "false") ≡ false
unfolding is_name
false_no_name = refl

pub bool_no_type_variable : is_type_variable (codes "Bool") ≡ false
unfolding is_type_variable
bool_no_type_variable = refl

pub int_no_type_variable : is_type_variable (codes "Int") ≡ false
unfolding is_type_variable
int_no_type_variable = refl
