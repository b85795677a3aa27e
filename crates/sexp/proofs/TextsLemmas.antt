-- Texts found and added in a set, and records whose texts stay.
use Rattle.std.proofs.Common.{◌≡◌, ℕ, zero, suc, ◌<◌, List, [], ◌∷◌, ◌++◌, length, map, Vec, Global, Bool, true, false, Some, slice_get, slice_index_or, slice_set, position, get_or, nat_eq, refl, sym, ap, ◌∙◌, inl, inr, true≢false, arith, ◌&&◌, if◌then◌else◌}
use Rattle.std.specs.Cmp.Lexicographic.{pointwise}
use Rattle.std.proofs.lemmas.Bool.Decides.{nat_tests}
use Rattle.std.proofs.lemmas.List.{map-append}
use Rattle.std.proofs.lemmas.List.Quantifiers.{position-Some}
use Rattle.std.proofs.lemmas.Option.{slice_get_cases, slice_get-map, slice_get_within, slice_get-get_or, none-some, same_Some}
use Rattle.sexp.specs.Texts.{Keeps}
use Rattle.sexp.specs.Forest.{AtomBody, QuotedBody}
use Rattle.sexp.specs.Records.{body_in, kept_in, HasText, HaveTexts, closed_at}
use Rattle.sexp.specs.declared.records.Record.{Record}
use Rattle.sexp.specs.declared.records.Content.{Content}
use Rattle.sexp.specs.declared.records.Content.TheVariants as contents

both_true : (a b : Bool) → (a && b) ≡ true → (a ≡ true) × (b ≡ true)
both_true true b h = (refl, h)
both_true false b h = absurd (true≢false (sym h))

-- bytes that are equal one by one are the same
pub same_bytes : (xs ys : List ℕ) → pointwise nat_eq xs ys ≡ true → xs ≡ ys
same_bytes [] [] h = refl
same_bytes [] (y ∷ ys) h = absurd (true≢false (sym h))
same_bytes (x ∷ xs) [] h = absurd (true≢false (sym h))
same_bytes (x ∷ xs) (y ∷ ys) h =
    let p = both_true (nat_eq x y) (pointwise nat_eq xs ys) h in
    let e : x ≡ y = grind (arith, nat_tests, p.0) in
    let f = same_bytes xs ys p.1 in
    cc

abbrev bytes_of : Vec ℕ Global → List ℕ
bytes_of v = v.items

-- the text that a set has at a place
pub text_at : (keys : List (Vec ℕ Global)) (i : ℕ) (key : Vec ℕ Global) (text : List ℕ) → slice_get keys i ≡ Some key
    → pointwise nat_eq text key.items ≡ true → slice_get (map bytes_of keys) i ≡ Some text
text_at keys i key text got same = rw (slice_get-map bytes_of keys i, got) (ap Some (sym (same_bytes text key.items same)))

pub text_found : (keys : List (Vec ℕ Global)) (i : ℕ) (text : List ℕ) → position (λ (key : Vec ℕ Global). pointwise nat_eq text key.items) keys ≡ Some i
    → slice_get (map bytes_of keys) i ≡ Some text
text_found [] i text found = absurd (none-some i found)
text_found (k ∷ keys) i text found =
    let first = position-Some (λ (key : Vec ℕ Global). pointwise nat_eq text key.items) (k ∷ keys) i k found in
    text_at (k ∷ keys) i (get_or (k ∷ keys) i k) text (slice_get-get_or (k ∷ keys) i k first.0) first.1

slice_get-left : {A : Type 0} (xs ys : List A) (i : ℕ) (x : A) → slice_get xs i ≡ Some x → slice_get (xs ++ ys) i ≡ Some x
slice_get-left [] ys i x h = absurd (none-some x h)
slice_get-left (z ∷ xs) ys zero x h = h
slice_get-left (z ∷ xs) ys (suc i) x h = slice_get-left xs ys i x h

pub kept_or_pushed : (keys new : List (Vec ℕ Global)) (key : Vec ℕ Global) (b : Bool) → new ≡ (if b then keys else keys ++ key ∷ [])
    → Keeps (map bytes_of keys) (map bytes_of new)
kept_or_pushed keys new key true e = λ i text h. rw e h
kept_or_pushed keys new key false e = λ i text h.
    rw (e, map-append bytes_of keys (key ∷ [])) (slice_get-left (map bytes_of keys) (key.items ∷ []) i text h)

pub index_of : (texts : List (List ℕ)) (n : ℕ) (text : List ℕ) → slice_get texts n ≡ Some text → slice_index_or texts n [] ≡ text
index_of [] n text h = absurd (none-some text h)
index_of (t ∷ texts) zero text h = same_Some t text h
index_of (t ∷ texts) (suc n) text h = index_of texts n text h

-- a text below the length stays
kept_text : (old new : List (List ℕ)) → Keeps old new → (n : ℕ) → n < length old → (n < length new) × (slice_index_or new n [] ≡ slice_index_or old n [])
kept_text old new keeps n below = elim (slice_get_cases old n).1 [
  | inl (text, _, got, at) ↦ (slice_get_within new n text (keeps n text got), index_of new n text (keeps n text got) ∙ sym (index_of old n text got))
  | inr (past, none) ↦ absurd (omega arith)
]

body_kept : (old new : List (List ℕ)) → Keeps old new → (content : Content) → HasText old content → HasText new content × (body_in new content ≡ body_in old content)
body_kept old new keeps contents.List has = (tt, refl)
body_kept old new keeps (contents.Atom n) has = let k = kept_text old new keeps n has in (k.0, ap AtomBody k.1)
body_kept old new keeps (contents.Quoted n) has = let k = kept_text old new keeps n has in (k.0, ap QuotedBody k.1)

-- the records are the same with more texts
pub records_kept : (old new : List (List ℕ)) → Keeps old new → (rs : List Record) → HaveTexts old rs
    → HaveTexts new rs × (map (kept_in new) rs ≡ map (kept_in old) rs)
records_kept old new keeps [] have = (tt, refl)
records_kept old new keeps (r ∷ rs) have =
    let one = body_kept old new keeps r.content have.0 in
    let all = records_kept old new keeps rs have.1 in
    ((one.0, all.0), rw (one.1, all.1) refl)

pub HaveTexts-push : (texts : List (List ℕ)) (rs : List Record) (r : Record) → HaveTexts texts rs → HasText texts r.content → HaveTexts texts (rs ++ r ∷ [])
HaveTexts-push texts [] r have has = (has, tt)
HaveTexts-push texts (s ∷ rs) r have has = (have.0, HaveTexts-push texts rs r have.1 has)

-- a record with another end and another number behind it
pub HaveTexts-set : (texts : List (List ℕ)) (rs : List Record) (i : ℕ) (r : Record) («end» after : ℕ) → i < length rs → r ≡ slice_index_or rs i r
    → HaveTexts texts rs → HaveTexts texts (slice_set rs i (record r { end = «end»; after = after }))
HaveTexts-set texts [] i r «end» after below e have = absurd (omega arith)
HaveTexts-set texts (s ∷ rs) zero r «end» after below e have = (rw e have.0, have.1)
HaveTexts-set texts (s ∷ rs) (suc i) r «end» after below e have = (have.0, HaveTexts-set texts rs i r «end» after (omega arith) e have.1)

pub closed_at-set : (texts : List (List ℕ)) (rs : List Record) (i : ℕ) (r : Record) («end» after : ℕ) → i < length rs → r ≡ slice_index_or rs i r
    → map (kept_in texts) (slice_set rs i (record r { end = «end»; after = after })) ≡ closed_at i («end», after) (map (kept_in texts) rs)
closed_at-set texts [] i r «end» after below e = absurd (omega arith)
closed_at-set texts (s ∷ rs) zero r «end» after below e = rw e refl
closed_at-set texts (s ∷ rs) (suc i) r «end» after below e = ap (λ x. kept_in texts s ∷ x) (closed_at-set texts rs i r «end» after (omega arith) e)

-- a record more, and maybe more texts
pub texts_pushed : (old new : List (List ℕ)) → Keeps old new → (rs : List Record) → HaveTexts old rs → (r : Record) → HasText new r.content
    → HaveTexts new (rs ++ r ∷ []) × (map (kept_in new) (rs ++ r ∷ []) ≡ map (kept_in old) rs ++ kept_in new r ∷ [])
texts_pushed old new keeps rs have r has =
    let kept = records_kept old new keeps rs have in
    (HaveTexts-push new rs r kept.0 has, map-append (kept_in new) rs (r ∷ []) ∙ rw kept.1 refl)

pub same_texts : (texts : List (List ℕ)) → Keeps texts texts
same_texts texts = λ i text h. h

pub text_below : (texts : List (List ℕ)) (rs : List Record) (i : ℕ) (r : Record) → i < length rs → r ≡ slice_index_or rs i r → HaveTexts texts rs → HasText texts r.content
text_below texts [] i r below e have = absurd (omega arith)
text_below texts (s ∷ rs) zero r below e have = rw e have.0
text_below texts (s ∷ rs) (suc i) r below e have = text_below texts rs i r (omega arith) e have.1
