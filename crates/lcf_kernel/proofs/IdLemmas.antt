-- Lists of numbers, read by what stands in them.
use Rattle.std.proofs.Common.{◌≡◌, ◌++◌, ◌∙◌, ◌∷◌, [], refl, sym, ap, ◌⊎◌, ℕ, List, inl, inr, ◌<◌, arith, filter, cond, ◌||◌, true, false, Bool as Truth, length, get_or, take, ◌+◌, ◌≤◌, Result, Ok, Err}
use Rattle.std.proofs.Math.Dec.{eqb}
use Rattle.std.proofs.lemmas.Bool.Decides.{nat_tests}
use Rattle.std.specs.List.{dedup}
use Rattle.std.specs.List.Sorted.{IsSorted, IsPermutation, IsBinarySearchResult}
use Rattle.std.specs.Ordering.{eq_by_cmp, nat_cmp}
use Rattle.std.specs.Cmp.{nat_cmp_total}
use Rattle.std.proofs.lemmas.List.Kept.{IsStrictlySortedBy-dedup, Contains-dedup_nat, Contains-from_dedup}
use Rattle.std.proofs.lemmas.List.Sorted.{Contains-permutation, IsPermutation-sym, searched}
use Rattle.std.proofs.lemmas.Map.Keys.{non_decreasing_from_sorted}
use Rattle.std.proofs.lemmas.Bool.{cases_lt}
use Rattle.std.proofs.lemmas.Grind.{get_or_default_zero}
use Rattle.std.proofs.lemmas.List.Elements.{filter_more}
use Rattle.std.proofs.lemmas.List.{append-nil}
use Rattle.std.specs.Result.{MatchResult, is_ok}
use Rattle.hol_types.proofs.TypeLemmas.{eqb_sound, eqb_complete}
use Rattle.hol_terms.specs.Formula.{In}
use Rattle.lcf_kernel.specs.Hyps.{Rises, SameIds, stands}
use Rattle.hol_formulas.proofs.ListLemmas.{In-from_Contains, Contains-from_In}

-- what a test lets through
module _ (p : ℕ → Truth) where
  pub In-filter : (xs : List ℕ) (x : ℕ) → In x (filter p xs) → In x xs × (p x ≡ true)
  In-filter [] x h = absurd h
  In-filter (y ∷ xs) x h = by (p y) refl (λ k. In-filter xs x k) h
    where
      by : (b : Truth) → p y ≡ b → (In x (filter p xs) → In x xs × (p x ≡ true)) → In x (cond b (y ∷ filter p xs) (filter p xs)) → In x (y ∷ xs) × (p x ≡ true)
      by true e rest (inl k) = (inl k, ap p k ∙ e)
      by true e rest (inr k) = let q = rest k in (inr q.0, q.1)
      by false e rest k = let q = rest k in (inr q.0, q.1)

  pub In-to_filter : (xs : List ℕ) (x : ℕ) → In x xs → p x ≡ true → In x (filter p xs)
  In-to_filter [] x h pass = absurd h
  In-to_filter (y ∷ xs) x (inl e) pass = by (p y) (sym (ap p e) ∙ pass)
    where
      by : (b : Truth) → b ≡ true → In x (cond b (y ∷ filter p xs) (filter p xs))
      by true k = inl e
      by false k = absurd (cc)
  In-to_filter (y ∷ xs) x (inr h) pass = by (p y) (In-to_filter xs x h pass)
    where
      by : (b : Truth) → In x (filter p xs) → In x (cond b (y ∷ filter p xs) (filter p xs))
      by true k = inr k
      by false k = k

-- the test says what stands in a list
pub stands-In : (xs : List ℕ) (x : ℕ) → stands x xs ≡ true → In x xs
unfolding stands
stands-In [] x h = absurd (cc)
stands-In (y ∷ xs) x h = by (eqb x y) refl (λ k. stands-In xs x k) h
  where
    by : (b : Truth) → eqb x y ≡ b → (stands x xs ≡ true → In x xs) → (b || stands x xs) ≡ true → In x (y ∷ xs)
    by true e rest k = inl (eqb_sound x y e)
    by false e rest k = inr (rest k)

pub stands-from_In : (xs : List ℕ) (x : ℕ) → In x xs → stands x xs ≡ true
unfolding stands
stands-from_In [] x h = absurd h
stands-from_In (y ∷ xs) x h = by (eqb x y) refl (λ k. stands-from_In xs x k) h
  where
    by : (b : Truth) → eqb x y ≡ b → (In x xs → stands x xs ≡ true) → In x (y ∷ xs) → (b || stands x xs) ≡ true
    by true e rest k = refl
    by false e rest (inl k) = absurd (eqb_complete x y e k)
    by false e rest (inr k) = rest k

-- ---- a list in order, each number once

eqb_ties : (x y : ℕ) → eqb x y ≡ eq_by_cmp nat_cmp x y
eqb_ties x y = grind (arith, nat_tests)

pub Rises-in_order : (xs : List ℕ) → IsSorted nat_cmp xs → Rises (dedup eqb xs)
Rises-in_order xs h = IsStrictlySortedBy-dedup nat_cmp_total eqb_ties xs h

pub SameIds-in_order : (xs sorted : List ℕ) → IsPermutation xs sorted → SameIds (dedup eqb sorted) xs
SameIds-in_order xs sorted p = record {
  to = λ t h. In-from_Contains xs t (Contains-permutation sorted xs t (IsPermutation-sym xs sorted p) (Contains-from_dedup eqb sorted t (Contains-from_In (dedup eqb sorted) t h)));
  from = λ t h. In-from_Contains (dedup eqb sorted) t (Contains-dedup_nat sorted t (Contains-permutation xs sorted t p (Contains-from_In xs t h)));
}

-- ---- what a search in a rising list answers

-- an answer that says which
searched-stands : (xs : List ℕ) (x : ℕ) (r : Result ℕ ℕ) → MatchResult r (λ i. (i < length xs) × (get_or xs i 0 ≡ x)) (λ i. (i ≤ length xs) × ((k : ℕ) → k < i → get_or xs k 0 < x) × ((k : ℕ) → i ≤ k → k < length xs → x < get_or xs k 0)) → is_ok r ≡ stands x xs
searched-stands xs x (Ok i) h = sym (stands-from_In xs x (In-from_Contains xs x (i, h.0, get_or_default_zero xs i x h.0 ∙ h.1)))
searched-stands xs x (Err i) h = by (stands x xs) refl
  where
    nowhere : (k : ℕ) → k < length xs → get_or xs k 0 ≡ x → ⊥
    nowhere k below is = cases (cases_lt k i)
      where
        cases : (k < i) ⊎ (i ≤ k) → ⊥
        cases (inl l) = omega (arith, h.1 k l, is)
        cases (inr l) = omega (arith, h.2 k l below, is)

    by : (b : Truth) → stands x xs ≡ b → false ≡ stands x xs
    by true e = let p = Contains-from_In xs x (stands-In xs x e) in absurd (nowhere p.0 p.1 (sym (get_or_default_zero xs p.0 x p.1) ∙ p.2))
    by false e = sym e

pub stands-searched : (xs : List ℕ) (x : ℕ) (r : Result ℕ ℕ) → IsBinarySearchResult (λ y. nat_cmp y x) xs r → Rises xs → is_ok r ≡ stands x xs
stands-searched xs x r h rises = searched-stands xs x r (searched xs x r h (λ i j. non_decreasing_from_sorted xs rises i j 0))

-- ---- a loop that keeps what passes a test

pub kept_more : (p : ℕ → Truth) (xs kept now : List ℕ) (i x : ℕ) → i < length xs → x ≡ get_or xs i x → kept ≡ filter p (take i xs) → now ≡ cond (p x) (kept ++ x ∷ []) kept → now ≡ filter p (take (i + 1) xs)
kept_more p xs kept now i x below at before after = rw (filter_more p xs i x below, ← at, ← before) (after ∙ by (p x))
  where
    by : (b : Truth) → cond b (kept ++ x ∷ []) kept ≡ kept ++ cond b (x ∷ []) []
    by true = refl
    by false = sym (append-nil kept)
