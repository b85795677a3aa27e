-- Two rising lists merged in one.
use Rattle.std.proofs.Common.{◌≡◌, ◌++◌, ◌∙◌, ◌∷◌, [], sym, subst, ap, ◌⊎◌, ℕ, List, inl, inr, suc, ◌<◌, ◌≤◌, ◌+◌, arith, nat_cmp, length, get_or, drop, take, ◌-◌, length-drop, append_assoc, add-one, drop-cons}
use Rattle.std.proofs.lemmas.List.{append-nil, drop_all, take_all}
use Rattle.std.proofs.lemmas.Bool.Decides.{nat_tests}
use Rattle.std.specs.declared.cmp.Ordering.TheVariants.{Less}
use Rattle.std.specs.List.{AllByRecursion}
use Rattle.std.specs.List.Sorted.{IsStrictlySortedBy}
use Rattle.hol_terms.specs.Formula.{In}
use Rattle.lcf_kernel.specs.Hyps.{Rises, SameIds}
use Rattle.hol_terms.proofs.SetLemmas.{in_append_left, in_append_right, in_append_either}

-- the third list is the first two, merged
pub data IsMerge : List ℕ → List ℕ → List ℕ → Type 0 where
  no_left : {ys : List ℕ} → IsMerge [] ys ys
  no_right : {xs : List ℕ} → IsMerge xs [] xs
  from_left : {x y : ℕ} {xs ys zs : List ℕ} → x < y → IsMerge xs (y ∷ ys) zs → IsMerge (x ∷ xs) (y ∷ ys) (x ∷ zs)
  from_right : {x y : ℕ} {xs ys zs : List ℕ} → y < x → IsMerge (x ∷ xs) ys zs → IsMerge (x ∷ xs) (y ∷ ys) (y ∷ zs)
  from_both : {x : ℕ} {xs ys zs : List ℕ} → IsMerge xs ys zs → IsMerge (x ∷ xs) (x ∷ ys) (x ∷ zs)

-- what stands in a merged list
pub In-merge : {xs ys zs : List ℕ} (t : ℕ) → IsMerge xs ys zs → In t zs → In t xs ⊎ In t ys
In-merge t no_left h = inr h
In-merge t no_right h = inl h
In-merge t (from_left b m) (inl e) = inl (inl e)
In-merge t (from_left {x = x} {y = y} {xs = xs} {ys = ys} b m) (inr h) = more (In-merge t m h)
  where
    more : In t xs ⊎ In t (y ∷ ys) → In t (x ∷ xs) ⊎ In t (y ∷ ys)
    more (inl k) = inl (inr k)
    more (inr k) = inr k
In-merge t (from_right b m) (inl e) = inr (inl e)
In-merge t (from_right {x = x} {y = y} {xs = xs} {ys = ys} b m) (inr h) = more (In-merge t m h)
  where
    more : In t (x ∷ xs) ⊎ In t ys → In t (x ∷ xs) ⊎ In t (y ∷ ys)
    more (inl k) = inl k
    more (inr k) = inr (inr k)
In-merge t (from_both m) (inl e) = inl (inl e)
In-merge t (from_both {x = x} {xs = xs} {ys = ys} m) (inr h) = more (In-merge t m h)
  where
    more : In t xs ⊎ In t ys → In t (x ∷ xs) ⊎ In t (x ∷ ys)
    more (inl k) = inl (inr k)
    more (inr k) = inr (inr k)

-- each of the list is above the number
abbrev Above : ℕ → List ℕ → Type 0
Above x ys = AllByRecursion (λ y. nat_cmp x y ≡ Less) ys

Less-from_below : (x y : ℕ) → x < y → nat_cmp x y ≡ Less
Less-from_below x y h = grind (arith, nat_tests)

Less-trans : (x y z : ℕ) → x < y → nat_cmp y z ≡ Less → nat_cmp x z ≡ Less
Less-trans x y z h k = grind (arith, nat_tests)

Above-trans : (x y : ℕ) (zs : List ℕ) → x < y → Above y zs → Above x zs
Above-trans x y [] h all = tt
Above-trans x y (z ∷ zs) h all = (Less-trans x y z h all.0, Above-trans x y zs h all.1)

Above-merge : {xs ys zs : List ℕ} (t : ℕ) → IsMerge xs ys zs → Above t xs → Above t ys → Above t zs
Above-merge t no_left h k = k
Above-merge t no_right h k = h
Above-merge t (from_left b m) h k = (h.0, Above-merge t m h.1 k)
Above-merge t (from_right b m) h k = (k.0, Above-merge t m h k.1)
Above-merge t (from_both m) h k = (h.0, Above-merge t m h.1 k.1)

-- a merged list rises where both do
pub Rises-merge : {xs ys zs : List ℕ} → IsMerge xs ys zs → Rises xs → Rises ys → Rises zs
unfolding IsStrictlySortedBy
Rises-merge no_left h k = k
Rises-merge no_right h k = h
Rises-merge (from_left {x = x} {y = y} {ys = ys} b m) h k = (Above-merge x m h.0 (Less-from_below x y b, Above-trans x y ys b k.0), Rises-merge m h.1 k)
Rises-merge (from_right {x = x} {y = y} {xs = xs} b m) h k = (Above-merge y m (Less-from_below y x b, Above-trans y x xs b h.0) k.0, Rises-merge m h k.1)
Rises-merge (from_both {x = x} m) h k = (Above-merge x m h.0 k.0, Rises-merge m h.1 k.1)

-- a merged list has what stands in either
pub In-to_merge : {xs ys zs : List ℕ} (t : ℕ) → IsMerge xs ys zs → In t xs ⊎ In t ys → In t zs
In-to_merge t no_left (inr h) = h
In-to_merge t no_left (inl h) = absurd h
In-to_merge t no_right (inl h) = h
In-to_merge t no_right (inr h) = absurd h
In-to_merge t (from_left b m) (inl (inl e)) = inl e
In-to_merge t (from_left b m) (inl (inr h)) = inr (In-to_merge t m (inl h))
In-to_merge t (from_left b m) (inr h) = inr (In-to_merge t m (inr h))
In-to_merge t (from_right b m) (inl h) = inr (In-to_merge t m (inl h))
In-to_merge t (from_right b m) (inr (inl e)) = inl e
In-to_merge t (from_right b m) (inr (inr h)) = inr (In-to_merge t m (inr h))
In-to_merge t (from_both m) (inl (inl e)) = inl e
In-to_merge t (from_both m) (inl (inr h)) = inr (In-to_merge t m (inl h))
In-to_merge t (from_both m) (inr (inl e)) = inl e
In-to_merge t (from_both m) (inr (inr h)) = inr (In-to_merge t m (inr h))

-- what a merge of two lists gives
pub record IsUnion (xs ys zs : List ℕ) : Type 0 where
  pub rises : Rises zs
  pub same : SameIds zs (xs ++ ys)

pub IsUnion-merge : (xs ys zs : List ℕ) → Rises xs → Rises ys → IsMerge xs ys zs → IsUnion xs ys zs
IsUnion-merge xs ys zs h k m = record { rises = Rises-merge m h k; same = record { to = λ t u. to t (In-merge t m u); from = λ t u. In-to_merge t m (in_append_either t xs ys u) } }
  where
    to : (t : ℕ) → In t xs ⊎ In t ys → In t (xs ++ ys)
    to t (inl u) = in_append_left t xs ys u
    to t (inr u) = in_append_right t xs ys u

-- ---- the loop

-- what is merged so far, before the rest of both lists merged, is both lists merged
pub record IsMerging (a b both : List ℕ) (i j : ℕ) : Type 0 where
  pub in_left : i ≤ length a
  pub in_right : j ≤ length b
  pub rest : (c : List ℕ) → IsMerge (drop i a) (drop j b) c → IsMerge a b (both ++ c)

drop_at : (xs : List ℕ) (i x : ℕ) → i < length xs → x ≡ get_or xs i x → drop i xs ≡ x ∷ drop (i + 1) xs
drop_at xs i x h e = rw add-one (drop-cons xs i x h ∙ ap (λ (y : ℕ). y ∷ drop (suc i) xs) (sym e))

module _ (a b both : List ℕ) (i j x y : ℕ) (h : IsMerging a b both i j) (in_a : i < length a) (in_b : j < length b) (at_a : x ≡ get_or a i x) (at_b : y ≡ get_or b j y) where
  left_is : drop i a ≡ x ∷ drop (i + 1) a
  left_is = drop_at a i x in_a at_a

  right_is : drop j b ≡ y ∷ drop (j + 1) b
  right_is = drop_at b j y in_b at_b

  pub merging_left : x < y → IsMerging a b (both ++ x ∷ []) (i + 1) j
  merging_left lt = record { in_left = omega arith; in_right = h.in_right; rest = λ c m. rw append_assoc (h.rest (x ∷ c) (step c m)) }
    where
      step : (c : List ℕ) → IsMerge (drop (i + 1) a) (drop j b) c → IsMerge (drop i a) (drop j b) (x ∷ c)
      step c m = rw (left_is, right_is) (from_left lt (subst (λ (l : List ℕ). IsMerge (drop (i + 1) a) l c) right_is m))

  pub merging_right : y < x → IsMerging a b (both ++ y ∷ []) i (j + 1)
  merging_right lt = record { in_left = h.in_left; in_right = omega arith; rest = λ c m. rw append_assoc (h.rest (y ∷ c) (step c m)) }
    where
      step : (c : List ℕ) → IsMerge (drop i a) (drop (j + 1) b) c → IsMerge (drop i a) (drop j b) (y ∷ c)
      step c m = rw (left_is, right_is) (from_right lt (subst (λ (l : List ℕ). IsMerge l (drop (j + 1) b) c) left_is m))

  pub merging_both : x ≡ y → IsMerging a b (both ++ x ∷ []) (i + 1) (j + 1)
  merging_both e = record { in_left = omega arith; in_right = omega arith; rest = λ c m. rw append_assoc (h.rest (x ∷ c) (step c m)) }
    where
      step : (c : List ℕ) → IsMerge (drop (i + 1) a) (drop (j + 1) b) c → IsMerge (drop i a) (drop j b) (x ∷ c)
      step c m = rw (left_is, right_is, ← e) (from_both m)

-- the rest of a list, as a slice gives it
rest_is : (xs : List ℕ) (i : ℕ) → take (length xs - i) (drop i xs) ≡ drop i xs
rest_is xs i = let fits : length (drop i xs) ≤ length xs - i = omega (arith, length-drop i xs) in take_all (length xs - i) (drop i xs) fits

-- the rest of both lists, of which one is empty
pub merged : (a b both : List ℕ) (i j : ℕ) → IsMerging a b both i j → (length a ≤ i) ⊎ (length b ≤ j) → IsMerge a b ((both ++ take (length a - i) (drop i a)) ++ take (length b - j) (drop j b))
merged a b both i j h past = rw (rest_is a i, rest_is b j) (by past)
  where
    by : (length a ≤ i) ⊎ (length b ≤ j) → IsMerge a b ((both ++ drop i a) ++ drop j b)
    by (inl end) = rw (drop_all i a end, append-nil) (h.rest (drop j b) (rw (drop_all i a end) no_left))
    by (inr end) = rw (drop_all j b end, append-nil) (h.rest (drop i a) (rw (drop_all j b end) no_right))
