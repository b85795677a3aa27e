-- Lists without repeats, from the words of a set.
use Rattle.std.proofs.Common.{◌≡◌, ℕ, ◌<◌, ◌≤◌, ◌⊎◌, List, get_or, slice_get, Some, None, true, false, Bool, sym, ap, ◌∙◌, subst, inl, inr, true≢false, arith, is_some, MatchOption, Option, position, cond, [], ◌∷◌, ◌++◌}
use Rattle.std.specs.List.{IsDistinct, list_any}
use Rattle.std.specs.Cmp.{IsEquivalence}
use Rattle.std.proofs.lemmas.Bool.{cases_lt}
use Rattle.std.proofs.lemmas.Option.{get_or_from_slice_get, slice_get_within, slice_get-get_or}
use Rattle.std.proofs.lemmas.Map.Keys.{apart_from_distinct, any_passes_from_place}
use Rattle.std.proofs.lemmas.List.Quantifiers.{position-Some}
use Rattle.hol_types.specs.Once.{Once, Absent, IsAdded, kept, pushed}
use Rattle.indexmap.specs.IndexSet.{insert_key}

module _ {A : Type 0} (eq : A → A → Bool) (laws : IsEquivalence eq) where
  -- two places of equal items of a set aren't one below the other
  not_below : (xs : List A) → IsDistinct eq xs → (i j : ℕ) (x : A) → slice_get xs i ≡ Some x → slice_get xs j ≡ Some x → i < j → ⊥
  not_below xs d i j x at_i at_j below =
      let apart = apart_from_distinct eq xs i j x d below (slice_get_within xs j x at_j) in
      let here = get_or_from_slice_get xs i x x at_i in
      let there = get_or_from_slice_get xs j x x at_j in
      true≢false (sym (laws.refl x) ∙ ap (λ y. eq x y) (sym there) ∙ ap (λ y. eq y (get_or xs j x)) (sym here) ∙ apart)

  -- a set has each item once
  pub Once-from_distinct : (xs : List A) → IsDistinct eq xs → Once xs
  Once-from_distinct xs d i j x at_i at_j = by (cases_lt i j) (cases_lt j i)
    where
      by : (i < j) ⊎ (j ≤ i) → (j < i) ⊎ (i ≤ j) → i ≡ j
      by (inl h) k = absurd (not_below xs d i j x at_i at_j h)
      by (inr h) (inl k) = absurd (not_below xs d j i x at_j at_i k)
      by (inr h) (inr k) = omega arith

  -- what isn't found is absent
  pub Absent-from_any : (xs : List A) (x : A) → list_any (eq x) xs ≡ false → Absent xs x
  Absent-from_any xs x none i at = true≢false (sym (any_passes_from_place (eq x) xs i x at (laws.refl x)) ∙ none)

  -- what is found stands there
  pub found_at : ((x y : A) → eq x y ≡ true → x ≡ y) → (xs : List A) (x : A) (i : ℕ) → position (eq x) xs ≡ Some i → slice_get xs i ≡ Some x
  found_at exact xs x i e =
      let p = position-Some (eq x) xs i x e in
      slice_get-get_or xs i x p.0 ∙ ap Some (sym (exact x (get_or xs i x) p.1))

  -- what a look-up answers
  pub looked_up : ((x y : A) → eq x y ≡ true → x ≡ y) → (xs : List A) (x : A) (r : Option ℕ) → r ≡ position (eq x) xs → is_some r ≡ list_any (eq x) xs → MatchOption r (Absent xs x) (λ i. slice_get xs i ≡ Some x)
  looked_up exact xs x None e f = Absent-from_any xs x (sym f)
  looked_up exact xs x (Some i) e f = found_at exact xs x i (sym e)

  -- what an insertion leaves
  pub inserted : ((x y : A) → eq x y ≡ true → x ≡ y) → (xs ys : List A) (x : A) → ys ≡ insert_key eq xs x → IsAdded x xs ys
  inserted exact xs ys x e = subst (λ l. IsAdded x xs l) (sym e) (by (list_any (eq x) xs))
    where
      by : (b : Bool) → IsAdded x xs (cond b xs (xs ++ x ∷ []))
      by true = kept
      by false = pushed
