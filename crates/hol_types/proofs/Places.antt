-- What stands where in lists that are joined.
use Rattle.std.proofs.Common.{◌≡◌, ℕ, zero, suc, ◌+◌, ◌≤◌, ◌⊎◌, List, [], ◌∷◌, ◌++◌, length, slice_get, Some, refl, sym, ap, ◌∙◌, subst, inl, inr, arith, append_assoc}
use Rattle.std.proofs.lemmas.Option.{slice_get_within, none-some, same_Some}
use Rattle.hol_types.specs.Once.{Once, Absent, Holds, IsAdded, kept, pushed}

module _ {A : Type 0} where
  -- an item stays where more are joined
  pub slice_get-left : (xs ys : List A) (i : ℕ) (x : A) → slice_get xs i ≡ Some x → slice_get (xs ++ ys) i ≡ Some x
  slice_get-left [] ys i x h = absurd (none-some x h)
  slice_get-left (y ∷ xs) ys zero x h = h
  slice_get-left (y ∷ xs) ys (suc i) x h = slice_get-left xs ys i x h

  -- an item of the second list stands past the first
  pub slice_get-right : (xs ys : List A) (i : ℕ) (x : A) → slice_get ys i ≡ Some x → slice_get (xs ++ ys) (length xs + i) ≡ Some x
  slice_get-right [] ys i x h = let e : 0 + i ≡ i = omega arith in rw e h
  slice_get-right (y ∷ xs) ys i x h =
      let e : suc (length xs) + i ≡ suc (length xs + i) = omega arith in
      rw e (slice_get-right xs ys i x h)

  -- an item stands in the one or in the other
  pub slice_get-either : (xs ys : List A) (i : ℕ) (x : A) → slice_get (xs ++ ys) i ≡ Some x → (slice_get xs i ≡ Some x) ⊎ ((j : ℕ) × (i ≡ length xs + j) × (slice_get ys j ≡ Some x))
  slice_get-either [] ys i x h = inr (i, omega arith, h)
  slice_get-either (y ∷ xs) ys zero x h = inl h
  slice_get-either (y ∷ xs) ys (suc i) x h = by (slice_get-either xs ys i x h)
    where
      by : (slice_get xs i ≡ Some x) ⊎ ((j : ℕ) × (i ≡ length xs + j) × (slice_get ys j ≡ Some x)) → (slice_get xs i ≡ Some x) ⊎ ((j : ℕ) × (suc i ≡ suc (length xs) + j) × (slice_get ys j ≡ Some x))
      by (inl k) = inl k
      by (inr k) = inr (k.0, omega (arith, k.1), k.2)

  -- an item of one list stands in it
  pub slice_get-one : (y : A) (i : ℕ) (x : A) → slice_get (y ∷ []) i ≡ Some x → (i ≡ 0) × (y ≡ x)
  slice_get-one y zero x h = (refl, same_Some y x h)
  slice_get-one y (suc i) x h = absurd (none-some x h)

  pub slice_get-push : (xs : List A) (y : A) (i : ℕ) (x : A) → slice_get (xs ++ y ∷ []) i ≡ Some x → (slice_get xs i ≡ Some x) ⊎ ((i ≡ length xs) × (y ≡ x))
  slice_get-push xs y i x h = by (slice_get-either xs (y ∷ []) i x h)
    where
      by : (slice_get xs i ≡ Some x) ⊎ ((j : ℕ) × (i ≡ length xs + j) × (slice_get (y ∷ []) j ≡ Some x)) → (slice_get xs i ≡ Some x) ⊎ ((i ≡ length xs) × (y ≡ x))
      by (inl k) = inl k
      by (inr k) = let p = slice_get-one y k.0 x k.2 in inr (omega (arith, k.1, p.0), p.1)

  pub slice_get-last : (xs : List A) (y : A) → slice_get (xs ++ y ∷ []) (length xs) ≡ Some y
  slice_get-last [] y = refl
  slice_get-last (x ∷ xs) y = slice_get-last xs y

  pub Absent-join : (xs ys : List A) (x : A) → Absent xs x → Absent ys x → Absent (xs ++ ys) x
  Absent-join xs ys x no_left no_right i h = by (slice_get-either xs ys i x h)
    where
      by : (slice_get xs i ≡ Some x) ⊎ ((j : ℕ) × (i ≡ length xs + j) × (slice_get ys j ≡ Some x)) → ⊥
      by (inl k) = no_left i k
      by (inr k) = no_right k.0 k.2

  pub Once-push : (xs : List A) (y : A) → Once xs → Absent xs y → Once (xs ++ y ∷ [])
  Once-push xs y once absent i j x at_i at_j = by (slice_get-push xs y i x at_i) (slice_get-push xs y j x at_j)
    where
      by : (slice_get xs i ≡ Some x) ⊎ ((i ≡ length xs) × (y ≡ x)) → (slice_get xs j ≡ Some x) ⊎ ((j ≡ length xs) × (y ≡ x)) → i ≡ j
      by (inl h) (inl k) = once i j x h k
      by (inl h) (inr k) = absurd (absent i (h ∙ ap Some (sym k.1)))
      by (inr h) (inl k) = absurd (absent j (k ∙ ap Some (sym h.1)))
      by (inr h) (inr k) = h.0 ∙ sym k.0

  pub Absent-right : (xs ys : List A) (x : A) → Absent (xs ++ ys) x → Absent ys x
  Absent-right xs ys x absent i h = absent (length xs + i) (slice_get-right xs ys i x h)

  -- what is pushed to the second list comes last
  pub push_at : (xs ys zs : List A) (y : A) (n : ℕ) → zs ≡ ys ++ y ∷ [] → n ≡ length xs + length ys → slice_get (xs ++ zs) n ≡ Some y
  push_at xs ys zs y n e f = rw (f, e) (slice_get-right xs (ys ++ y ∷ []) (length ys) y (slice_get-last ys y))

  pub Once-push_right : (xs ys zs : List A) (y : A) → zs ≡ ys ++ y ∷ [] → Once (xs ++ ys) → Absent (xs ++ ys) y → Once (xs ++ zs)
  Once-push_right xs ys zs y e once absent =
      let f : xs ++ zs ≡ (xs ++ ys) ++ y ∷ [] = rw e (sym append_assoc_at) in
      subst (λ l. Once l) (sym f) (Once-push (xs ++ ys) y once absent)
    where
      append_assoc_at : (xs ++ ys) ++ y ∷ [] ≡ xs ++ (ys ++ y ∷ [])
      append_assoc_at = simp append_assoc

  pub IsAdded-same : (x : A) (xs ys : List A) → ys ≡ xs → IsAdded x xs ys
  IsAdded-same x xs ys e = subst (λ l. IsAdded x xs l) (sym e) kept

  pub IsAdded-push : (x : A) (base xs ys : List A) → ys ≡ xs ++ x ∷ [] → IsAdded x (base ++ xs) (base ++ ys)
  IsAdded-push x base xs ys e =
      let f : (base ++ xs) ++ x ∷ [] ≡ base ++ ys = simp append_assoc (sym (ap (λ l. base ++ l) e)) in
      subst (λ l. IsAdded x (base ++ xs) l) f pushed

  -- nothing is lost
  pub IsAdded-holds : (x : A) (xs ys : List A) → IsAdded x xs ys → Holds xs ys
  IsAdded-holds x xs ys kept i y h = h
  IsAdded-holds x xs ys pushed i y h = slice_get-left xs (x ∷ []) i y h

  -- what is new comes last
  pub IsAdded-either : (x : A) (xs ys : List A) → IsAdded x xs ys → (i : ℕ) (y : A) → slice_get ys i ≡ Some y → (slice_get xs i ≡ Some y) ⊎ ((i ≡ length xs) × (x ≡ y))
  IsAdded-either x xs ys kept i y h = inl h
  IsAdded-either x xs ys pushed i y h = slice_get-push xs x i y h

  -- an item that was added stands no further than past the others
  pub added_within : (x : A) (xs ys : List A) → IsAdded x xs ys → (i : ℕ) (y : A) → slice_get ys i ≡ Some y → i ≤ length xs
  added_within x xs ys added i y at = by (IsAdded-either x xs ys added i y at)
    where
      by : (slice_get xs i ≡ Some y) ⊎ ((i ≡ length xs) × (x ≡ y)) → i ≤ length xs
      by (inl h) = let below = slice_get_within xs i y h in omega arith
      by (inr h) = omega (arith, h.0)

  -- an item put last to a list without repeats wasn't in it
  Absent-from_once : (x : A) (xs : List A) → Once (xs ++ x ∷ []) → Absent xs x
  Absent-from_once x xs once i h =
      let below = slice_get_within xs i x h in
      let same = once i (length xs) x (slice_get-left xs (x ∷ []) i x h) (slice_get-last xs x) in
      omega arith

  -- what is added to the second of two lists is added to both
  pub IsAdded-right : (x : A) (base xs ys : List A) → IsAdded x xs ys → IsAdded x (base ++ xs) (base ++ ys)
  IsAdded-right x base xs ys kept = kept
  IsAdded-right x base xs ys pushed = IsAdded-push x base xs (xs ++ x ∷ []) refl

  pub Once-added_right : (x : A) (base xs ys : List A) → IsAdded x xs ys → Once (base ++ xs) → Once ys → Absent base x → Once (base ++ ys)
  Once-added_right x base xs ys kept once _ absent = once
  Once-added_right x base xs ys pushed once last absent = Once-push_right base xs (xs ++ x ∷ []) x refl once (Absent-join base xs x absent (Absent-from_once x xs last))
