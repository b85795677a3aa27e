-- What is left where the later items are taken away.
use Rattle.std.proofs.Common.{◌≡◌, ℕ, zero, suc, ◌+◌, ◌-◌, ◌≤◌, List, [], ◌∷◌, ◌++◌, length, take, refl, sym, ap, ◌∙◌, arith}
use Rattle.std.proofs.Math.Seq.{take-append-add}
use Rattle.std.proofs.lemmas.List.{length-take, length-take-le}
use Rattle.std.proofs.lemmas.Option.{same_Some, none-some}
use Rattle.hol_types.specs.Once.{Holds}
use Rattle.hol_types.specs.TypeStore.{TypeStore, Grows}
use Rattle.hol_types.specs.TypeMark.{mark_of, cut, FitsMark}
use Rattle.hol_types.specs.declared.tables.TypeMark.{TypeMark as Mark}

module _ {A : Type 0} where
  pub cut_part : (xs ys zs : List A) (m n : ℕ) → n ≡ length xs → length xs ≤ m → zs ≡ take (m - n) ys → xs ++ zs ≡ take m (xs ++ ys)
  cut_part xs ys zs m n e below f =
      let g : length xs + (m - length xs) ≡ m = omega arith in
      rw (f, e) (sym (take-append-add xs ys (m - length xs)) ∙ ap (λ k. take k (xs ++ ys)) g)

  -- the items up to a number are those of before
  pub back_part : (old new : List A) → Holds old new → (n : ℕ) → n ≤ length old → take n new ≡ take n old
  back_part old new h zero below = refl
  back_part [] new h (suc n) below = absurd (omega arith)
  back_part (x ∷ old) [] h (suc n) below = absurd (none-some x (h zero x refl))
  back_part (x ∷ old) (y ∷ new) h (suc n) below =
      let e = same_Some y x (h zero x refl) in
      let r = back_part old new (λ i z k. h (suc i) z k) n (omega arith) in
      cc

-- all of a list's items are the list
all_of : {A : Type 0} (xs : List A) → take (length xs) xs ≡ xs
all_of [] = refl
all_of (x ∷ xs) = ap (λ l. x ∷ l) (all_of xs)

-- at its own mark a store holds all that it holds
pub cut_whole : (s : TypeStore) → cut (mark_of s) s ≡ s
cut_whole s =
    let names = all_of s.names in
    let arities = all_of s.arities in
    let nodes = all_of s.nodes in
    λ i. record { names = names i; arities = arities i; nodes = nodes i }

pub fits_whole : (s : TypeStore) → FitsMark (mark_of s) s
fits_whole s = record { names = omega arith; arities = omega arith; nodes = omega arith }

-- what was held at a mark is held there still
pub cut_back : (s u : TypeStore) → Grows s u → (m : Mark) → FitsMark m s → cut m u ≡ cut m s
cut_back s u grows m fits =
    let names = back_part s.names u.names grows.names m.names fits.names in
    let arities = back_part s.arities u.arities grows.arities m.arities fits.arities in
    let nodes = back_part s.nodes u.nodes grows.nodes m.nodes fits.nodes in
    λ i. record { names = names i; arities = arities i; nodes = nodes i }

-- a list whose first items are those of another has them
same_front : {A : Type 0} (old new : List A) (n : ℕ) → n ≤ length old → take n new ≡ take n old → n ≤ length new
same_front old new n fits e = omega (arith, length-take n new, ap (λ l. length l) e, length-take-le n old fits)

pub fits_kept : (s u : TypeStore) (m : Mark) → FitsMark m s → cut m u ≡ cut m s → FitsMark m u
fits_kept s u m fits e = record {
  names = same_front s.names u.names m.names fits.names (ap (λ v. v.names) e);
  arities = same_front s.arities u.arities m.arities fits.arities (ap (λ v. v.arities) e);
  nodes = same_front s.nodes u.nodes m.nodes fits.nodes (ap (λ v. v.nodes) e);
}
