-- The innermost variable of each name, while variables are bound and leave.
use Rattle.std.proofs.Common.{◌≡◌, ℕ, ◌+◌, ◌-◌, ◌<◌, ◌^◌, List, [], ◌∷◌, ◌++◌, Option, Some, None, Bool, true, false, if◌then◌else◌, map, length, length-append, reverse, refl, sym, ap, subst, ◌∙◌, arith}
use Rattle.std.specs.Prelude.{bytes_eq, option_map}
use Rattle.std.specs.Map.{lookup}
use Rattle.std.proofs.lemmas.List.{reverse-append}
use Rattle.std.proofs.lemmas.List.{length-reverse}
use Rattle.std.proofs.lemmas.Option.{none-some, same_Some}
use Rattle.std.proofs.lemmas.Slice.Eq.{bytes_eq-Decides}
use Rattle.goal_text.specs.declared.binders.Bound.{Bound}
use Rattle.goal_text.specs.declared.binders.Spot.{Spot}
use Rattle.goal_text.specs.Hiding.{bound_in, one_further, innermost, spot_of, Hide, IsNewest, newest_by}

pub spot_below : (bs : List Bound) (name : List ℕ) (s : Spot) → spot_of bs name ≡ Some s → s.place < length bs
unfolding spot_of
spot_below [] name s h = absurd (none-some s h)
spot_below (b ∷ bs) name s h = by (bytes_eq name b.name.items) refl (λ k. spot_below bs name s k)
  where
    by : (t : Bool) → bytes_eq name b.name.items ≡ t → (spot_of bs name ≡ Some s → s.place < length bs) → s.place < length (b ∷ bs)
    by true e r =
        let here : spot_of (b ∷ bs) name ≡ Some (record { place = length bs; ty = b.ty }) = rw e refl in
        let same = same_Some _ _ (sym here ∙ h) in
        let P : Spot → Type 0 = λ x. x.place < length (b ∷ bs) in
        subst P same (omega arith)
    by false e r =
        let outer : spot_of (b ∷ bs) name ≡ spot_of bs name = rw e refl in
        let later = r (sym outer ∙ h) in
        omega (arith, later)

-- how many variables stand within a spot
abbrev pub within : ℕ → Option Spot → Option (ℕ × ℕ)
within n spot = option_map (λ s. (n - 1 - s.place, s.ty)) spot

pub innermost_found : (bs : List Bound) (name : List ℕ) → innermost (map bound_in bs) name ≡ within (length bs) (spot_of bs name)
unfolding innermost spot_of
innermost_found [] name = refl
innermost_found (b ∷ bs) name = by (bytes_eq name b.name.items) refl (innermost_found bs name)
  where
    further : (o : Option Spot) → spot_of bs name ≡ o → one_further (within (length bs) (spot_of bs name)) ≡ within (length (b ∷ bs)) (spot_of bs name)
    further None e = rw e refl
    further (Some s) e =
        let below = spot_below bs name s e in
        let count : length bs - 1 - s.place + 1 ≡ length (b ∷ bs) - 1 - s.place = omega (arith, below) in
        rw e (ap (λ n. Some (n, s.ty)) count)

    by : (t : Bool) → bytes_eq name b.name.items ≡ t → innermost (map bound_in bs) name ≡ within (length bs) (spot_of bs name) → innermost (map bound_in (b ∷ bs)) name ≡ within (length (b ∷ bs)) (spot_of (b ∷ bs) name)
    by true e r =
        let count : 0 ≡ length (b ∷ bs) - 1 - length bs = omega arith in
        rw e (ap (λ n. Some (n, b.ty)) count)
    by false e r = rw e (ap one_further r ∙ further (spot_of bs name) refl)

-- a variable is bound
pub newest_bound : (old new : List (List ℕ × Option Spot)) (b : Bound) (bs : List Bound) → IsNewest old bs
    → ((name : List ℕ) → lookup (bytes_eq name) new ≡ (if bytes_eq name b.name.items then Some (Some (record { place = length bs; ty = b.ty })) else lookup (bytes_eq name) old))
    → IsNewest new (b ∷ bs)
unfolding spot_of
newest_bound old new b bs is set = λ name. by name (bytes_eq name b.name.items) refl
  where
    by : (name : List ℕ) (t : Bool) → bytes_eq name b.name.items ≡ t → newest_by (lookup (bytes_eq name) new) ≡ spot_of (b ∷ bs) name
    by name true e = ap newest_by (set name) ∙ rw e refl
    by name false e = ap newest_by (set name) ∙ rw e (is name)

-- the innermost variable leaves
pub newest_left : (old new : List (List ℕ × Option Spot)) (b : Bound) (bs : List Bound) → IsNewest old (b ∷ bs) → Hide (b ∷ bs)
    → ((name : List ℕ) → lookup (bytes_eq name) new ≡ (if bytes_eq name b.name.items then Some b.hidden else lookup (bytes_eq name) old))
    → IsNewest new bs
unfolding spot_of
newest_left old new b bs is hide set = λ name. by name (bytes_eq name b.name.items) refl
  where
    by : (name : List ℕ) (t : Bool) → bytes_eq name b.name.items ≡ t → newest_by (lookup (bytes_eq name) new) ≡ spot_of bs name
    by name true e = ap newest_by (set name) ∙ rw e (hide.0 ∙ ap (spot_of bs) (sym ((bytes_eq-Decides name b.name.items).0 e)))
    by name false e = ap newest_by (set name) ∙ rw e (is name ∙ rw e refl)

-- a variable that is bound has its name in the table
pub newest_there : (newest : List (List ℕ × Option Spot)) (b : Bound) (bs : List Bound) → IsNewest newest (b ∷ bs) → lookup (bytes_eq b.name.items) newest ≡ None → ⊥
unfolding spot_of
newest_there newest b bs is h =
    let same : bytes_eq b.name.items b.name.items ≡ true = (bytes_eq-Decides b.name.items b.name.items).1 refl in
    let found : newest_by (lookup (bytes_eq b.name.items) newest) ≡ Some (record { place = length bs; ty = b.ty }) = is b.name.items ∙ rw same refl in
    none-some _ (sym (ap newest_by h) ∙ found)

pub reversed : {X : Type 0} (xs : List X) (x : X) → reverse (xs ++ x ∷ []) ≡ x ∷ reverse xs
reversed xs x = reverse-append xs (x ∷ [])

module _ (xs : List Bound) (newest : List (List ℕ × Option Spot)) (name : List ℕ) (is : IsNewest newest (reverse xs)) (o : Option Spot) (found : o ≡ newest_by (lookup (bytes_eq name) newest)) where
  spot_found : spot_of (reverse xs) name ≡ o
  spot_found = sym (is name) ∙ sym found

  pub found_below : (s : Spot) → o ≡ Some s → s.place < length xs
  found_below s e =
      let below = spot_below (reverse xs) name s (spot_found ∙ e) in
      let same = length-reverse xs in
      omega (arith, below, same)

  pub found_within : (view : List (List ℕ × ℕ)) → map bound_in (reverse xs) ≡ view → innermost view name ≡ within (length xs) o
  found_within view v =
      ap (λ l. innermost l name) (sym v) ∙ innermost_found (reverse xs) name ∙ ap (within (length (reverse xs))) spot_found ∙ ap (λ n. within n o) (length-reverse xs)

pub none_bound : (xs : List Bound) (newest : List (List ℕ × Option Spot)) → xs ≡ [] → newest ≡ [] → IsNewest newest (reverse xs) × Hide (reverse xs) × (length xs < 2 ^ 32)
unfolding spot_of
none_bound xs newest h k = rw (h, k) ((λ name. refl), tt, omega arith)

-- what a table of bound variables keeps
abbrev pub Keeps : List (List ℕ × Option Spot) → List Bound → Type 0
Keeps newest xs = IsNewest newest (reverse xs) × Hide (reverse xs) × (length xs < 2 ^ 32)

pub left_there : (xs ys : List Bound) (b : Bound) (newest : List (List ℕ × Option Spot)) → xs ≡ ys ++ b ∷ [] → IsNewest newest (reverse xs) → lookup (bytes_eq b.name.items) newest ≡ None → ⊥
left_there xs ys b newest e is h =
    let P : List Bound → Type 0 = IsNewest newest in
    newest_there newest b (reverse ys) (subst P (ap reverse e ∙ reversed ys b) is) h

pub left_keeps : (xs ys : List Bound) (b : Bound) (old new : List (List ℕ × Option Spot)) → xs ≡ ys ++ b ∷ [] → Keeps old xs
    → ((name : List ℕ) → lookup (bytes_eq name) new ≡ (if bytes_eq name b.name.items then Some b.hidden else lookup (bytes_eq name) old))
    → Keeps new ys
left_keeps xs ys b old new e is set =
    let turned : reverse xs ≡ b ∷ reverse ys = ap reverse e ∙ reversed ys b in
    let P : List Bound → Type 0 = IsNewest old in
    let Q : List Bound → Type 0 = Hide in
    let newest : IsNewest old (b ∷ reverse ys) = subst P turned is.0 in
    let hide : Hide (b ∷ reverse ys) = subst Q turned is.1 in
    let count : length xs ≡ length ys + 1 = ap length e ∙ length-append ys (b ∷ []) in
    (newest_left old new b (reverse ys) newest hide set, hide.1, omega (arith, count, is.2))

pub bound_keeps : (xs ys : List Bound) (b : Bound) (old new : List (List ℕ × Option Spot)) (key : List ℕ) (place : ℕ) → ys ≡ xs ++ b ∷ [] → Keeps old xs → place ≡ length xs → place < 2 ^ 32 - 1 → key ≡ b.name.items
    → b.hidden ≡ newest_by (lookup (bytes_eq b.name.items) old)
    → ((name : List ℕ) → lookup (bytes_eq name) new ≡ (if bytes_eq name key then Some (Some (record { place = place; ty = b.ty })) else lookup (bytes_eq name) old))
    → Keeps new ys
bound_keeps xs ys b old new key place e is count small text hidden set =
    let turned : reverse ys ≡ b ∷ reverse xs = ap reverse e ∙ reversed xs b in
    let many : length ys ≡ length xs + 1 = ap length e ∙ length-append xs (b ∷ []) in
    let spot : place ≡ length (reverse xs) = count ∙ sym (length-reverse xs) in
    let P : List Bound → Type 0 = IsNewest new in
    let Q : List Bound → Type 0 = Hide in
    let newest : IsNewest new (b ∷ reverse xs) = newest_bound old new b (reverse xs) is.0 (λ name. set name ∙ rw (text, spot) refl) in
    (subst P (sym turned) newest, subst Q (sym turned) (hidden ∙ is.0 b.name.items, is.1), omega (arith, many, count, small))
