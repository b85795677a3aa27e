-- What holds of each item of a list that grows, or is put in order.
use Rattle.std.proofs.Common.{◌≡◌, sym, subst, ℕ, zero, suc, ◌<◌, ◌≤◌, List, [], ◌∷◌, ◌++◌, length, get_or, arith}
use Rattle.std.specs.List.{All, AllByRecursion}
use Rattle.std.specs.List.Sorted.{IsPermutation}
use Rattle.std.proofs.lemmas.List.Sorted.{All-permutation}
use Rattle.hol_types.specs.Once.{IsAdded, kept, pushed}

pub all_append : {A : Type 0} (P : A → Type 0) (xs ys : List A) → AllByRecursion P xs → AllByRecursion P ys → AllByRecursion P (xs ++ ys)
all_append P [] ys a b = b
all_append P (x ∷ xs) ys a b = (a.0, all_append P xs ys a.1 b)

pub all_added : {A : Type 0} (P : A → Type 0) (x : A) (xs ys : List A) → IsAdded x xs ys → P x → AllByRecursion P xs → AllByRecursion P ys
all_added P x xs _ kept h all = all
all_added P x xs _ pushed h all = all_append P xs (x ∷ []) all (h, tt)

pub item_of : {A : Type 0} (P : A → Type 0) (xs : List A) → AllByRecursion P xs → (i : ℕ) (d : A) → i < length xs → P (get_or xs i d)
item_of P [] all i d below = absurd (omega arith)
item_of P (x ∷ xs) all zero d below = all.0
item_of P (x ∷ xs) all (suc i) d below = item_of P xs all.1 i d (omega arith)

all_from : {A : Type 0} (P : A → Type 0) (xs : List A) → All P xs → AllByRecursion P xs
all_from P [] all = tt
all_from P (x ∷ xs) all = (all 0 x (omega arith), all_from P xs (λ k d below. all (suc k) d (omega arith)))

pub all_permuted : {A : Type 0} (P : A → Type 0) (xs ys : List A) → IsPermutation xs ys → AllByRecursion P xs → AllByRecursion P ys
all_permuted P xs ys same all = all_from P ys (All-permutation P xs ys same (λ k d below. item_of P xs all k d below))

pub all_less : (a b : ℕ) → a ≤ b → (xs : List ℕ) → AllByRecursion (λ t. t < a) xs → AllByRecursion (λ t. t < b) xs
all_less a b l [] h = tt
all_less a b l (x ∷ xs) h = (omega (arith, l, h.0), all_less a b l xs h.1)

-- an item of a list is one of an equal list
pub item_there : {A : Type 0} (P : A → Type 0) (xs ys : List A) → ys ≡ xs → AllByRecursion P xs → (i : ℕ) (x : A) → i < length ys → x ≡ get_or ys i x → P x
item_there P xs ys e all i x below is = subst P (sym is) (item_of P ys (subst (λ l. AllByRecursion P l) (sym e) all) i x below)
