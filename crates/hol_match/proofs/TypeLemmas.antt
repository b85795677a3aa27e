-- Types of two stores, compared.
use Rattle.std.proofs.Common.{◌≡◌, ℕ, zero, suc, ◌+◌, ◌<◌, ◌↔◌, List, [], ◌∷◌, length, get_or, Some, Bool as Truth, true, false, refl, sym, ap, ap₂, ◌∙◌, subst, arith, nat_eq, cond, true≢false}
use Rattle.std.specs.Prelude.{IsTrue}
use Rattle.std.specs.HashMap.{get_by}
use Rattle.std.proofs.Math.Dec.{eqb}
use Rattle.std.proofs.lemmas.Bool.{eq-eqb}
use Rattle.std.proofs.lemmas.Option.{same_Some, slice_get-get_or}
use Rattle.hol_types.specs.Ty.{Ty, ConsTy, more_types}
use Rattle.hol_types.specs.TypeStore.{TypeStore, HasType, TreesApart, type_tree, trees_at}
use Rattle.hol_types.proofs.TypeLemmas.{eqb_sound, eqb_complete}
use Rattle.hol_terms.proofs.MemoLemmas.{result_put}
use Rattle.hol_match.specs.Matching.{Known, IsSameType, AllSame, FirstSame}

-- ---- what is known

pub known_type : (p s : TypeStore) → TreesApart s → (a u t : ℕ) → IsSameType p s a u → HasType s t → IsTrue (eqb u t) ↔ (type_tree p a ≡ type_tree s t)
known_type p s apart a u t known has_t = (λ e. known.is ∙ ap (λ x. type_tree s x) (eqb_sound u t e), λ e. eq-eqb u t (apart u t known.type has_t (sym known.is ∙ e)))

pub same_put : (p s : TypeStore) (m n : Known) (a t : ℕ) → AllSame p s m → ((q : ℕ) → get_by (nat_eq q) n ≡ cond (nat_eq a q) (Some t) (get_by (nat_eq q) m)) → HasType p a → HasType s t → type_tree p a ≡ type_tree s t → AllSame p s n
same_put p s m n a t old puts has_a has_t e = record { each = result_put nat_eq eqb_sound (λ b u. IsSameType p s b u) m n a t old.each puts (record { pattern = has_a; type = has_t; is = e }) }

-- ---- lists of types

pub first_none : (p s : TypeStore) (ps ts : List ℕ) → FirstSame p s ps ts 0
first_none p s ps ts = record { each = λ i h. absurd (omega arith) }

pub first_more : (p s : TypeStore) (ps ts : List ℕ) (k : ℕ) → FirstSame p s ps ts k → type_tree p (get_or ps k 0) ≡ type_tree s (get_or ts k 0) → FirstSame p s ps ts (k + 1)
first_more p s ps ts k first here = record { each = λ i below. split_at i (eqb i k) refl below }
  where
    split_at : (i : ℕ) (b : Truth) → eqb i k ≡ b → i < k + 1 → type_tree p (get_or ps i 0) ≡ type_tree s (get_or ts i 0)
    split_at i true e below = subst (λ j. type_tree p (get_or ps j 0) ≡ type_tree s (get_or ts j 0)) (sym (eqb_sound i k e)) here
    split_at i false e below = let differ : i ≡ k → ⊥ = eqb_complete i k e in first.each i (omega arith)

pub all_same : (p s : TypeStore) (ps ts : List ℕ) → length ps ≡ length ts → FirstSame p s ps ts (length ps) → trees_at p ps ≡ trees_at s ts
all_same p s [] [] e m = refl
all_same p s [] (t ∷ ts) e m = absurd (omega arith)
all_same p s (a ∷ ps) [] e m = absurd (omega arith)
all_same p s (a ∷ ps) (t ∷ ts) e m =
    let first : type_tree p a ≡ type_tree s t = m.each 0 (omega arith) in
    let tail : FirstSame p s ps ts (length ps) = record { each = λ i h. m.each (suc i) (omega arith) } in
    ap₂ more_types first (all_same p s ps ts (omega arith) tail)

-- lists with the same trees have the same types at each place
pub each_same : (p s : TypeStore) (ps ts : List ℕ) → trees_at p ps ≡ trees_at s ts → (i : ℕ) → i < length ps → type_tree p (get_or ps i 0) ≡ type_tree s (get_or ts i 0)
each_same p s [] ts e i below = absurd (omega arith)
each_same p s (a ∷ ps) [] e i below = cc
each_same p s (a ∷ ps) (t ∷ ts) e zero below = cc
each_same p s (a ∷ ps) (t ∷ ts) e (suc i) below = let rest : trees_at p ps ≡ trees_at s ts = cc in each_same p s ps ts rest i (omega arith)

-- lists with the same trees have one length
pub trees_length : (p s : TypeStore) (ps ts : List ℕ) → trees_at p ps ≡ trees_at s ts → length ps ≡ length ts
trees_length p s [] [] e = refl
trees_length p s [] (t ∷ ts) e = cc
trees_length p s (a ∷ ps) [] e = cc
trees_length p s (a ∷ ps) (t ∷ ts) e = let rest : trees_at p ps ≡ trees_at s ts = cc in ap suc (trees_length p s ps ts rest)

-- where the first types are the same, and the next ones aren't
pub not_all_same : (p s : TypeStore) (ps ts : List ℕ) (k : ℕ) → k < length ps → (type_tree p (get_or ps k 0) ≡ type_tree s (get_or ts k 0) → ⊥) → IsTrue false ↔ (trees_at p ps ≡ trees_at s ts)
not_all_same p s ps ts k below other = ((λ h. absurd (true≢false (sym h))), (λ e. absurd (other (each_same p s ps ts e k below))))

-- an item within a list is the same whatever stands for those past its end
get_or_any : (xs : List ℕ) (i d e : ℕ) → i < length xs → get_or xs i d ≡ get_or xs i e
get_or_any xs i d e below = same_Some (get_or xs i d) (get_or xs i e) (sym (slice_get-get_or xs i d below) ∙ slice_get-get_or xs i e below)

module _ (p s : TypeStore) (ps ts : List ℕ) (k a t : ℕ) (below : k < length ps) (count : length ps ≡ length ts) (at_a : a ≡ get_or ps k a) (at_t : t ≡ get_or ts k t) where
  this_a : get_or ps k 0 ≡ a
  this_a = get_or_any ps k 0 a below ∙ sym at_a

  this_t : get_or ts k 0 ≡ t
  this_t = get_or_any ts k 0 t (omega arith) ∙ sym at_t

  -- the next types are the same
  pub next_same : FirstSame p s ps ts k → type_tree p a ≡ type_tree s t → FirstSame p s ps ts (k + 1)
  next_same first here = first_more p s ps ts k first (ap (λ x. type_tree p x) this_a ∙ here ∙ ap (λ x. type_tree s x) (sym this_t))

  -- the next types differ
  pub next_differs : (type_tree p a ≡ type_tree s t → ⊥) → IsTrue false ↔ (trees_at p ps ≡ trees_at s ts)
  next_differs other = not_all_same p s ps ts k below (λ e. other (sym (ap (λ x. type_tree p x) this_a) ∙ e ∙ ap (λ x. type_tree s x) this_t))

-- constructors with other numbers of arguments
pub count_differs : (p s : TypeStore) (a t : Ty) (n m : List ℕ) (ps ts : List ℕ) → a ≡ ConsTy n (trees_at p ps) → t ≡ ConsTy m (trees_at s ts) → (length ps ≡ length ts → ⊥) → IsTrue false ↔ (a ≡ t)
count_differs p s a t n m ps ts is_a is_t other =
    ((λ h. absurd (true≢false (sym h))), (λ e. let both : ConsTy n (trees_at p ps) ≡ ConsTy m (trees_at s ts) = sym is_a ∙ e ∙ is_t in let rest : trees_at p ps ≡ trees_at s ts = cc in absurd (other (trees_length p s ps ts rest))))
