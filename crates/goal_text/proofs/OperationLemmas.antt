-- Operations on terms of their types.
use Rattle.std.proofs.Common.{◌≡◌, ℕ, zero, suc, ◌+◌, ◌<◌, ◌≤◌, List, [], ◌∷◌, ◌++◌, Bool, true, false, map, length, drop, get_or, refl, sym, ap, subst, ◌∙◌, append_assoc, arith}
use Rattle.std.specs.Prelude.{nat_eq}
use Rattle.std.proofs.lemmas.List.{drop_more}
use Rattle.std.proofs.lemmas.Option.{slice_get-get_or, get_or_from_slice_get}
use Rattle.hol_types.specs.Ty.{Ty, BoolTy, IntTy, FunTy}
use Rattle.hol_types.specs.TyEq.{ty_eq}
use Rattle.hol_types.specs.Exact.{both_true}
use Rattle.hol_types.specs.TypeStore.{TypeStore, HasType, TreesApart, tree_of, type_tree}
use Rattle.hol_types.specs.declared.node.TypeNode.{TypeNode}
use Rattle.hol_types.specs.declared.node.TypeNode.TheVariants as nodes
use Rattle.hol_types.proofs.TypeLemmas.{eqb_sound, eqb_complete}
use Rattle.hol_types.proofs.TyEqLemmas.{ty_eq_same, ty_eq_sound}
use Rattle.hol_terms.specs.Term.{Term, AppTm, ty_of, result_ty}
use Rattle.hol_terms.specs.Constants.{FunTy2, apply_two, conditional, conjunction, equation, negation}
use Rattle.hol_terms.specs.TermStore.{TermStore, Applies, HasTerm, Keeps, term_tree}
use Rattle.goal_text.specs.Operations.{to_the_right, to_the_left, neighbours, differs, differences, all_are, all_of, are_choice, are_alike, on_three}
use Rattle.goal_text.specs.Scope.{AreTerms, AreTyped, HasTyped, terms_at}
use Rattle.goal_text.proofs.ScopeLemmas.{terms_same}

applies_rest : (f a b : Ty) → f ≡ FunTy2 a b (result_ty (result_ty f)) → result_ty f ≡ FunTy b (result_ty (result_ty f))
applies_rest f a b h = rw h refl

-- what is applied to the first takes the second
pub applies_second : (s u : TermStore) (f a b g : ℕ) → Keeps s u → HasTerm s b → ty_of (term_tree s f) ≡ FunTy2 (ty_of (term_tree s a)) (ty_of (term_tree s b)) (result_ty (result_ty (ty_of (term_tree s f))))
    → term_tree u g ≡ AppTm (term_tree s f) (term_tree s a) → Applies u g b
applies_second s u f a b g k there h made = rw (made, k.trees b there) (applies_rest (ty_of (term_tree s f)) (ty_of (term_tree s a)) (ty_of (term_tree s b)) h)

-- ---- terms of one type

pub typed_kept : {s u : TermStore} {ty : Ty} {t : ℕ} → Keeps s u → HasTyped s ty t → HasTyped u ty t
typed_kept {t = t} k h = record { there = k.terms t h.there; type = ap ty_of (k.trees t h.there) ∙ h.type }

pub all_typed_kept : {s u : TermStore} (ty : Ty) (ts : List ℕ) → Keeps s u → AreTyped s ty ts → AreTyped u ty ts
all_typed_kept ty [] k all = tt
all_typed_kept ty (t ∷ ts) k all = (typed_kept k all.0, all_typed_kept ty ts k all.1)

pub typed_terms : (s : TermStore) (ty : Ty) (ts : List ℕ) → AreTyped s ty ts → AreTerms s ts
typed_terms s ty [] all = tt
typed_terms s ty (t ∷ ts) all = (all.0.there, typed_terms s ty ts all.1)

pub typed_at : (s : TermStore) (ty : Ty) (ts : List ℕ) (i : ℕ) → AreTyped s ty ts → i < length ts → HasTyped s ty (get_or ts i 0)
typed_at s ty [] i all h = absurd (omega arith)
typed_at s ty (t ∷ ts) zero all h = all.0
typed_at s ty (t ∷ ts) (suc i) all h = typed_at s ty ts i all.1 (omega arith)

pub term_there : (s : TermStore) (ts : List ℕ) (i : ℕ) → AreTerms s ts → i < length ts → HasTerm s (get_or ts i 0)
term_there s [] i all h = absurd (omega arith)
term_there s (t ∷ ts) zero all h = all.0
term_there s (t ∷ ts) (suc i) all h = term_there s ts i all.1 (omega arith)

pub all_typed_pushed : (s : TermStore) (ty : Ty) (ts : List ℕ) (t : ℕ) → AreTyped s ty ts → HasTyped s ty t → AreTyped s ty (ts ++ t ∷ [])
all_typed_pushed s ty [] t all h = (h, tt)
all_typed_pushed s ty (u ∷ us) t all h = (all.0, all_typed_pushed s ty us t all.1 h)

pub terms_pushed : (s : TermStore) (ts : List ℕ) (t : ℕ) → terms_at s (ts ++ t ∷ []) ≡ terms_at s ts ++ term_tree s t ∷ []
terms_pushed s [] t = refl
terms_pushed s (u ∷ us) t = ap (λ l. term_tree s u ∷ l) (terms_pushed s us t)

-- the terms from a place on
pub terms_from : (s : TermStore) (ts : List ℕ) (i : ℕ) → i < length ts → terms_at s (drop i ts) ≡ term_tree s (get_or ts i 0) ∷ terms_at s (drop (i + 1) ts)
terms_from s ts i h = ap (λ us. terms_at s us) (drop_more ts i 0 h)

drop_end : (ts : List ℕ) (i : ℕ) → length ts ≤ i → drop i ts ≡ []
drop_end [] zero h = refl
drop_end [] (suc i) h = refl
drop_end (t ∷ ts) zero h = absurd (omega arith)
drop_end (t ∷ ts) (suc i) h = drop_end ts i (omega arith)

pub terms_end : (s : TermStore) (ts : List ℕ) (i : ℕ) → length ts ≤ i → terms_at s (drop i ts) ≡ []
terms_end s ts i h = ap (λ us. terms_at s us) (drop_end ts i h)

-- terms that pass the test have the type
pub all_typed : (s : TermStore) (ty : Ty) (ts : List ℕ) → AreTerms s ts → all_are ty (map ty_of (terms_at s ts)) ≡ true → AreTyped s ty ts
all_typed s ty [] all h = tt
all_typed s ty (t ∷ ts) all h =
    let both = both_true (ty_eq ty (ty_of (term_tree s t))) (all_are ty (map ty_of (terms_at s ts))) h in
    (record { there = all.0; type = sym (ty_eq_sound ty (ty_of (term_tree s t)) both.0) }, all_typed s ty ts all.1 both.1)

-- ---- operations, one step on

module _ (op : Term → Term → Term) (s : TermStore) (ts : List ℕ) where
  pub right_last : (n : ℕ) → length ts ≤ n + 1 → to_the_right op (term_tree s (get_or ts n 0)) (terms_at s (drop (n + 1) ts)) ≡ term_tree s (get_or ts n 0)
  right_last n h = ap (to_the_right op (term_tree s (get_or ts n 0))) (terms_end s ts (n + 1) h)

  pub right_step : (n m : ℕ) → m ≡ n + 1 → m < length ts
      → to_the_right op (term_tree s (get_or ts n 0)) (terms_at s (drop (n + 1) ts)) ≡ op (term_tree s (get_or ts n 0)) (to_the_right op (term_tree s (get_or ts m 0)) (terms_at s (drop (m + 1) ts)))
  right_step n m e h =
      let P : ℕ → Type 0 = λ k. to_the_right op (term_tree s (get_or ts n 0)) (terms_at s (drop k ts)) ≡ op (term_tree s (get_or ts n 0)) (to_the_right op (term_tree s (get_or ts m 0)) (terms_at s (drop (m + 1) ts))) in
      subst P e (ap (to_the_right op (term_tree s (get_or ts n 0))) (terms_from s ts m h))

  pub left_step : (t : Term) (i : ℕ) → i < length ts → to_the_left op t (terms_at s (drop i ts)) ≡ to_the_left op (op t (term_tree s (get_or ts i 0))) (terms_at s (drop (i + 1) ts))
  left_step t i h = ap (to_the_left op t) (terms_from s ts i h)

  pub left_last : (t : Term) (i : ℕ) → length ts ≤ i → to_the_left op t (terms_at s (drop i ts)) ≡ t
  left_last t i h = ap (to_the_left op t) (terms_end s ts i h)

  pub neighbours_step : (n m : ℕ) → n + 1 ≡ m → m < length ts
      → neighbours op (term_tree s (get_or ts n 0)) (terms_at s (drop m ts)) ≡ op (term_tree s (get_or ts n 0)) (term_tree s (get_or ts m 0)) ∷ neighbours op (term_tree s (get_or ts m 0)) (terms_at s (drop (m + 1) ts))
  neighbours_step n m e h = ap (neighbours op (term_tree s (get_or ts n 0))) (terms_from s ts m h)

  pub neighbours_last : (t : Term) (i : ℕ) → length ts ≤ i → neighbours op t (terms_at s (drop i ts)) ≡ []
  neighbours_last t i h = ap (neighbours op t) (terms_end s ts i h)

-- ---- two arguments of their types

pub fits_two : (s : TermStore) (f x y : ℕ) (a b c : Ty) → HasTyped s (FunTy2 a b c) f → HasTyped s a x → HasTyped s b y
    → ty_of (term_tree s f) ≡ FunTy2 (ty_of (term_tree s x)) (ty_of (term_tree s y)) (result_ty (result_ty (ty_of (term_tree s f))))
fits_two s f x y a b c h i j = rw (h.type, i.type, j.type) refl

pub two_typed : (s u : TermStore) (f x y t : ℕ) (a b c : Ty) → HasTyped s (FunTy2 a b c) f → HasTerm u t → term_tree u t ≡ apply_two (term_tree s f) (term_tree s x) (term_tree s y) → HasTyped u c t
two_typed s u f x y t a b c h there made = record { there = there; type = ap ty_of made ∙ ap (λ v. result_ty (result_ty v)) h.type }

-- an item, whatever stands for those past the end
pub item_at : (ts : List ℕ) (i x : ℕ) → i < length ts → x ≡ get_or ts i x → get_or ts i 0 ≡ x
item_at ts i x below is = get_or_from_slice_get ts i (get_or ts i x) 0 (slice_get-get_or ts i x below) ∙ sym is

pub part_typed : (s u : TermStore) (ty : Ty) (ts : List ℕ) (i x : ℕ) → Keeps s u → AreTyped s ty ts → i < length ts → x ≡ get_or ts i x → HasTyped u ty x
part_typed s u ty ts i x k all below is =
    let P : ℕ → Type 0 = λ t. HasTyped s ty t in
    typed_kept k (subst P (item_at ts i x below is) (typed_at s ty ts i all below))

pub item_typed : (s u : TermStore) (ty : Ty) (ts : List ℕ) (i x : ℕ) → Keeps s u → HasTyped s ty (get_or ts i 0) → i < length ts → x ≡ get_or ts i x → HasTyped u ty x
item_typed s u ty ts i x k there below is =
    let P : ℕ → Type 0 = λ t. HasTyped s ty t in
    typed_kept k (subst P (item_at ts i x below is) there)

pub part_there : (s u : TermStore) (ts : List ℕ) (i x : ℕ) → Keeps s u → AreTerms s ts → i < length ts → x ≡ get_or ts i x → HasTerm u x
part_there s u ts i x k all below is =
    let P : ℕ → Type 0 = λ t. HasTerm s t in
    k.terms x (subst P (item_at ts i x below is) (term_there s ts i all below))

module _ (s now new : TermStore) (k : Keeps s now) (f : ℕ) (function : HasTerm s f) (ts : List ℕ) (all : AreTerms s ts) where
  pub same_item : (n x : ℕ) → n < length ts → x ≡ get_or ts n x → term_tree now x ≡ term_tree s (get_or ts n 0)
  same_item n x h is =
      let P : ℕ → Type 0 = λ t. term_tree now t ≡ term_tree s (get_or ts n 0) in
      subst P (item_at ts n x h is) (k.trees (get_or ts n 0) (term_there s ts n all h))

  same_op : (x y : Term) → apply_two (term_tree now f) x y ≡ apply_two (term_tree s f) x y
  same_op x y = ap (λ g. apply_two g x y) (k.trees f function)

  pub right_next : (n m x t u : ℕ) → m ≡ n + 1 → m < length ts → x ≡ get_or ts n x → term_tree now t ≡ to_the_right (apply_two (term_tree s f)) (term_tree s (get_or ts m 0)) (terms_at s (drop (m + 1) ts))
      → term_tree new u ≡ apply_two (term_tree now f) (term_tree now x) (term_tree now t)
      → term_tree new u ≡ to_the_right (apply_two (term_tree s f)) (term_tree s (get_or ts n 0)) (terms_at s (drop (n + 1) ts))
  right_next n m x t u e h is so_far made =
      let below : n < length ts = omega (arith, e, h) in
      made ∙ same_op (term_tree now x) (term_tree now t) ∙ ap (λ y. apply_two (term_tree s f) y (term_tree now t)) (same_item n x below is) ∙ ap (apply_two (term_tree s f) (term_tree s (get_or ts n 0))) so_far
      ∙ sym (right_step (apply_two (term_tree s f)) s ts n m e h)

  pub left_next : (total : Term) (i x t u : ℕ) → i < length ts → x ≡ get_or ts i x → to_the_left (apply_two (term_tree s f)) (term_tree now t) (terms_at s (drop i ts)) ≡ total
      → term_tree new u ≡ apply_two (term_tree now f) (term_tree now t) (term_tree now x)
      → to_the_left (apply_two (term_tree s f)) (term_tree new u) (terms_at s (drop (i + 1) ts)) ≡ total
  left_next total i x t u h is so_far made =
      let one : term_tree new u ≡ apply_two (term_tree s f) (term_tree now t) (term_tree s (get_or ts i 0)) = made ∙ same_op (term_tree now t) (term_tree now x) ∙ ap (apply_two (term_tree s f) (term_tree now t)) (same_item i x h is) in
      ap (λ y. to_the_left (apply_two (term_tree s f)) y (terms_at s (drop (i + 1) ts))) one ∙ sym (left_step (apply_two (term_tree s f)) s ts (term_tree now t) i h) ∙ so_far

  pub neighbours_next : (kept : Keeps now new) (total : List Term) (fs : List ℕ) (n m x y u : ℕ) → AreTerms now fs → n + 1 ≡ m → m < length ts → x ≡ get_or ts n x → y ≡ get_or ts m y
      → terms_at now fs ++ neighbours (apply_two (term_tree s f)) (term_tree s (get_or ts n 0)) (terms_at s (drop m ts)) ≡ total
      → term_tree new u ≡ apply_two (term_tree now f) (term_tree now x) (term_tree now y)
      → terms_at new (fs ++ u ∷ []) ++ neighbours (apply_two (term_tree s f)) (term_tree s (get_or ts m 0)) (terms_at s (drop (m + 1) ts)) ≡ total
  neighbours_next kept total fs n m x y u there e h is at so_far made =
      let rest = neighbours (apply_two (term_tree s f)) (term_tree s (get_or ts m 0)) (terms_at s (drop (m + 1) ts)) in
      let below : n < length ts = omega (arith, e, h) in
      let one : term_tree new u ≡ apply_two (term_tree s f) (term_tree s (get_or ts n 0)) (term_tree s (get_or ts m 0)) =
      made ∙ same_op (term_tree now x) (term_tree now y) ∙ ap (λ z. apply_two (term_tree s f) z (term_tree now y)) (same_item n x below is) ∙ ap (apply_two (term_tree s f) (term_tree s (get_or ts n 0))) (same_item m y h at) in
      let pushed : terms_at new (fs ++ u ∷ []) ≡ terms_at now fs ++ apply_two (term_tree s f) (term_tree s (get_or ts n 0)) (term_tree s (get_or ts m 0)) ∷ [] =
      terms_pushed new fs u ∙ ap (λ l. l ++ term_tree new u ∷ []) (terms_same fs kept there) ∙ ap (λ z. terms_at now fs ++ z ∷ []) one in
      ap (λ l. l ++ rest) pushed ∙ append_assoc (terms_at now fs) (apply_two (term_tree s f) (term_tree s (get_or ts n 0)) (term_tree s (get_or ts m 0)) ∷ []) rest
      ∙ ap (λ l. terms_at now fs ++ l) (sym (neighbours_step (apply_two (term_tree s f)) s ts n m e h)) ∙ so_far

-- one more that the first differs from
pub differs_next : (s now new : TermStore) (k : Keeps now new) (total : List Term) (fs : List ℕ) (a : Term) (ts : List ℕ) (j u : ℕ) → AreTerms now fs → j < length ts
    → terms_at now fs ++ differs a (terms_at s (drop j ts)) ≡ total
    → term_tree new u ≡ negation (equation (ty_of a) a (term_tree s (get_or ts j 0)))
    → terms_at new (fs ++ u ∷ []) ++ differs a (terms_at s (drop (j + 1) ts)) ≡ total
differs_next s now new k total fs a ts j u there h so_far made =
    let rest = differs a (terms_at s (drop (j + 1) ts)) in
    let one = negation (equation (ty_of a) a (term_tree s (get_or ts j 0))) in
    let pushed : terms_at new (fs ++ u ∷ []) ≡ terms_at now fs ++ one ∷ [] = terms_pushed new fs u ∙ ap (λ l. l ++ term_tree new u ∷ []) (terms_same fs k there) ∙ ap (λ z. terms_at now fs ++ z ∷ []) made in
    ap (λ l. l ++ rest) pushed ∙ append_assoc (terms_at now fs) (one ∷ []) rest ∙ ap (λ l. terms_at now fs ++ differs a l) (sym (terms_from s ts j h)) ∙ so_far

-- a condition, and two terms of one type
pub record IsChoice (s : TermStore) (ts : List ℕ) (ty : Ty) : Type 0 where
  pub condition : HasTyped s BoolTy (get_or ts 0 0)
  pub first : HasTyped s ty (get_or ts 1 0)
  pub second : HasTyped s ty (get_or ts 2 0)

pub choice_typed : (s : TermStore) (ts : List ℕ) → AreTerms s ts → are_choice (map ty_of (terms_at s ts)) ≡ true → 2 < length ts → IsChoice s ts (ty_of (term_tree s (get_or ts 1 0)))
choice_typed s [] all h long = absurd (omega arith)
choice_typed s (a ∷ []) all h long = absurd (omega arith)
choice_typed s (a ∷ b ∷ []) all h long = absurd (omega arith)
choice_typed s (a ∷ b ∷ c ∷ more) all h long =
    let test = both_true (ty_eq BoolTy (ty_of (term_tree s a))) (are_alike (map ty_of (terms_at s (b ∷ c ∷ more)))) h in
    let same = both_true (ty_eq (ty_of (term_tree s b)) (ty_of (term_tree s c))) (all_are (ty_of (term_tree s b)) (map ty_of (terms_at s more))) test.1 in
    record {
      condition = record { there = all.0; type = sym (ty_eq_sound BoolTy (ty_of (term_tree s a)) test.0) };
      first = record { there = all.1.0; type = refl };
      second = record { there = all.1.1.0; type = sym (ty_eq_sound (ty_of (term_tree s b)) (ty_of (term_tree s c)) same.0) };
    }

pub fits_one : (s : TermStore) (f x : ℕ) (a b : Ty) → HasTyped s (FunTy a b) f → HasTyped s a x → Applies s f x
fits_one s f x a b h i = rw (h.type, i.type) refl

pub number_typed : (s : TermStore) (t : ℕ) (is : Term) → HasTerm s t → term_tree s t ≡ is → HasTyped s (ty_of is) t
number_typed s t is there tree = record { there = there; type = ap ty_of tree }

-- the choice of the first three, by their numbers
pub choice_of : (s : TermStore) (ts : List ℕ) (a b c : ℕ) → 2 < length ts → a ≡ get_or ts 0 a → b ≡ get_or ts 1 b → c ≡ get_or ts 2 c
    → on_three (λ x y z. conditional (ty_of y) x y z) (term_tree s (get_or ts 0 0)) (terms_at s (drop 1 ts)) ≡ conditional (ty_of (term_tree s b)) (term_tree s a) (term_tree s b) (term_tree s c)
choice_of s [] a b c long e f g = absurd (omega arith)
choice_of s (x ∷ []) a b c long e f g = absurd (omega arith)
choice_of s (x ∷ y ∷ []) a b c long e f g = absurd (omega arith)
choice_of s (x ∷ y ∷ z ∷ more) a b c long e f g = let first : a ≡ x = e in let second : b ≡ y = f in let third : c ≡ z = g in rw (first, second, third) refl

-- ---- tests of types

-- numbers of types are equal exactly where the types are
pub same_types : (s : TypeStore) → TreesApart s → (a b : ℕ) → HasType s a → HasType s b → (x y : Ty) → type_tree s a ≡ x → type_tree s b ≡ y → (r : Bool) → r ≡ nat_eq a b → r ≡ ty_eq x y
same_types s apart a b there here x y e f true h = sym (ty_eq_same x y (sym e ∙ ap (λ t. type_tree s t) (eqb_sound a b (sym h)) ∙ f))
same_types s apart a b there here x y e f false h = by (ty_eq x y) refl
  where
    by : (t : Bool) → ty_eq x y ≡ t → false ≡ ty_eq x y
    by false k = sym k
    by true k = absurd (eqb_complete a b (sym h) (apart a b there here (e ∙ ty_eq_sound x y k ∙ sym f)))

abbrev pub is_bool_type : TypeNode → Bool
is_bool_type nodes.Bool = true
is_bool_type nodes.Int = false
is_bool_type (nodes.Var n) = false
is_bool_type (nodes.Fun a b) = false
is_bool_type (nodes.Cons n ts) = false

abbrev pub is_int_type : TypeNode → Bool
is_int_type nodes.Bool = false
is_int_type nodes.Int = true
is_int_type (nodes.Var n) = false
is_int_type (nodes.Fun a b) = false
is_int_type (nodes.Cons n ts) = false

-- the test of a type by its node
pub is_bool_node : (s : TypeStore) (n : TypeNode) → ty_eq BoolTy (tree_of s n) ≡ is_bool_type n
unfolding ty_eq
is_bool_node s nodes.Bool = refl
is_bool_node s nodes.Int = refl
is_bool_node s (nodes.Var n) = refl
is_bool_node s (nodes.Fun a b) = refl
is_bool_node s (nodes.Cons n ts) = refl

pub is_int_node : (s : TypeStore) (n : TypeNode) → ty_eq IntTy (tree_of s n) ≡ is_int_type n
unfolding ty_eq
is_int_node s nodes.Bool = refl
is_int_node s nodes.Int = refl
is_int_node s (nodes.Var n) = refl
is_int_node s (nodes.Fun a b) = refl
is_int_node s (nodes.Cons n ts) = refl

-- ---- the terms of another store

pub item_same : (s now : TermStore) → Keeps s now → (ts : List ℕ) → AreTerms s ts → (n x : ℕ) → n < length ts → x ≡ get_or ts n x → term_tree now x ≡ term_tree s (get_or ts n 0)
item_same s now k ts all n x h is =
    let P : ℕ → Type 0 = λ t. term_tree now t ≡ term_tree s (get_or ts n 0) in
    subst P (item_at ts n x h is) (k.trees (get_or ts n 0) (term_there s ts n all h))

pub front_same : (s u : TermStore) (ts : List ℕ) → Keeps s u → AreTerms s ts → 0 < length ts → term_tree u (get_or ts 0 0) ≡ term_tree s (get_or ts 0 0)
front_same s u ts k all h = k.trees (get_or ts 0 0) (term_there s ts 0 all h)

terms_dropped : (s : TermStore) (ts : List ℕ) (i : ℕ) → AreTerms s ts → AreTerms s (drop i ts)
terms_dropped s [] zero all = tt
terms_dropped s [] (suc i) all = tt
terms_dropped s (t ∷ ts) zero all = all
terms_dropped s (t ∷ ts) (suc i) all = terms_dropped s ts i all.1

pub rest_same : (s u : TermStore) (ts : List ℕ) (i : ℕ) → Keeps s u → AreTerms s ts → terms_at u (drop i ts) ≡ terms_at s (drop i ts)
rest_same s u ts i k all = terms_same (drop i ts) k (terms_dropped s ts i all)

-- what is made of a function and terms, which are the same
pub made_same : (make : Term → Term → List Term → Term) (f g a b : Term) (us vs : List Term) (y : Term) → f ≡ g → b ≡ a → vs ≡ us → make g b vs ≡ y → make f a us ≡ y
made_same make f g a b us vs y e h k r = ap (λ x. make x a us) e ∙ ap (λ x. make g x us) (sym h) ∙ ap (make g b) (sym k) ∙ r

pub all_of_some : (s : TermStore) (ts : List ℕ) → 0 < length ts → all_of (terms_at s ts) ≡ to_the_right conjunction (term_tree s (get_or ts 0 0)) (terms_at s (drop 1 ts))
all_of_some s [] h = absurd (omega arith)
all_of_some s (t ∷ ts) h = refl

pub alike_typed : (s : TermStore) (ts : List ℕ) → AreTerms s ts → are_alike (map ty_of (terms_at s ts)) ≡ true → AreTyped s (ty_of (term_tree s (get_or ts 0 0))) ts
alike_typed s [] all h = tt
alike_typed s (t ∷ ts) all h = (record { there = all.0; type = refl }, all_typed s (ty_of (term_tree s t)) ts all.1 h)

pub differences_next : (s now new : TermStore) → Keeps s now → (total : List Term) (fs gs ts : List ℕ) (i : ℕ) → AreTerms s ts → i < length ts
    → terms_at now fs ++ differences (terms_at s (drop i ts)) ≡ total
    → terms_at now fs ++ differs (term_tree now (get_or ts i 0)) (terms_at now (drop (i + 1) ts)) ≡ terms_at new gs
    → terms_at new gs ++ differences (terms_at s (drop (i + 1) ts)) ≡ total
differences_next s now new k total fs gs ts i all h so_far made =
    let a = term_tree s (get_or ts i 0) in
    let rest = terms_at s (drop (i + 1) ts) in
    let one : terms_at new gs ≡ terms_at now fs ++ differs a rest =
    sym made ∙ ap (λ x. terms_at now fs ++ differs x (terms_at now (drop (i + 1) ts))) (k.trees (get_or ts i 0) (term_there s ts i all h)) ∙ ap (λ l. terms_at now fs ++ differs a l) (rest_same s now ts (i + 1) k all) in
    ap (λ l. l ++ differences rest) one ∙ append_assoc (terms_at now fs) (differs a rest) (differences rest) ∙ ap (λ l. terms_at now fs ++ differences l) (sym (terms_from s ts i h)) ∙ so_far
