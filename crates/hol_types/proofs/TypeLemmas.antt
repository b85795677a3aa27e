-- Trees by numbers: a type's tree is its node's, stays where the store grows, and tells the types apart.
use Rattle.std.proofs.Common.{◌≡◌, ℕ, zero, suc, ◌<◌, ◌⊎◌, List, [], ◌∷◌, ◌++◌, length, slice_get, get_or, Some, None, refl, sym, ap, ◌∙◌, subst, inl, inr, arith, Option, true, false, cond, Bool as Truth, is_some, not, append_assoc}
use Rattle.std.specs.List.{AllByRecursion}
use Rattle.std.specs.Map.{lookup}
use Rattle.std.proofs.Math.Dec.{eqb}
use Rattle.std.proofs.lemmas.Bool.{eqb-true, eq-eqb}
use Rattle.std.proofs.lemmas.Option.{slice_get_within, slice_get-get_or, get_or_from_slice_get, none-some, same_Some}
use Rattle.hol_types.specs.Once.{Once, Holds, IsAdded}
use Rattle.hol_types.proofs.Places.{IsAdded-holds, IsAdded-either, slice_get-left}
use Rattle.hol_types.specs.Ty.{Ty, Tys, VarTy, FunTy, ConsTy, more_types}
use Rattle.hol_types.specs.TypeStore.{TypeStore, text_of, arity_of, node_at, trees_of, node_tree, tree_within, type_tree, HasType, PartsBelow, HasArity, IsTypeStore, Grows, joined, tree_of, empty_types, with_arity, HasName, NamesApart, TreesApart}
use Rattle.hol_types.specs.declared.node.TypeNode.{TypeNode}
use Rattle.hol_types.specs.declared.node.TypeNode.TheVariants.{Bool, Int, Var, Fun, Cons}

pub Grows-refl : (s : TypeStore) → Grows s s
Grows-refl s = record { names = λ i x h. h; nodes = λ i x h. h; arities = λ i x h. h }

pub Grows-trans : {s t u : TypeStore} → Grows s t → Grows t u → Grows s u
Grows-trans g h = record {
  names = λ i x k. h.names i x (g.names i x k);
  nodes = λ i x k. h.nodes i x (g.nodes i x k);
  arities = λ i x k. h.arities i x (g.arities i x k);
}

-- an item that stays is the same by number
pub Holds-get_or : {A : Type 0} (old new : List A) → Holds old new → (i : ℕ) (d : A) → i < length old → get_or new i d ≡ get_or old i d
Holds-get_or old new h i d below = get_or_from_slice_get new i (get_or old i d) d (h i (get_or old i d) (slice_get-get_or old i d below))

-- equal parts give equal trees
trees_of-same : (f g : ℕ → Ty) (top : ℕ) → ((t : ℕ) → t < top → f t ≡ g t) → (ts : List ℕ) → AllByRecursion (λ t. t < top) ts → trees_of f ts ≡ trees_of g ts
trees_of-same f g top same [] all = refl
trees_of-same f g top same (t ∷ ts) all = let e = same t all.0 in let r = trees_of-same f g top same ts all.1 in cc

node_tree-same : (s u : TypeStore) → Grows s u → (f g : ℕ → Ty) (top : ℕ) → ((t : ℕ) → t < top → f t ≡ g t) → (n : TypeNode) → PartsBelow s top n → node_tree s f n ≡ node_tree u g n
node_tree-same s u grows f g top same Bool p = refl
node_tree-same s u grows f g top same Int p = refl
node_tree-same s u grows f g top same (Var n) p = ap VarTy (sym (Holds-get_or s.names u.names grows.names n [] p))
node_tree-same s u grows f g top same (Fun a b) p = let e = same a p.0 in let r = same b p.1 in cc
node_tree-same s u grows f g top same (Cons n ts) p =
    let e = Holds-get_or s.names u.names grows.names n [] p.0 in
    let r = trees_of-same f g top same ts p.1 in
    cc

-- how often is looked up doesn't matter, and what is added neither
tree_within-same : (s u : TypeStore) → IsTypeStore s → Grows s u → (k l t : ℕ) → t < k → t < l → HasType s t → tree_within s k t ≡ tree_within u l t
unfolding tree_within
tree_within-same s u is grows zero l t a b has = absurd (omega arith)
tree_within-same s u is grows (suc k) zero t a b has = absurd (omega arith)
tree_within-same s u is grows (suc k) (suc l) t a b has =
    let here : node_at u t ≡ node_at s t = Holds-get_or s.nodes u.nodes grows.nodes t Bool has in
    let parts = is.parts t (node_at s t) (slice_get-get_or s.nodes t Bool has) in
    let same : (v : ℕ) → v < t → tree_within s k v ≡ tree_within u l v = λ v h. tree_within-same s u is grows k l v (omega arith) (omega arith) (omega arith) in
    node_tree-same s u grows (λ v. tree_within s k v) (λ v. tree_within u l v) t same (node_at s t) parts ∙ ap (λ n. node_tree u (λ v. tree_within u l v) n) (sym here)

-- a type keeps its tree
pub type_tree-grows : (s u : TypeStore) → IsTypeStore s → Grows s u → (t : ℕ) → HasType s t → type_tree u t ≡ type_tree s t
unfolding type_tree
type_tree-grows s u is grows t has = sym (tree_within-same s u is grows (suc t) (suc t) t (omega arith) (omega arith) has)

-- the tree of a type is that of its node
pub type_tree-step : (s : TypeStore) → IsTypeStore s → (t : ℕ) (n : TypeNode) → slice_get s.nodes t ≡ Some n → type_tree s t ≡ node_tree s (λ u. type_tree s u) n
unfolding type_tree tree_within
type_tree-step s is t n at =
    let has = slice_get_within s.nodes t n at in
    let here : node_at s t ≡ n = get_or_from_slice_get s.nodes t n Bool at in
    let same : (v : ℕ) → v < t → tree_within s t v ≡ type_tree s v = λ v h. tree_within-same s s is (Grows-refl s) t (suc v) v h (omega arith) (omega arith) in
    ap (λ m. node_tree s (λ v. tree_within s t v) m) here ∙ node_tree-same s s (Grows-refl s) (λ v. tree_within s t v) (λ v. type_tree s v) t same n (is.parts t n at)

-- in a list without repeats an item has one place
pub Once-get_or : {A : Type 0} (xs : List A) → Once xs → (i j : ℕ) (d : A) → i < length xs → j < length xs → get_or xs i d ≡ get_or xs j d → i ≡ j
Once-get_or xs once i j d a b e = once i j (get_or xs j d) (slice_get-get_or xs i d a ∙ ap Some e) (slice_get-get_or xs j d b)

pub FunTy-parts : (a b c d : Ty) → FunTy a b ≡ FunTy c d → (a ≡ c) × (b ≡ d)
FunTy-parts a b c d e = (cc, cc)

ConsTy-parts : (a c : List ℕ) (b d : Tys) → ConsTy a b ≡ ConsTy c d → (a ≡ c) × (b ≡ d)
ConsTy-parts a c b d e = (cc, cc)

more_types-parts : (a c : Ty) (b d : Tys) → more_types a b ≡ more_types c d → (a ≡ c) × (b ≡ d)
more_types-parts a c b d e = (cc, cc)

module _ (s : TypeStore) (is : IsTypeStore s) (tree : ℕ → Ty) (top other : ℕ) (apart : (a b : ℕ) → a < top → b < other → tree a ≡ tree b → a ≡ b) where
  trees_of-apart : (ts us : List ℕ) → AllByRecursion (λ t. t < top) ts → AllByRecursion (λ t. t < other) us → trees_of tree ts ≡ trees_of tree us → ts ≡ us
  trees_of-apart [] [] p q e = refl
  trees_of-apart [] (u ∷ us) p q e = cc
  trees_of-apart (t ∷ ts) [] p q e = cc
  trees_of-apart (t ∷ ts) (u ∷ us) p q e =
      let parts = more_types-parts (tree t) (tree u) (trees_of tree ts) (trees_of tree us) e in
      let first = apart t u p.0 q.0 parts.0 in
      let rest = trees_of-apart ts us p.1 q.1 parts.1 in
      cc

  node_tree-apart : (n m : TypeNode) → PartsBelow s top n → PartsBelow s other m → node_tree s tree n ≡ node_tree s tree m → n ≡ m
  node_tree-apart Bool Bool p q e = refl
  node_tree-apart Int Int p q e = refl
  node_tree-apart (Var n) (Var m) p q e =
      let same : text_of s n ≡ text_of s m = cc in
      ap Var (Once-get_or s.names is.names_once n m [] p q same)
  node_tree-apart (Fun a b) (Fun c d) p q e =
      let parts = FunTy-parts (tree a) (tree b) (tree c) (tree d) e in
      let from = apart a c p.0 q.0 parts.0 in
      let to = apart b d p.1 q.1 parts.1 in
      cc
  node_tree-apart (Cons n ts) (Cons m us) p q e =
      let parts = ConsTy-parts (text_of s n) (text_of s m) (trees_of tree ts) (trees_of tree us) e in
      let name = Once-get_or s.names is.names_once n m [] p.0 q.0 parts.0 in
      let args = trees_of-apart ts us p.1 q.1 parts.1 in
      cc
  node_tree-apart Bool m p q e = cc
  node_tree-apart Int m p q e = cc
  node_tree-apart (Var n) m p q e = cc
  node_tree-apart (Fun a b) m p q e = cc
  node_tree-apart (Cons n ts) m p q e = cc

type_tree-apart : (s : TypeStore) → IsTypeStore s → (k t u : ℕ) → t < k → HasType s t → HasType s u → type_tree s t ≡ type_tree s u → t ≡ u
type_tree-apart s is zero t u a has_t has_u e = absurd (omega arith)
type_tree-apart s is (suc k) t u a has_t has_u e =
    let at_t = slice_get-get_or s.nodes t Bool has_t in
    let at_u = slice_get-get_or s.nodes u Bool has_u in
    let apart : (v w : ℕ) → v < t → w < u → type_tree s v ≡ type_tree s w → v ≡ w = λ v w h i f. type_tree-apart s is k v w (omega arith) (omega arith) (omega arith) f in
    let same = sym (type_tree-step s is t (node_at s t) at_t) ∙ e ∙ type_tree-step s is u (node_at s u) at_u in
    let nodes = node_tree-apart s is (λ v. type_tree s v) t u apart (node_at s t) (node_at s u) (is.parts t (node_at s t) at_t) (is.parts u (node_at s u) at_u) same in
    Once-get_or s.nodes is.nodes_once t u Bool has_t has_u nodes

-- equal trees have one number
pub type_tree-injective : (s : TypeStore) → IsTypeStore s → (t u : ℕ) → HasType s t → HasType s u → type_tree s t ≡ type_tree s u → t ≡ u
type_tree-injective s is t u = type_tree-apart s is (suc t) t u (omega arith)

-- ---- one step of a store

-- what is declared in the one, or else in the other
pub lookup-left : {K X : Type 0} (test : K → Truth) (xs ys : List (K × X)) (v : X) → lookup test xs ≡ Some v → lookup test (xs ++ ys) ≡ Some v
lookup-left test [] ys v h = absurd (none-some v h)
lookup-left {K} {X} test (x ∷ xs) ys v h = by (test x.0) h (lookup-left test xs ys v)
  where
    by : (b : Truth) → cond b (Some x.1) (lookup test xs) ≡ Some v → (lookup test xs ≡ Some v → lookup test (xs ++ ys) ≡ Some v) → cond b (Some x.1) (lookup test (xs ++ ys)) ≡ Some v
    by true k rest = k
    by false k rest = rest k

pub lookup-right : {K X : Type 0} (test : K → Truth) (xs ys : List (K × X)) → lookup test xs ≡ None → lookup test (xs ++ ys) ≡ lookup test ys
lookup-right test [] ys h = refl
lookup-right test (x ∷ xs) ys h = by (test x.0) h (lookup-right test xs ys)
  where
    by : (b : Truth) → cond b (Some x.1) (lookup test xs) ≡ None → (lookup test xs ≡ None → lookup test (xs ++ ys) ≡ lookup test ys) → cond b (Some x.1) (lookup test (xs ++ ys)) ≡ lookup test ys
    by true k rest = absurd (none-some x.1 (sym k))
    by false k rest = rest k

-- the look-up in two tables, one after the other
pub arity_first : (base own : TypeStore) (n a : ℕ) → lookup (eqb n) base.arities ≡ Some a → arity_of (joined base own) n ≡ Some a
arity_first base own n a h = lookup-left (eqb n) base.arities own.arities a h

pub arity_second : (base own : TypeStore) (n : ℕ) → lookup (eqb n) base.arities ≡ None → arity_of (joined base own) n ≡ lookup (eqb n) own.arities
arity_second base own n h = lookup-right (eqb n) base.arities own.arities h

-- what isn't declared in the whole isn't in its second part
none_right : {K X : Type 0} (test : K → Truth) (xs ys : List (K × X)) → lookup test (xs ++ ys) ≡ None → lookup test ys ≡ None
none_right test [] ys h = h
none_right test (x ∷ xs) ys h = by (test x.0) h (none_right test xs ys)
  where
    by : (b : Truth) → cond b (Some x.1) (lookup test (xs ++ ys)) ≡ None → (lookup test (xs ++ ys) ≡ None → lookup test ys ≡ None) → lookup test ys ≡ None
    by true k rest = absurd (none-some x.1 (sym k))
    by false k rest = rest k

pub arity_of-right : (base own : TypeStore) (n : ℕ) → arity_of (joined base own) n ≡ None → arity_of own n ≡ None
arity_of-right base own n h = none_right (eqb n) base.arities own.arities h

-- what is declared stays so where more is declared after it
lookup-holds : {K X : Type 0} (test : K → Truth) (xs ys : List (K × X)) → Holds xs ys → (v : X) → lookup test xs ≡ Some v → lookup test ys ≡ Some v
lookup-holds test [] ys h v e = absurd (none-some v e)
lookup-holds test (x ∷ xs) [] h v e = absurd (none-some x (h zero x refl))
lookup-holds test (x ∷ xs) (y ∷ ys) h v e =
    let same = same_Some y x (h zero x refl) in
    subst (λ z. lookup test (z ∷ ys) ≡ Some v) (sym same) (by (test x.0) e (lookup-holds test xs ys (λ i z k. h (suc i) z k) v))
  where
    by : (b : Truth) → cond b (Some x.1) (lookup test xs) ≡ Some v → (lookup test xs ≡ Some v → lookup test ys ≡ Some v) → cond b (Some x.1) (lookup test ys) ≡ Some v
    by true k rest = k
    by false k rest = rest k

pub arity_of-grows : (s u : TypeStore) → Holds s.arities u.arities → (n a : ℕ) → arity_of s n ≡ Some a → arity_of u n ≡ Some a
arity_of-grows s u h n a e = lookup-holds (eqb n) s.arities u.arities h a e

-- what a declaration answers afterwards: for its name its number, for the others what it was
pub arity_of-declared : (s : TypeStore) (n a : ℕ) → arity_of s n ≡ None → arity_of (with_arity s n a) n ≡ Some a
arity_of-declared s n a none = lookup-right (eqb n) s.arities ((n, a) ∷ []) none ∙ ap (λ b. cond b (Some a) None) (eq-eqb n n refl)

lookup-other : (xs : List (ℕ × ℕ)) (n a m : ℕ) → eqb m n ≡ false → lookup (eqb m) (xs ++ (n, a) ∷ []) ≡ lookup (eqb m) xs
lookup-other [] n a m e = ap (λ b. cond b (Some a) None) e
lookup-other (x ∷ xs) n a m e = ap (λ r. cond (eqb m x.0) (Some x.1) r) (lookup-other xs n a m e)

pub arity_of-others : (s : TypeStore) (n a m : ℕ) → (m ≡ n → ⊥) → arity_of (with_arity s n a) m ≡ arity_of s m
arity_of-others s n a m differ = by (eqb m n) refl
  where
    by : (b : Truth) → eqb m n ≡ b → arity_of (with_arity s n a) m ≡ arity_of s m
    by true e = absurd (differ (eqb-true m n e))
    by false e = lookup-other s.arities n a m e

not_none : {A : Type 0} (xs : List A) (i : ℕ) → i < length xs → slice_get xs i ≡ None → ⊥
not_none [] i below e = omega arith
not_none (x ∷ xs) zero below e = none-some x (sym e)
not_none (x ∷ xs) (suc i) below e = not_none xs i (omega arith) e

pub Holds-length : {A : Type 0} (old new : List A) → Holds old new → (i : ℕ) → i < length old → i < length new
Holds-length {A} old new h i below = by (slice_get old i) refl
  where
    by : (r : Option A) → slice_get old i ≡ r → i < length new
    by None e = absurd (not_none old i below e)
    by (Some x) e = slice_get_within new i x (h i x e)

PartsBelow-grows : (s u : TypeStore) → Holds s.names u.names → (top : ℕ) (n : TypeNode) → PartsBelow s top n → PartsBelow u top n
PartsBelow-grows s u h top Bool p = tt
PartsBelow-grows s u h top Int p = tt
PartsBelow-grows s u h top (Var n) p = Holds-length s.names u.names h n p
PartsBelow-grows s u h top (Fun a b) p = p
PartsBelow-grows s u h top (Cons n ts) p = (Holds-length s.names u.names h n p.0, p.1)

HasArity-grows : (s u : TypeStore) → Grows s u → (n : TypeNode) → HasArity s n → HasArity u n
HasArity-grows s u g Bool p = tt
HasArity-grows s u g Int p = tt
HasArity-grows s u g (Var n) p = tt
HasArity-grows s u g (Fun a b) p = tt
HasArity-grows s u g (Cons n ts) p = arity_of-grows s u g.arities n (length ts) p

-- a store that has grown by a node whose parts are there
module _ (s u : TypeStore) (is : IsTypeStore s) (grows : Grows s u) (names_once : Once u.names) (nodes_once : Once u.nodes) (node : TypeNode)
    (new : (t : ℕ) (n : TypeNode) → slice_get u.nodes t ≡ Some n → (slice_get s.nodes t ≡ Some n) ⊎ ((t ≡ length s.nodes) × (node ≡ n)))
    (parts : PartsBelow s (length s.nodes) node) (arity : HasArity s node) where
  grown_parts : (t : ℕ) (n : TypeNode) → (slice_get s.nodes t ≡ Some n) ⊎ ((t ≡ length s.nodes) × (node ≡ n)) → PartsBelow u t n
  grown_parts t n (inl h) = PartsBelow-grows s u grows.names t n (is.parts t n h)
  grown_parts t n (inr h) = subst (λ m. PartsBelow u t m) h.1 (subst (λ i. PartsBelow u i node) (sym h.0) (PartsBelow-grows s u grows.names (length s.nodes) node parts))

  grown_arity : (t : ℕ) (n : TypeNode) → (slice_get s.nodes t ≡ Some n) ⊎ ((t ≡ length s.nodes) × (node ≡ n)) → HasArity u n
  grown_arity t n (inl h) = HasArity-grows s u grows n (is.arities t n h)
  grown_arity t n (inr h) = subst (λ m. HasArity u m) h.1 (HasArity-grows s u grows node arity)

  pub IsTypeStore-grown : IsTypeStore u
  IsTypeStore-grown = record {
    names_once = names_once;
    nodes_once = nodes_once;
    parts = λ t n h. grown_parts t n (new t n h);
    arities = λ t n h. grown_arity t n (new t n h);
  }

module _ (base own : TypeStore) (is : IsTypeStore (joined base own)) where
  -- after a name
  module _ (names : List (List ℕ)) (once : Once (base.names ++ names)) (text : List ℕ) (added : IsAdded text (base.names ++ own.names) (base.names ++ names)) where
    pub Grows-named : Grows (joined base own) (joined base (record own { names = names }))
    Grows-named = record { names = IsAdded-holds text (base.names ++ own.names) (base.names ++ names) added; nodes = λ i x h. h; arities = λ i x h. h }

    pub IsTypeStore-named : IsTypeStore (joined base (record own { names = names }))
    IsTypeStore-named = IsTypeStore-grown (joined base own) (joined base (record own { names = names })) is Grows-named once is.nodes_once Bool (λ t n h. inl h) tt tt

  -- after a node
  module _ (nodes : List TypeNode) (once : Once (base.nodes ++ nodes)) (node : TypeNode) (added : IsAdded node (base.nodes ++ own.nodes) (base.nodes ++ nodes)) where
    pub Grows-interned : Grows (joined base own) (joined base (record own { nodes = nodes }))
    Grows-interned = record { names = λ i x h. h; nodes = IsAdded-holds node (base.nodes ++ own.nodes) (base.nodes ++ nodes) added; arities = λ i x h. h }

    pub IsTypeStore-interned : PartsBelow (joined base own) (length (base.nodes ++ own.nodes)) node → HasArity (joined base own) node → IsTypeStore (joined base (record own { nodes = nodes }))
    IsTypeStore-interned parts arity = IsTypeStore-grown (joined base own) (joined base (record own { nodes = nodes })) is Grows-interned is.names_once once node (IsAdded-either node (base.nodes ++ own.nodes) (base.nodes ++ nodes) added) parts arity

-- after a declaration
pub Grows-declared : (s : TypeStore) (n a : ℕ) → Grows s (with_arity s n a)
Grows-declared s n a = record { names = λ i x h. h; nodes = λ i x h. h; arities = λ i x h. slice_get-left s.arities ((n, a) ∷ []) i x h }

pub IsTypeStore-declared : (s : TypeStore) → IsTypeStore s → (n a : ℕ) → IsTypeStore (with_arity s n a)
IsTypeStore-declared s is n a = IsTypeStore-grown s (with_arity s n a) is (Grows-declared s n a) is.names_once is.nodes_once Bool (λ t n h. inl h) tt tt

-- a declaration to the second part of a store is one to the whole
pub declared_joined : (base own : TypeStore) (n a : ℕ) → joined base (with_arity own n a) ≡ with_arity (joined base own) n a
declared_joined base own n a =
    let e : base.arities ++ (own.arities ++ (n, a) ∷ []) ≡ (base.arities ++ own.arities) ++ (n, a) ∷ [] = simp append_assoc in
    λ i. record { names = base.names ++ own.names; arities = e i; nodes = base.nodes ++ own.nodes }

-- a store that holds nothing
pub IsTypeStore-empty : IsTypeStore empty_types
IsTypeStore-empty = record {
  names_once = λ i j x h k. absurd (none-some x h);
  nodes_once = λ i j x h k. absurd (none-some x h);
  parts = λ t n h. absurd (none-some n h);
  arities = λ t n h. absurd (none-some n h);
}

-- equal texts have one number
pub names_apart : (s : TypeStore) → IsTypeStore s → NamesApart s
names_apart s is n m here there e = Once-get_or s.names is.names_once n m [] here there e

pub trees_apart : (s : TypeStore) → IsTypeStore s → TreesApart s
trees_apart s is = type_tree-injective s is

-- the text of a name that stands in the list
pub text_at : (s : TypeStore) (n : ℕ) (text : List ℕ) → slice_get s.names n ≡ Some text → text_of s n ≡ text
text_at s n text h = get_or_from_slice_get s.names n text [] h

pub name_there : (s : TypeStore) (n : ℕ) (text : List ℕ) → slice_get s.names n ≡ Some text → HasName s n
name_there s n text h = slice_get_within s.names n text h

pub none_from_test : {X : Type 0} (r : Option X) → is_some r ≡ false → r ≡ None
none_from_test None e = refl
none_from_test (Some x) e = cc

pub eqb_sound : (a b : ℕ) → eqb a b ≡ true → a ≡ b
eqb_sound = eqb-true

pub eqb_complete : (a b : ℕ) → eqb a b ≡ false → a ≡ b → ⊥
eqb_complete a b e f = cc (eq-eqb a b f)

pub not_eqb : (a b : ℕ) → (a ≡ b → ⊥) → not (eqb a b) ≡ true
not_eqb a b differ = by (eqb a b) refl
  where
    by : (r : Truth) → eqb a b ≡ r → not r ≡ true
    by true e = absurd (differ (eqb-true a b e))
    by false e = refl

-- a node whose parts are there stands for the same tree in a store that has grown
pub tree_of-grows : (s u : TypeStore) → IsTypeStore s → Grows s u → (n : TypeNode) → PartsBelow s (length s.nodes) n → tree_of u n ≡ tree_of s n
tree_of-grows s u is grows n parts = sym (node_tree-same s u grows (λ t. type_tree s t) (λ t. type_tree u t) (length s.nodes) (λ t h. sym (type_tree-grows s u is grows t h)) n parts)

pub interned_tree : (s u : TypeStore) → IsTypeStore s → IsTypeStore u → Grows s u → (n : TypeNode) → PartsBelow s (length s.nodes) n → (t : ℕ) → slice_get u.nodes t ≡ Some n → type_tree u t ≡ tree_of s n
interned_tree s u is lawful grows n parts t at = type_tree-step u lawful t n at ∙ tree_of-grows s u is grows n parts
