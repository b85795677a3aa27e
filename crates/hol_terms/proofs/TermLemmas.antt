-- Trees by numbers: a term's tree is its node's, stays where the store grows, and tells the terms apart.
use Rattle.std.proofs.Common.{◌≡◌, ℕ, zero, suc, ◌<◌, ◌≤◌, ◌⊎◌, List, [], ◌∷◌, ◌++◌, length, slice_get, Some, refl, sym, ap, ◌∙◌, subst, inl, inr, arith, pos, append_assoc, length-append}
use Rattle.std.proofs.lemmas.List.{append-nil}
use Rattle.std.proofs.lemmas.Option.{slice_get_within, slice_get-get_or, get_or_from_slice_get, none-some}
use Rattle.hol_types.specs.Once.{Absent}
use Rattle.hol_types.specs.Ty.{Ty, FunTy}
use Rattle.hol_types.specs.TypeStore as types
use Rattle.hol_types.specs.declared.node.TypeNode.{TypeNode}
use Rattle.hol_types.specs.declared.node.TypeNode.TheVariants.{Bool, Int, Var, Fun, Cons}
use Rattle.hol_types.specs.TypeStore.{TypeStore, IsTypeStore, HasType, type_tree, text_of}
use Rattle.hol_types.specs.KeepsTypes.{KeepsTypes}
use Rattle.hol_types.proofs.KeepsLemmas.{keeps_types_refl, keeps_types_trans}
use Rattle.hol_types.proofs.MarkLemmas.{back_part}
use Rattle.hol_types.proofs.TypeLemmas.{Holds-get_or, Once-get_or, Holds-length, type_tree-injective, FunTy-parts}
use Rattle.hol_types.proofs.Places.{slice_get-push, slice_get-left, slice_get-last, Once-push}
use Rattle.std.proofs.lemmas.Bool.{cases_lt}
use Rattle.hol_terms.specs.Term.{Term, FreeTm, BoundTm, ConstTm, AppTm, LamTm, Typed, ty_of, result_ty}
use Rattle.hol_terms.specs.Reach.{reach_of}
use Rattle.hol_terms.specs.TermStore.{TermStore, node_at, node_tree, tree_within, term_tree, tree_of, HasTerm, PartsBelow, HasParts, IsTermShape, IsTermStore, GrowsTo, TermsApart, Applies, joined, empty_store, Keeps}
use Rattle.hol_terms.specs.declared.node.Node.{Node}
use Rattle.hol_terms.specs.declared.node.Node.TheVariants.{Free, Bound, Const, Num, App, Lam}

pub GrowsTo-refl : (s : TermStore) → GrowsTo s s
GrowsTo-refl s = record { types = keeps_types_refl s.types; nodes = λ i x h. h; tys = λ i x h. h; reaches = λ i x h. h }

pub GrowsTo-trans : {s t u : TermStore} → GrowsTo s t → GrowsTo t u → GrowsTo s u
GrowsTo-trans g h = record {
  types = keeps_types_trans g.types h.types;
  nodes = λ i x k. h.nodes i x (g.nodes i x k);
  tys = λ i x k. h.tys i x (g.tys i x k);
  reaches = λ i x k. h.reaches i x (g.reaches i x k);
}

node_tree-same : (s u : TermStore) → GrowsTo s u → (f g : ℕ → Term) (top : ℕ) → ((t : ℕ) → t < top → f t ≡ g t) → (n : Node) → PartsBelow s top n → node_tree s f n ≡ node_tree u g n
node_tree-same s u grows f g top same (Free k n t) p =
    let e = grows.types.texts n p.0 in
    let r = grows.types.trees t p.1 in
    cc
node_tree-same s u grows f g top same (Bound i t) p = let r = grows.types.trees t p in cc
node_tree-same s u grows f g top same (Const n t) p =
    let e = grows.types.texts n p.0 in
    let r = grows.types.trees t p.1 in
    cc
node_tree-same s u grows f g top same (Num z) p = refl
node_tree-same s u grows f g top same (App a b) p = let e = same a p.0 in let r = same b p.1 in cc
node_tree-same s u grows f g top same (Lam t b) p = let e = grows.types.trees t p.0 in let r = same b p.1 in cc

-- how often is looked up doesn't matter, and what is added neither
tree_within-same : (s u : TermStore) → IsTermShape s → GrowsTo s u → (k l t : ℕ) → t < k → t < l → HasTerm s t → tree_within s k t ≡ tree_within u l t
unfolding tree_within
tree_within-same s u is grows zero l t a b has = absurd (omega arith)
tree_within-same s u is grows (suc k) zero t a b has = absurd (omega arith)
tree_within-same s u is grows (suc k) (suc l) t a b has =
    let here : node_at u t ≡ node_at s t = Holds-get_or s.nodes u.nodes grows.nodes t (Num (pos 0)) has in
    let parts = is.parts t (node_at s t) (slice_get-get_or s.nodes t (Num (pos 0)) has) in
    let same : (v : ℕ) → v < t → tree_within s k v ≡ tree_within u l v = λ v h. tree_within-same s u is grows k l v (omega arith) (omega arith) (omega arith) in
    node_tree-same s u grows (λ v. tree_within s k v) (λ v. tree_within u l v) t same (node_at s t) parts ∙ ap (λ n. node_tree u (λ v. tree_within u l v) n) (sym here)

-- a term keeps its tree
pub term_tree-grows : (s u : TermStore) → IsTermShape s → GrowsTo s u → (t : ℕ) → HasTerm s t → term_tree u t ≡ term_tree s t
unfolding term_tree
term_tree-grows s u is grows t has = sym (tree_within-same s u is grows (suc t) (suc t) t (omega arith) (omega arith) has)

-- the tree of a term is that of its node
pub term_tree-step : (s : TermStore) → IsTermShape s → (t : ℕ) (n : Node) → slice_get s.nodes t ≡ Some n → term_tree s t ≡ tree_of s n
unfolding term_tree tree_within
term_tree-step s is t n at =
    let has = slice_get_within s.nodes t n at in
    let here : node_at s t ≡ n = get_or_from_slice_get s.nodes t n (Num (pos 0)) at in
    let same : (v : ℕ) → v < t → tree_within s t v ≡ term_tree s v = λ v h. tree_within-same s s is (GrowsTo-refl s) t (suc v) v h (omega arith) (omega arith) in
    ap (λ m. node_tree s (λ v. tree_within s t v) m) here ∙ node_tree-same s s (GrowsTo-refl s) (λ v. tree_within s t v) (λ v. term_tree s v) t same n (is.parts t n at)

-- a node whose parts are there stands for the same tree in a store that has grown
pub tree_of-grows : (s u : TermStore) → IsTermShape s → GrowsTo s u → (n : Node) → HasParts s n → tree_of u n ≡ tree_of s n
tree_of-grows s u is grows n parts = sym (node_tree-same s u grows (λ t. term_tree s t) (λ t. term_tree u t) (length s.nodes) (λ t h. sym (term_tree-grows s u is grows t h)) n parts)

FreeTm-parts : (k l : _) (n m : List ℕ) (t u : Ty) → FreeTm k n t ≡ FreeTm l m u → (k ≡ l) × (n ≡ m) × (t ≡ u)
FreeTm-parts k l n m t u e = (cc, cc, cc)

BoundTm-parts : (i j : ℕ) (t u : Ty) → BoundTm i t ≡ BoundTm j u → (i ≡ j) × (t ≡ u)
BoundTm-parts i j t u e = (cc, cc)

ConstTm-parts : (n m : List ℕ) (t u : Ty) → ConstTm n t ≡ ConstTm m u → (n ≡ m) × (t ≡ u)
ConstTm-parts n m t u e = (cc, cc)

AppTm-parts : (f g x y : Term) → AppTm f x ≡ AppTm g y → (f ≡ g) × (x ≡ y)
AppTm-parts f g x y e = (cc, cc)

LamTm-parts : (t u : Ty) (b c : Term) → LamTm t b ≡ LamTm u c → (t ≡ u) × (b ≡ c)
LamTm-parts t u b c e = (cc, cc)

module _ (s : TermStore) (is : IsTypeStore s.types) (tree : ℕ → Term) (top other : ℕ) (apart : (a b : ℕ) → a < top → b < other → tree a ≡ tree b → a ≡ b) where
  same_type : (t u : ℕ) → HasType s.types t → HasType s.types u → type_tree s.types t ≡ type_tree s.types u → t ≡ u
  same_type = type_tree-injective s.types is

  same_name : (n m : ℕ) → n < length s.types.names → m < length s.types.names → text_of s.types n ≡ text_of s.types m → n ≡ m
  same_name n m p q e = Once-get_or s.types.names is.names_once n m [] p q e

  node_tree-apart : (n m : Node) → PartsBelow s top n → PartsBelow s other m → node_tree s tree n ≡ node_tree s tree m → n ≡ m
  node_tree-apart (Free k n t) (Free l m u) p q e =
      let parts = FreeTm-parts k l _ _ _ _ e in
      let kind = parts.0 in
      let name = same_name n m p.0 q.0 parts.1 in
      let type = same_type t u p.1 q.1 parts.2 in
      cc
  node_tree-apart (Bound i t) (Bound j u) p q e =
      let parts = BoundTm-parts i j _ _ e in
      let index = parts.0 in
      let type = same_type t u p q parts.1 in
      cc
  node_tree-apart (Const n t) (Const m u) p q e =
      let parts = ConstTm-parts _ _ _ _ e in
      let name = same_name n m p.0 q.0 parts.0 in
      let type = same_type t u p.1 q.1 parts.1 in
      cc
  node_tree-apart (Num z) (Num w) p q e = cc
  node_tree-apart (App f x) (App g y) p q e =
      let parts = AppTm-parts _ _ _ _ e in
      let function = apart f g p.0 q.0 parts.0 in
      let argument = apart x y p.1 q.1 parts.1 in
      cc
  node_tree-apart (Lam t b) (Lam u c) p q e =
      let parts = LamTm-parts _ _ _ _ e in
      let type = same_type t u p.0 q.0 parts.0 in
      let body = apart b c p.1 q.1 parts.1 in
      cc
  node_tree-apart (Free k n t) m p q e = cc
  node_tree-apart (Bound i t) m p q e = cc
  node_tree-apart (Const n t) m p q e = cc
  node_tree-apart (Num z) m p q e = cc
  node_tree-apart (App f x) m p q e = cc
  node_tree-apart (Lam t b) m p q e = cc

term_tree-apart : (s : TermStore) → IsTermShape s → (k t u : ℕ) → t < k → HasTerm s t → HasTerm s u → term_tree s t ≡ term_tree s u → t ≡ u
term_tree-apart s is zero t u a has_t has_u e = absurd (omega arith)
term_tree-apart s is (suc k) t u a has_t has_u e =
    let at_t = slice_get-get_or s.nodes t (Num (pos 0)) has_t in
    let at_u = slice_get-get_or s.nodes u (Num (pos 0)) has_u in
    let apart : (v w : ℕ) → v < t → w < u → term_tree s v ≡ term_tree s w → v ≡ w = λ v w h i f. term_tree-apart s is k v w (omega arith) (omega arith) (omega arith) f in
    let same = sym (term_tree-step s is t (node_at s t) at_t) ∙ e ∙ term_tree-step s is u (node_at s u) at_u in
    let nodes = node_tree-apart s is.types (λ v. term_tree s v) t u apart (node_at s t) (node_at s u) (is.parts t (node_at s t) at_t) (is.parts u (node_at s u) at_u) same in
    Once-get_or s.nodes is.once t u (Num (pos 0)) has_t has_u nodes

-- equal trees have one number
pub term_tree-injective : (s : TermStore) → IsTermShape s → TermsApart s
term_tree-injective s is t u = term_tree-apart s is (suc t) t u (omega arith)

-- whether an application fits, by the numbers of the types
module _ (s : TermStore) (f x tf tx : ℕ) (at_f : type_tree s.types tf ≡ ty_of (term_tree s f)) (at_x : type_tree s.types tx ≡ ty_of (term_tree s x)) where
  module _ (a b : ℕ) (at : type_tree s.types tf ≡ FunTy (type_tree s.types a) (type_tree s.types b)) where
    is_fun : ty_of (term_tree s f) ≡ FunTy (type_tree s.types a) (type_tree s.types b)
    is_fun = sym at_f ∙ at

    pub applied_ty : type_tree s.types b ≡ result_ty (ty_of (term_tree s f))
    applied_ty = sym (ap result_ty is_fun)

    pub applied_fit : a ≡ tx → Applies s f x
    applied_fit e =
        let argument : type_tree s.types a ≡ ty_of (term_tree s x) = ap (λ t. type_tree s.types t) e ∙ at_x in
        is_fun ∙ (λ i. FunTy (argument i) (applied_ty i))

    pub applied_unfit : types.TreesApart s.types → HasType s.types a → HasType s.types tx → (a ≡ tx → ⊥) → Applies s f x → ⊥
    applied_unfit apart has_a has_x differ applies =
        let parts = FunTy-parts _ _ _ _ (sym is_fun ∙ applies) in
        differ (apart a tx has_a has_x (parts.0 ∙ sym at_x))

  pub applied_other : (n : TypeNode) → type_tree s.types tf ≡ types.tree_of s.types n → ((a b : ℕ) → n ≡ Fun a b → ⊥) → Applies s f x → ⊥
  applied_other n at other applies = by n other (sym at ∙ at_f ∙ applies)
    where
      by : {r u : Ty} (m : TypeNode) → ((a b : ℕ) → m ≡ Fun a b → ⊥) → types.tree_of s.types m ≡ FunTy r u → ⊥
      by (Fun a b) not_fun e = not_fun a b refl
      by Bool not_fun e = cc
      by Int not_fun e = cc
      by (Var n) not_fun e = cc
      by (Cons n ts) not_fun e = cc

-- ---- one step of a store

PartsBelow-grows : (s u : TermStore) → GrowsTo s u → (top : ℕ) (n : Node) → PartsBelow s top n → PartsBelow u top n
PartsBelow-grows s u g top (Free k n t) p = (g.types.names n p.0, g.types.types t p.1)
PartsBelow-grows s u g top (Bound i t) p = g.types.types t p
PartsBelow-grows s u g top (Const n t) p = (g.types.names n p.0, g.types.types t p.1)
PartsBelow-grows s u g top (Num z) p = tt
PartsBelow-grows s u g top (App f x) p = p
PartsBelow-grows s u g top (Lam t b) p = (g.types.types t p.0, p.1)

-- where only types are added, the terms stay
module _ (s : TermStore) (is : IsTermStore s) (more : TypeStore) (lawful : IsTypeStore more) (grows : KeepsTypes s.types more) where
  abbrev with_types : TermStore
  with_types = record s { types = more }

  pub GrowsTo-types : GrowsTo s (record s { types = more })
  GrowsTo-types = record { types = grows; nodes = λ i x h. h; tys = λ i x h. h; reaches = λ i x h. h }

  pub IsTermStore-types : IsTermStore (record s { types = more })
  IsTermStore-types =
      let same : (t : ℕ) → HasTerm s t → term_tree with_types t ≡ term_tree s t = λ t h. term_tree-grows s with_types is.shape GrowsTo-types t h in
      record {
        shape = record { types = lawful; once = is.shape.once; parts = λ t n h. PartsBelow-grows s with_types GrowsTo-types t n (is.shape.parts t n h) };
        typed = λ t h. rw (same t h) (is.typed t h);
        long = is.long;
        tys_there = λ t u h. grows.types u (is.tys_there t u h);
        tys_fit = λ t u h.
            let there : HasTerm s t = let k = slice_get_within s.tys t u h in omega (arith, is.long) in
            rw (same t there) (grows.trees u (is.tys_there t u h) ∙ is.tys_fit t u h);
        reaches_long = is.reaches_long;
        reaches_fit = λ t r h.
            let there : HasTerm s t = let k = slice_get_within s.reaches t r h in omega (arith, is.reaches_long) in
            rw (same t there) (is.reaches_fit t r h);
      }

-- a store with one more term
abbrev pub pushed : TermStore → Node → ℕ → ℕ → TermStore
pushed s node ty reach = record s { nodes = s.nodes ++ node ∷ []; tys = s.tys ++ ty ∷ []; reaches = s.reaches ++ reach ∷ [] }

pub GrowsTo-pushed : (s : TermStore) (node : Node) (ty reach : ℕ) → GrowsTo s (pushed s node ty reach)
GrowsTo-pushed s node ty reach = record {
  types = keeps_types_refl s.types;
  nodes = λ i x h. slice_get-left s.nodes (node ∷ []) i x h;
  tys = λ i x h. slice_get-left s.tys (ty ∷ []) i x h;
  reaches = λ i x h. slice_get-left s.reaches (reach ∷ []) i x h;
}

module _ (s : TermStore) (is : IsTermStore s) (node : Node) (ty reach : ℕ) (absent : Absent s.nodes node) (parts : HasParts s node)
    (typed : Typed (tree_of s node)) (there : HasType s.types ty) (fits : type_tree s.types ty ≡ ty_of (tree_of s node)) (reaches : reach ≡ reach_of (tree_of s node)) where
  shape_parts : (t : ℕ) (n : Node) → (slice_get s.nodes t ≡ Some n) ⊎ ((t ≡ length s.nodes) × (node ≡ n)) → PartsBelow s t n
  shape_parts t n (inl h) = is.shape.parts t n h
  shape_parts t n (inr h) = subst (λ m. PartsBelow s t m) h.1 (subst (λ i. PartsBelow s i node) (sym h.0) parts)

  pub IsTermShape-pushed : IsTermShape (pushed s node ty reach)
  IsTermShape-pushed = record {
    types = is.shape.types;
    once = Once-push s.nodes node is.shape.once absent;
    parts = λ t n h. PartsBelow-grows s (pushed s node ty reach) (GrowsTo-pushed s node ty reach) t n (shape_parts t n (slice_get-push s.nodes node t n h));
  }

  old_tree : (t : ℕ) → HasTerm s t → term_tree (pushed s node ty reach) t ≡ term_tree s t
  old_tree t h = term_tree-grows s (pushed s node ty reach) is.shape (GrowsTo-pushed s node ty reach) t h

  new_tree : term_tree (pushed s node ty reach) (length s.nodes) ≡ tree_of s node
  new_tree = term_tree-step (pushed s node ty reach) IsTermShape-pushed (length s.nodes) node (slice_get-last s.nodes node) ∙ tree_of-grows s (pushed s node ty reach) is.shape (GrowsTo-pushed s node ty reach) node parts

  pushed_typed : (t : ℕ) → HasTerm (pushed s node ty reach) t → (t < length s.nodes) ⊎ (length s.nodes ≤ t) → Typed (term_tree (pushed s node ty reach) t)
  pushed_typed t h (inl k) = rw (old_tree t k) (is.typed t k)
  pushed_typed t h (inr k) =
      let last : t ≡ length s.nodes = omega (arith, length-append s.nodes (node ∷ [])) in
      rw (last, new_tree) typed

  pushed_fit : (t u : ℕ) → (slice_get s.tys t ≡ Some u) ⊎ ((t ≡ length s.tys) × (ty ≡ u)) → type_tree s.types u ≡ ty_of (term_tree (pushed s node ty reach) t)
  pushed_fit t u (inl h) =
      let k : HasTerm s t = let w = slice_get_within s.tys t u h in omega (arith, is.long) in
      is.tys_fit t u h ∙ ap ty_of (sym (old_tree t k))
  pushed_fit t u (inr h) =
      let last : t ≡ length s.nodes = h.0 ∙ is.long in
      ap (λ v. type_tree s.types v) (sym h.1) ∙ fits ∙ ap ty_of (sym new_tree) ∙ ap (λ i. ty_of (term_tree (pushed s node ty reach) i)) (sym last)

  pushed_there : (t u : ℕ) → (slice_get s.tys t ≡ Some u) ⊎ ((t ≡ length s.tys) × (ty ≡ u)) → HasType s.types u
  pushed_there t u (inl h) = is.tys_there t u h
  pushed_there t u (inr h) = subst (λ v. HasType s.types v) h.1 there

  pushed_reach : (t r : ℕ) → (slice_get s.reaches t ≡ Some r) ⊎ ((t ≡ length s.reaches) × (reach ≡ r)) → r ≡ reach_of (term_tree (pushed s node ty reach) t)
  pushed_reach t r (inl h) =
      let k : HasTerm s t = let w = slice_get_within s.reaches t r h in omega (arith, is.reaches_long) in
      is.reaches_fit t r h ∙ ap reach_of (sym (old_tree t k))
  pushed_reach t r (inr h) =
      let last : t ≡ length s.nodes = h.0 ∙ is.reaches_long in
      sym h.1 ∙ reaches ∙ ap reach_of (sym new_tree) ∙ ap (λ i. reach_of (term_tree (pushed s node ty reach) i)) (sym last)

  pub IsTermStore-pushed : IsTermStore (pushed s node ty reach)
  IsTermStore-pushed = record {
    shape = IsTermShape-pushed;
    typed = λ t h. pushed_typed t h (cases_lt t (length s.nodes));
    long = let e = is.long in omega (arith, length-append s.nodes (node ∷ []), length-append s.tys (ty ∷ []));
    tys_there = λ t u h. pushed_there t u (slice_get-push s.tys ty t u h);
    tys_fit = λ t u h. pushed_fit t u (slice_get-push s.tys ty t u h);
    reaches_long = let e = is.reaches_long in omega (arith, length-append s.nodes (node ∷ []), length-append s.reaches (reach ∷ []));
    reaches_fit = λ t r h. pushed_reach t r (slice_get-push s.reaches reach t r h);
  }

pub pushed-joined : (base own : TermStore) (node : Node) (ty reach : ℕ) → pushed (joined base own) node ty reach ≡ joined base (pushed own node ty reach)
pushed-joined base own node ty reach =
    let nodes : (base.nodes ++ own.nodes) ++ node ∷ [] ≡ base.nodes ++ (own.nodes ++ node ∷ []) = simp append_assoc in
    let tys : (base.tys ++ own.tys) ++ ty ∷ [] ≡ base.tys ++ (own.tys ++ ty ∷ []) = simp append_assoc in
    let reaches : (base.reaches ++ own.reaches) ++ reach ∷ [] ≡ base.reaches ++ (own.reaches ++ reach ∷ []) = simp append_assoc in
    λ i. record { types = types.joined base.types own.types; nodes = nodes i; tys = tys i; reaches = reaches i }

-- the parts of a node are still there
pub HasParts-grows : (s u : TermStore) → GrowsTo s u → (n : Node) → HasParts s n → u.nodes ≡ s.nodes → HasParts u n
HasParts-grows s u g n p e = rw e (PartsBelow-grows s u g (length s.nodes) n p)

-- a node that stands in the store is typed
pub typed_there : (s : TermStore) → IsTermStore s → (t : ℕ) (n : Node) → slice_get s.nodes t ≡ Some n → Typed (tree_of s n)
typed_there s is t n at = subst (λ u. Typed u) (term_tree-step s is.shape t n at) (is.typed t (slice_get_within s.nodes t n at))

-- a term's tree is what its node stood for before
pub interned_tree : (s u : TermStore) → IsTermShape s → IsTermShape u → GrowsTo s u → (n : Node) → HasParts s n → (t : ℕ) → slice_get u.nodes t ≡ Some n → term_tree u t ≡ tree_of s n
interned_tree s u is lawful grows n parts t at = term_tree-step u lawful t n at ∙ tree_of-grows s u is grows n parts

pub joined-nothing : (s : TermStore) → joined s empty_store ≡ s
joined-nothing s = λ i. record {
  types = record { names = append-nil s.types.names i; arities = append-nil s.types.arities i; nodes = append-nil s.types.nodes i };
  nodes = append-nil s.nodes i;
  tys = append-nil s.tys i;
  reaches = append-nil s.reaches i;
}

pub empty-lawful : IsTermStore empty_store
empty-lawful = record {
  shape = record {
    types = record {
      names_once = λ i j x h k. absurd (none-some x h);
      nodes_once = λ i j x h k. absurd (none-some x h);
      parts = λ t n h. absurd (none-some n h);
      arities = λ t n h. absurd (none-some n h);
    };
    once = λ i j x h k. absurd (none-some x h);
    parts = λ t n h. absurd (none-some n h);
  };
  typed = λ t h. absurd (omega arith);
  long = refl;
  tys_there = λ t u h. absurd (none-some u h);
  tys_fit = λ t u h. absurd (none-some u h);
  reaches_long = refl;
  reaches_fit = λ t r h. absurd (none-some r h);
}

-- a store that has grown keeps what it had
pub Keeps-from_grows : (s u : TermStore) → IsTermShape s → GrowsTo s u → Keeps s u
Keeps-from_grows s u is grows = record {
  names = grows.types.names;
  texts = grows.types.texts;
  types = grows.types.types;
  type_trees = grows.types.trees;
  arities = grows.types.arities;
  terms = λ t h. Holds-length s.nodes u.nodes grows.nodes t h;
  trees = λ t h. term_tree-grows s u is grows t h;
  back = λ m fits.
      let types = grows.types.back m.types fits.types in
      let nodes = back_part s.nodes u.nodes grows.nodes m.nodes fits.nodes in
      let tys = back_part s.tys u.tys grows.tys m.nodes fits.tys in
      let reaches = back_part s.reaches u.reaches grows.reaches m.nodes fits.reaches in
      λ i. record { types = types i; nodes = nodes i; tys = tys i; reaches = reaches i };
}
