-- What is kept of terms: the types, and nodes by number, with the numbers of their types and how far their loose
-- Bounds reach. A number stands for a tree.
use Rattle.std.specs.Prelude.{◌≡◌, ℕ, zero, suc, ◌<◌, ◌≤◌, List, [], ◌++◌, length, take, slice_get, slice_index_or, Some, pos}
use Rattle.hol_types.specs.Once.{Once, Holds}
use Rattle.hol_types.specs.Ty.{FunTy}
use Rattle.hol_types.specs.KeepsTypes.{KeepsTypes}
use Rattle.hol_types.specs.TypeStore.{TypeStore, IsTypeStore, HasName, HasType, type_tree, text_of, arity_of, empty_types}
use Rattle.hol_types.specs.TypeStore as types
use Rattle.hol_types.specs.TypeMark as type_mark
use Rattle.hol_terms.specs.Term.{Term, FreeTm, BoundTm, ConstTm, NumTm, AppTm, LamTm, Typed, ty_of, result_ty}
use Rattle.hol_terms.specs.Reach.{reach_of}
use Rattle.hol_terms.specs.declared.node.Node.{Node}
use Rattle.hol_terms.specs.declared.node.Node.TheVariants.{Free, Bound, Const, Num, App, Lam}
use Rattle.hol_terms.specs.declared.tables.Mark.{Mark}

pub record TermStore : Type 0 where
  pub types : TypeStore
  -- the terms, each by the numbers of its parts
  pub nodes : List Node
  -- the numbers of their types
  pub tys : List ℕ
  -- how far their loose Bounds reach
  pub reaches : List ℕ

-- nothing is held
abbrev pub empty_store : TermStore
empty_store = record { types = empty_types; nodes = []; tys = []; reaches = [] }

-- the node at a number
abbrev pub node_at : TermStore → ℕ → Node
node_at s t = slice_index_or s.nodes t (Num (pos 0))

-- the tree of a node whose parts have the trees given
abbrev pub node_tree : TermStore → (ℕ → Term) → Node → Term
node_tree s tree (Free k n t) = FreeTm k (text_of s.types n) (type_tree s.types t)
node_tree s tree (Bound i t) = BoundTm i (type_tree s.types t)
node_tree s tree (Const n t) = ConstTm (text_of s.types n) (type_tree s.types t)
node_tree s tree (Num z) = NumTm z
node_tree s tree (App f x) = AppTm (tree f) (tree x)
node_tree s tree (Lam t b) = LamTm (type_tree s.types t) (tree b)

-- the tree at a number, whose parts are looked up so many times
unfoldable pub tree_within : TermStore → ℕ → ℕ → Term
tree_within s zero t = NumTm (pos 0)
tree_within s (suc k) t = node_tree s (λ u. tree_within s k u) (node_at s t)

-- the tree at a number
unfoldable pub term_tree : TermStore → ℕ → Term
term_tree s t = tree_within s (suc t) t

-- the tree that a node stands for
abbrev pub tree_of : TermStore → Node → Term
tree_of s n = node_tree s (λ t. term_tree s t) n

-- there is such a term
abbrev pub HasTerm : TermStore → ℕ → Type 0
HasTerm s t = t < length s.nodes

-- the parts of a node stand below a number, and its names and types are there
abbrev pub PartsBelow : TermStore → ℕ → Node → Type 0
PartsBelow s top (Free k n t) = HasName s.types n × HasType s.types t
PartsBelow s top (Bound i t) = HasType s.types t
PartsBelow s top (Const n t) = HasName s.types n × HasType s.types t
PartsBelow s top (Num z) = Unit {0}
PartsBelow s top (App f x) = (f < top) × (x < top)
PartsBelow s top (Lam t b) = HasType s.types t × (b < top)

-- the parts of a node are there
abbrev pub HasParts : TermStore → Node → Type 0
HasParts s n = PartsBelow s (length s.nodes) n

-- each term is kept once, and its parts before it
pub record IsTermShape (s : TermStore) : Type 0 where
  pub types : IsTypeStore s.types
  pub once : Once s.nodes
  pub parts : (t : ℕ) (n : Node) → slice_get s.nodes t ≡ Some n → PartsBelow s t n

-- and each is typed, with the number of its type and its reach beside it
pub record IsTermStore (s : TermStore) : Type 0 where
  pub shape : IsTermShape s
  pub typed : (t : ℕ) → HasTerm s t → Typed (term_tree s t)
  pub long : length s.tys ≡ length s.nodes
  pub tys_there : (t u : ℕ) → slice_get s.tys t ≡ Some u → HasType s.types u
  pub tys_fit : (t u : ℕ) → slice_get s.tys t ≡ Some u → type_tree s.types u ≡ ty_of (term_tree s t)
  pub reaches_long : length s.reaches ≡ length s.nodes
  pub reaches_fit : (t r : ℕ) → slice_get s.reaches t ≡ Some r → r ≡ reach_of (term_tree s t)

-- what is there stays, terms in their places
pub record GrowsTo (old new : TermStore) : Type 0 where
  pub types : KeepsTypes old.types new.types
  pub nodes : Holds old.nodes new.nodes
  pub tys : Holds old.tys new.tys
  pub reaches : Holds old.reaches new.reaches

-- terms with equal trees have one number
abbrev pub TermsApart : TermStore → Type 0
TermsApart s = (t u : ℕ) → HasTerm s t → HasTerm s u → term_tree s t ≡ term_tree s u → t ≡ u

-- the one term may be applied to the other
abbrev pub Applies : TermStore → ℕ → ℕ → Type 0
Applies s f x = ty_of (term_tree s f) ≡ FunTy (ty_of (term_tree s x)) (result_ty (ty_of (term_tree s f)))

-- ---- two stores, one after the other

-- what both hold
abbrev pub joined : TermStore → TermStore → TermStore
joined base own = record {
  types = types.joined base.types own.types;
  nodes = base.nodes ++ own.nodes;
  tys = base.tys ++ own.tys;
  reaches = base.reaches ++ own.reaches;
}

-- the first holds nothing
pub record IsAlone (none own : TermStore) : Type 0 where
  pub nothing : none ≡ empty_store
  pub lawful : IsTermStore (joined none own)

-- ---- a store that goes on

-- how much a store holds
abbrev pub mark_of : TermStore → Mark
mark_of s = record { types = type_mark.mark_of s.types; nodes = length s.nodes }

-- what a store held at a mark
abbrev pub cut : Mark → TermStore → TermStore
cut m s = record { types = type_mark.cut m.types s.types; nodes = take m.nodes s.nodes; tys = take m.nodes s.tys; reaches = take m.nodes s.reaches }

-- a store holds no less than at the mark
pub record FitsMark (m : Mark) (s : TermStore) : Type 0 where
  pub types : type_mark.FitsMark m.types s.types
  pub nodes : m.nodes ≤ length s.nodes
  pub tys : m.nodes ≤ length s.tys
  pub reaches : m.nodes ≤ length s.reaches

-- the second mark isn't below the first
pub record IsBelow (low m : Mark) : Type 0 where
  pub names : low.types.names ≤ m.types.names
  pub arities : low.types.arities ≤ m.types.arities
  pub types : low.types.nodes ≤ m.types.nodes
  pub nodes : low.nodes ≤ m.nodes

-- each number given before stays, and stands for what it stood for
pub record Keeps (old new : TermStore) : Type 0 where
  -- each name is still there
  pub names : (n : ℕ) → HasName old.types n → HasName new.types n
  -- and has its text
  pub texts : (n : ℕ) → HasName old.types n → text_of new.types n ≡ text_of old.types n
  -- each type is still there
  pub types : (t : ℕ) → HasType old.types t → HasType new.types t
  -- and stands for its tree
  pub type_trees : (t : ℕ) → HasType old.types t → type_tree new.types t ≡ type_tree old.types t
  -- each declared constructor has its number of arguments
  pub arities : (n a : ℕ) → arity_of old.types n ≡ Some a → arity_of new.types n ≡ Some a
  -- each term is still there
  pub terms : (t : ℕ) → HasTerm old t → HasTerm new t
  -- and stands for its tree
  pub trees : (t : ℕ) → HasTerm old t → term_tree new t ≡ term_tree old t
  -- what was held at a mark is held there still
  pub back : (m : Mark) → FitsMark m old → cut m new ≡ cut m old

-- ---- a store over a base

-- what a store over a base holds, and how much of it is the base's
pub record StoreState : Type 0 where
  pub store : TermStore
  pub base : Mark

-- what was held at the mark is a store, which has the base's part whole
pub record MayReset (m : Mark) (s : StoreState) : Type 0 where
  pub base : IsBelow s.base m
  pub fits : FitsMark m s.store
  pub lawful : IsTermStore (cut m s.store)
