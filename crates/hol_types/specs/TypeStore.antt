-- What is kept of types: names, declared constructors, and nodes by number. A number stands for a tree.
use Rattle.std.specs.Prelude.{◌≡◌, ℕ, zero, suc, ◌<◌, List, [], ◌∷◌, ◌++◌, length, slice_get, slice_index_or, nat_eq, Option, Some}
use Rattle.std.specs.List.{AllByRecursion}
use Rattle.std.specs.Map.{lookup}
use Rattle.hol_types.specs.Once.{Once, Holds}
use Rattle.hol_types.specs.Ty.{Ty, Tys, BoolTy, IntTy, VarTy, FunTy, ConsTy, no_types, more_types}
use Rattle.hol_types.specs.declared.node.TypeNode.{TypeNode}
use Rattle.hol_types.specs.declared.node.TypeNode.TheVariants.{Bool, Int, Var, Fun, Cons}

pub record TypeStore : Type 0 where
  -- the texts of the names
  pub names : List (List ℕ)
  -- the declared constructors with their numbers of arguments
  pub arities : List (ℕ × ℕ)
  -- the types, each by the numbers of its parts
  pub nodes : List TypeNode

-- a store that holds nothing
abbrev pub empty_types : TypeStore
empty_types = record { names = []; arities = []; nodes = [] }

-- there is such a name
abbrev pub HasName : TypeStore → ℕ → Type 0
HasName s n = n < length s.names

-- the text of a name
abbrev pub text_of : TypeStore → ℕ → List ℕ
text_of s n = slice_index_or s.names n []

-- names with equal texts have one number
abbrev pub NamesApart : TypeStore → Type 0
NamesApart s = (n m : ℕ) → HasName s n → HasName s m → text_of s n ≡ text_of s m → n ≡ m

-- the number of arguments with which a constructor is declared
abbrev pub arity_of : TypeStore → ℕ → Option ℕ
arity_of s n = lookup (nat_eq n) s.arities

-- the node at a number
abbrev pub node_at : TypeStore → ℕ → TypeNode
node_at s t = slice_index_or s.nodes t Bool

-- the trees of the arguments
abbrev pub trees_of : (ℕ → Ty) → List ℕ → Tys
trees_of tree [] = no_types
trees_of tree (t ∷ ts) = more_types (tree t) (trees_of tree ts)

-- the tree of a node whose parts have the trees given
abbrev pub node_tree : TypeStore → (ℕ → Ty) → TypeNode → Ty
node_tree s tree Bool = BoolTy
node_tree s tree Int = IntTy
node_tree s tree (Var n) = VarTy (text_of s n)
node_tree s tree (Fun a b) = FunTy (tree a) (tree b)
node_tree s tree (Cons n ts) = ConsTy (text_of s n) (trees_of tree ts)

-- the tree at a number, whose parts are looked up so many times
unfoldable pub tree_within : TypeStore → ℕ → ℕ → Ty
tree_within s zero t = BoolTy
tree_within s (suc k) t = node_tree s (λ u. tree_within s k u) (node_at s t)

-- the tree at a number
unfoldable pub type_tree : TypeStore → ℕ → Ty
type_tree s t = tree_within s (suc t) t

-- there is such a type
abbrev pub HasType : TypeStore → ℕ → Type 0
HasType s t = t < length s.nodes

-- the parts of a node stand below a number, and its names are there
abbrev pub PartsBelow : TypeStore → ℕ → TypeNode → Type 0
PartsBelow s top Bool = Unit {0}
PartsBelow s top Int = Unit {0}
PartsBelow s top (Var n) = HasName s n
PartsBelow s top (Fun a b) = (a < top) × (b < top)
PartsBelow s top (Cons n ts) = HasName s n × AllByRecursion (λ t. t < top) ts

-- a constructor has the arguments that it is declared with
abbrev pub HasArity : TypeStore → TypeNode → Type 0
HasArity s Bool = Unit {0}
HasArity s Int = Unit {0}
HasArity s (Var n) = Unit {0}
HasArity s (Fun a b) = Unit {0}
HasArity s (Cons n ts) = arity_of s n ≡ Some (length ts)

-- each name and each type is kept once, and the parts of a type before it
pub record IsTypeStore (s : TypeStore) : Type 0 where
  pub names_once : Once s.names
  pub nodes_once : Once s.nodes
  pub parts : (t : ℕ) (n : TypeNode) → slice_get s.nodes t ≡ Some n → PartsBelow s t n
  pub arities : (t : ℕ) (n : TypeNode) → slice_get s.nodes t ≡ Some n → HasArity s n

-- what is there stays in its place
pub record Grows (old new : TypeStore) : Type 0 where
  pub names : Holds old.names new.names
  pub nodes : Holds old.nodes new.nodes
  pub arities : Holds old.arities new.arities

-- the store with one more constructor declared
abbrev pub with_arity : TypeStore → ℕ → ℕ → TypeStore
with_arity s n arity = record s { arities = s.arities ++ (n, arity) ∷ [] }

-- what two stores hold, the one after the other
abbrev pub joined : TypeStore → TypeStore → TypeStore
joined base own = record { names = base.names ++ own.names; arities = base.arities ++ own.arities; nodes = base.nodes ++ own.nodes }

-- the tree that a node stands for
abbrev pub tree_of : TypeStore → TypeNode → Ty
tree_of s n = node_tree s (λ t. type_tree s t) n

-- types with equal trees have one number
abbrev pub TreesApart : TypeStore → Type 0
TreesApart s = (t u : ℕ) → HasType s t → HasType s u → type_tree s t ≡ type_tree s u → t ≡ u

-- the parts of a node are there
abbrev pub HasTypeParts : TypeStore → TypeNode → Type 0
HasTypeParts s n = PartsBelow s (length s.nodes) n

-- the trees of numbers
abbrev pub trees_at : TypeStore → List ℕ → Tys
trees_at s ts = trees_of (λ t. type_tree s t) ts
