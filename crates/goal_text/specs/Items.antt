-- Items: declarations, facts and the goal.
use Rattle.std.specs.Prelude.{ℕ, List, [], ◌∷◌, ◌++◌, Option, Some, None, Ok, ◌&&◌, if◌then◌else◌, nat_lt, bytes_eq, codes}
use Rattle.std.specs.Map.{lookup}
use Rattle.hol_types.specs.Ty.{BoolTy}
use Rattle.hol_types.specs.TyEq.{ty_eq}
use Rattle.hol_terms.specs.Term.{Term, ty_of}
use Rattle.sexp.specs.Tree.{Tree, Trees, AtomTree, QuotedTree, ListTree, no_trees, more_trees}
use Rattle.goal_text.specs.declared.fault.GoalKind.TheVariants.{Syntax, DeclaredTwice, NotBool, TwoGoals}
use Rattle.goal_text.specs.Read.{Read, ◌>>=◌, faulty, wanting}
use Rattle.goal_text.specs.Lexicon.{is_number, value_of, misplaced, one_of, two_of, name_of}
use Rattle.goal_text.specs.Names.{Constructors, Constants, Env, is_nothing}
use Rattle.goal_text.specs.Types.{type_of}
use Rattle.goal_text.specs.Terms.{term_of}

-- what the items so far say, each kind in the order of the text
pub record Items : Type 0 where
  pub types : Constructors
  pub consts : Constants
  pub facts : List Term
  pub goal : Option Term

abbrev pub no_items : Items
no_items = record { types = []; consts = []; facts = []; goal = None }

-- what names stand for in the next item
abbrev pub env_behind : Items → Env
env_behind items = record { types = items.types; consts = items.consts; binders = [] }

-- a number from 0 to 8
unfoldable pub arity_of : Tree → Read ℕ
arity_of (AtomTree at text) = if is_number text && nat_lt (value_of text) 9 then Ok (value_of text) else misplaced (AtomTree at text)
arity_of (QuotedTree at text) = misplaced (QuotedTree at text)
arity_of (ListTree at parts) = misplaced (ListTree at parts)

-- one constructor more
abbrev pub with_type : Items → List ℕ → ℕ → Items
with_type items s n = record items { types = items.types ++ (s, n) ∷ [] }

-- (type s n), by what stands behind the word
unfoldable pub type_item : Items → ℕ → Trees → Read Items
type_item items at parts = do
  both ← two_of at parts
  s ← name_of both.0
  n ← wanting (is_nothing (lookup (bytes_eq s) items.types)) DeclaredTwice at (arity_of both.1)
  Ok (with_type items s n)

-- (const c T)
unfoldable pub const_item : Items → ℕ → Trees → Read Items
const_item items at parts = do
  both ← two_of at parts
  c ← name_of both.0
  t ← wanting (is_nothing (lookup (bytes_eq c) items.consts)) DeclaredTwice at (type_of items.types both.1)
  Ok (record items { consts = items.consts ++ (c, t) ∷ [] })

-- a term of type Bool, for the item at the place
unfoldable pub formula_of : Items → ℕ → Tree → Read Term
formula_of items at tree = do
  t ← term_of (env_behind items) tree
  wanting (ty_eq BoolTy (ty_of t)) NotBool at (Ok t)

-- (fact F)
unfoldable pub fact_item : Items → ℕ → Trees → Read Items
fact_item items at parts = do
  tree ← one_of at parts
  f ← formula_of items at tree
  Ok (record items { facts = items.facts ++ f ∷ [] })

-- (goal F), the only one
unfoldable pub goal_item : Items → ℕ → Trees → Read Items
goal_item items at parts = do
  tree ← one_of at parts
  f ← wanting (is_nothing items.goal) TwoGoals at (formula_of items at tree)
  Ok (record items { goal = Some f })

-- a list by its head
abbrev pub item_by : Items → ℕ → Tree → Trees → Read Items
item_by items at (AtomTree head word) parts =
    if bytes_eq word (codes "type") then type_item items at parts else
    if bytes_eq word (codes "const") then const_item items at parts else
    if bytes_eq word (codes "fact") then fact_item items at parts else
    if bytes_eq word (codes "goal") then goal_item items at parts else faulty Syntax at
item_by items at (QuotedTree head text) parts = faulty Syntax at
item_by items at (ListTree head others) parts = faulty Syntax at

unfoldable pub item_of : Items → Tree → Read Items
item_of items (AtomTree at text) = misplaced (AtomTree at text)
item_of items (QuotedTree at text) = misplaced (QuotedTree at text)
item_of items (ListTree at no_trees) = faulty Syntax at
item_of items (ListTree at (more_trees head parts)) = item_by items at head parts

-- the items in the order of the text
unfoldable pub items_of : Items → Trees → Read Items
items_of items no_trees = Ok items
items_of items (more_trees tree trees) = do
  more ← item_of items tree
  items_of more trees
