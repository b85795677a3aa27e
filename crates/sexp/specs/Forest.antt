-- The trees that records in text order stand for.
use Rattle.std.specs.Prelude.{◌≡◌, ℕ, zero, suc, ◌+◌, ◌-◌, ◌<◌, ◌≤◌, List, length, nat_lt, slice_index_or, if◌then◌else◌, Option, Some, None}
use Rattle.sexp.specs.Tree.{Tree, Trees, AtomTree, QuotedTree, ListTree, no_trees, more_trees, place}
use Rattle.sexp.specs.declared.rec.Rec.{Rec}
use Rattle.sexp.specs.declared.rec.RecKind.{RecKind}
use Rattle.sexp.specs.declared.rec.RecKind.TheVariants as kinds

-- what a tree is: a list, whose parts stand behind it, or an atom with its text
pub data Body : Type 0 where
  ListBody : Body
  AtomBody : (text : List ℕ) → Body
  QuotedBody : (text : List ℕ) → Body

-- what is kept of a tree: the place of its first byte and that behind its last one, what it is, and the
-- number of the first record past it
pub record Kept : Type 0 where
  pub start : ℕ
  pub end : ℕ
  pub body : Body
  pub after : ℕ

-- the record of a number
abbrev pub kept_at : List Kept → ℕ → Kept
kept_at forest i = slice_index_or forest i (record { start = 0; end = 0; body = ListBody; after = 0 })

-- the number of the first record past a tree
abbrev pub after_of : List Kept → ℕ → ℕ
after_of forest i = (kept_at forest i).after

-- the tree at a place
abbrev pub tree_by : Body → ℕ → Trees → Tree
tree_by ListBody at parts = ListTree at parts
tree_by (AtomBody text) at parts = AtomTree at text
tree_by (QuotedBody text) at parts = QuotedTree at text

-- the trees from one number up to another, so many deep and wide
unfoldable pub trees_within : List Kept → ℕ → ℕ → ℕ → Trees
trees_within forest zero i end = no_trees
trees_within forest (suc k) i end =
    if nat_lt i end
    then more_trees (tree_by (kept_at forest i).body (kept_at forest i).start (trees_within forest k (i + 1) (after_of forest i))) (trees_within forest k (after_of forest i) end)
    else no_trees

-- the trees from one number up to another
unfoldable pub trees_at : List Kept → ℕ → ℕ → Trees
trees_at forest i end = trees_within forest (end - i) i end

-- the tree of a record
unfoldable pub tree_at : List Kept → ℕ → Tree
tree_at forest i = tree_by (kept_at forest i).body (kept_at forest i).start (trees_at forest (i + 1) (after_of forest i))

-- a record has this number
abbrev pub HasTree : List Kept → ℕ → Type 0
HasTree forest i = i < length forest

-- whole trees stand from one number up to another
pub record IsRun (forest : List Kept) (i end : ℕ) : Type 0 where
  pub order : i ≤ end
  pub there : end ≤ length forest
  pub nested : (j : ℕ) → i ≤ j → j < end → after_of forest j ≤ end

-- each tree's parts are a run
abbrev pub IsForest : List Kept → Type 0
IsForest forest = (i : ℕ) → HasTree forest i → IsRun forest (i + 1) (after_of forest i)

-- whether a tree is a list, an atom or a quoted atom
abbrev pub kind_of : Body → RecKind
kind_of ListBody = kinds.List
kind_of (AtomBody text) = kinds.Atom
kind_of (QuotedBody text) = kinds.Quoted

-- the record of a number, as it is told
abbrev pub rec_at : List Kept → ℕ → Rec
rec_at forest i = record {
  start = (kept_at forest i).start;
  end = (kept_at forest i).end;
  kind = kind_of (kept_at forest i).body;
  first = i + 1;
  after = after_of forest i;
}

-- the text of an atom
abbrev pub body_text : Body → Option (List ℕ)
body_text ListBody = None
body_text (AtomBody text) = Some text
body_text (QuotedBody text) = Some text

-- a tree is of that kind, and these are its parts where it is a list
abbrev pub Tells : RecKind → Tree → Trees → Type 0
Tells kinds.List tree parts = tree ≡ ListTree (place tree) parts
Tells kinds.Atom tree parts = (text : List ℕ) × (tree ≡ AtomTree (place tree) text)
Tells kinds.Quoted tree parts = (text : List ℕ) × (tree ≡ QuotedTree (place tree) text)
