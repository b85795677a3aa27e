-- What is asked of trees.
use Rattle.std.specs.Prelude.{ℕ, List, [], Option, Some, None, Bool, true, false}
use Rattle.sexp.specs.Tree.{Tree, Trees, AtomTree, QuotedTree, ListTree, no_trees, more_trees}

-- the text of an atom, and of another tree nothing
abbrev pub text_of : Tree → List ℕ
text_of (AtomTree at text) = text
text_of (QuotedTree at text) = []
text_of (ListTree at parts) = []

-- whether a tree is an atom
abbrev pub is_atom : Tree → Bool
is_atom (AtomTree at text) = true
is_atom (QuotedTree at text) = false
is_atom (ListTree at parts) = false

-- the parts of a list
abbrev pub parts_of : Tree → Option Trees
parts_of (AtomTree at text) = None
parts_of (QuotedTree at text) = None
parts_of (ListTree at parts) = Some parts

-- the tree, where there is just one
abbrev pub one_of : Trees → Option Tree
one_of no_trees = None
one_of (more_trees tree no_trees) = Some tree
one_of (more_trees tree (more_trees second others)) = None

-- there is no tree
abbrev pub is_empty : Trees → Bool
is_empty no_trees = true
is_empty (more_trees tree trees) = false
