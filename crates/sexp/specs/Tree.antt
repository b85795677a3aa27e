-- The trees of a text: atoms, quoted atoms and lists, each with the place of its first byte.
use Rattle.std.specs.Prelude.{ℕ, ◌+◌, List, Option, Some, None}

mutual
  -- a tree, an atom with its text, which is for a quoted atom what stands between the bars
  pub data Tree : Type 0 where
    AtomTree : (at : ℕ) → (text : List ℕ) → Tree
    QuotedTree : (at : ℕ) → (text : List ℕ) → Tree
    ListTree : (at : ℕ) → (parts : Trees) → Tree

  -- trees in the order of the text
  pub data Trees : Type 0 where
    no_trees : Trees
    more_trees : (first : Tree) → (rest : Trees) → Trees

-- where a tree begins
abbrev pub place : Tree → ℕ
place (AtomTree at text) = at
place (QuotedTree at text) = at
place (ListTree at parts) = at

-- how many trees there are
abbrev pub count : Trees → ℕ
count no_trees = 0
count (more_trees tree trees) = count trees + 1

-- the text of an atom, quoted or not
abbrev pub text_of : Tree → Option (List ℕ)
text_of (AtomTree at text) = Some text
text_of (QuotedTree at text) = Some text
text_of (ListTree at parts) = None
