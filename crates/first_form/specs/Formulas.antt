-- The formulas of the first proof form: constants of type Bool, `false`, negations and implications.
use Rattle.std.specs.Prelude.{ℕ, List, [], ◌∷◌, ◌++◌, Option, Some, None, if◌then◌else◌, bytes_eq, codes}
use Rattle.hol_types.specs.Ty.{BoolTy}
use Rattle.hol_terms.specs.Term.{Term, ConstTm}
use Rattle.hol_terms.specs.Constants.{false_tm, negation, implication}
use Rattle.sexp.specs.Tree.{Tree, Trees, AtomTree, QuotedTree, ListTree, no_trees, more_trees}
use Rattle.first_form.specs.Trees.{text_of}
use Rattle.first_form.specs.Read.{◌>>=◌}

-- a constant's name as a proof file writes it: with `$` behind it
abbrev pub spelled : List ℕ → List ℕ
spelled name = name ++ codes "$"

-- the constant, of those with these names, that is so written
unfoldable pub constant_of : List (List ℕ) → List ℕ → Option Term
constant_of [] text = None
constant_of (name ∷ names) text =
    if bytes_eq text (spelled name) then Some (ConstTm name BoolTy) else constant_of names text

-- an atom: `false`, or a constant
unfoldable pub atom_of : List (List ℕ) → List ℕ → Option Term
atom_of names text = if bytes_eq text (codes "false") then Some false_tm else constant_of names text

-- implications of each formula by those before it, nested to the right
abbrev pub implied : Term → List Term → Term
implied a [] = a
implied a (b ∷ more) = implication a (implied b more)

-- (not a)
abbrev pub negation_of : List Term → Option Term
negation_of (a ∷ []) = Some (negation a)
negation_of parts = None

-- (=> a b ..)
abbrev pub implication_of : List Term → Option Term
implication_of (a ∷ b ∷ more) = Some (implied a (b ∷ more))
implication_of parts = None

-- a word with the formulas behind it
unfoldable pub built : List ℕ → List Term → Option Term
built word parts =
    if bytes_eq word (codes "not") then negation_of parts else
    if bytes_eq word (codes "=>") then implication_of parts else None

unfoldable mutual
  -- the formula that a tree is read as, these being the names of the constants
  pub formula_of : List (List ℕ) → Tree → Option Term
  formula_of names (AtomTree at text) = atom_of names text
  formula_of names (QuotedTree at text) = None
  formula_of names (ListTree at no_trees) = None
  formula_of names (ListTree at (more_trees head parts)) = do
    formulas ← formulas_of names parts
    built (text_of head) formulas

  -- from left to right
  pub formulas_of : List (List ℕ) → Trees → Option (List Term)
  formulas_of names no_trees = Some []
  formulas_of names (more_trees tree trees) = do
    first ← formula_of names tree
    others ← formulas_of names trees
    Some (first ∷ others)
