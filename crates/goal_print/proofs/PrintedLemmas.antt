-- The text of a printed goal has one tree, which has the shape of the goal.
use Rattle.std.proofs.Common.{◌≡◌, ℕ, [], ◌++◌, Ok, Err, codes, ap, sym, ◌∙◌}
use Rattle.sexp.specs.TextTrees.{forest_of}
use Rattle.sexp.specs.Tree.{Tree, Trees, AtomTree, ListTree, no_trees, more_trees}
use Rattle.sexp.specs.declared.token.SexpFault.{SexpFault}
use Rattle.sexp.specs.declared.token.SexpFault.TheVariants.{TooDeep}
use Rattle.hol_terms.specs.Term.{Term}
use Rattle.goal_text.specs.Names.{Constructors, Constants}
use Rattle.goal_print.specs.TermText.{goal_text}
use Rattle.goal_print.specs.Shapes.{shape_text, HasShape, IsWritten}
use Rattle.goal_print.specs.TermShape.{term_shape}
use Rattle.goal_text.specs.Given.{IsGiven}
use Rattle.goal_print.specs.Under.{IsOnce}
use Rattle.goal_print.proofs.TermTextLemmas.{text_is}
use Rattle.goal_print.proofs.WrittenLemmas.{term_is_written}
use Rattle.goal_print.proofs.ShapeTreeLemmas.{reads_goal_parts, goal_too_deep}

module _ (types : Constructors) (consts : Constants) (once : IsOnce consts) (goal : Term) (given : IsGiven types consts [] goal) where
  printed_is : codes "(goal " ++ goal_text consts goal ++ codes ")" ≡ codes "(goal " ++ shape_text (term_shape consts 0 goal) ++ codes ")"
  printed_is = ap (λ text. codes "(goal " ++ text ++ codes ")") (text_is consts 0 goal)

  is_written : IsWritten (term_shape consts 0 goal)
  is_written = term_is_written types consts once [] 0 goal given

  -- the list of the word `goal` and a tree that has the shape of the goal
  pub printed_tree : (trees : Trees) → forest_of (codes "(goal " ++ goal_text consts goal ++ codes ")") ≡ Ok trees
      → (at : ℕ) × (word_at : ℕ) × (tree : Tree) × (trees ≡ more_trees (ListTree at (more_trees (AtomTree word_at (codes "goal")) (more_trees tree no_trees))) no_trees) × HasShape (term_shape consts 0 goal) tree
  printed_tree trees e = reads_goal_parts (term_shape consts 0 goal) is_written trees (ap forest_of (sym printed_is) ∙ e)

  -- it breaks no other rule than that of the depth of lists
  pub printed_fault : (fault : SexpFault) → forest_of (codes "(goal " ++ goal_text consts goal ++ codes ")") ≡ Err fault → (at : ℕ) × (fault ≡ TooDeep at)
  printed_fault fault e = goal_too_deep (term_shape consts 0 goal) is_written fault (ap forest_of (sym printed_is) ∙ e)
