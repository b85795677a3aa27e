-- The text of a shape has one tree, which has that shape.
use Rattle.std.proofs.Common.{◌≡◌, ℕ, suc, ◌+◌, ◌-◌, List, [], ◌∷◌, ◌++◌, length, take, drop, codes, subst, true, Ok, Err, Result, refl, ap, ap₂, sym, ◌∙◌, arith, append_assoc}
use Rattle.std.proofs.lemmas.List.{drop-drop, append-nil}
use Rattle.sexp.specs.Bytes.{class_of}
use Rattle.sexp.specs.Text.{Words, word, stop, ends, words_from, words_from-end}
use Rattle.sexp.specs.Nesting.{Answers, answers_of}
use Rattle.sexp.specs.TextTrees.{mapped, tokens_or_fault, trees_behind, forest_of}
use Rattle.sexp.specs.Tree.{Tree, Trees, AtomTree, QuotedTree, ListTree, no_trees, more_trees}
use Rattle.sexp.specs.declared.lexis.Mode.TheVariants.{Between}
use Rattle.sexp.specs.declared.token.SexpFault.{SexpFault}
use Rattle.sexp.specs.declared.token.SexpFault.TheVariants.{TooDeep}
use Rattle.goal_print.specs.Shapes.{Shape, Shapes, AtomShape, ListShape, no_shapes, more_shapes, one_shape, shape_text, shapes_text, behind_text, IsWritten, AreWritten, HasShape, HaveShapes}
use Rattle.goal_print.proofs.ShapeWordLemmas.{shape_words, shapes_words, behind_words, close_at, shape_read}
use Rattle.goal_print.proofs.ShapeTokenLemmas.{IsNested, tokens_of, Reads, reads, too_deep, nested_reads, shape_nested}

-- ---- the tree of a shape

unfoldable mutual
  -- the tree of a shape, from a place on
  shape_tree : Shape → ℕ → Tree
  shape_tree (AtomShape text) at = AtomTree at text
  shape_tree (ListShape parts) at = ListTree at (shapes_trees parts (at + 1))

  shapes_trees : Shapes → ℕ → Trees
  shapes_trees no_shapes at = no_trees
  shapes_trees (more_shapes first rest) at = more_trees (shape_tree first at) (behind_trees rest (at + length (shape_text first)))

  behind_trees : Shapes → ℕ → Trees
  behind_trees no_shapes at = no_trees
  behind_trees (more_shapes first rest) at = more_trees (shape_tree first (at + 1)) (behind_trees rest (at + 1 + length (shape_text first)))

mutual
  unfolding HasShape HaveShapes shape_tree shapes_trees behind_trees

  tree_has_shape : (s : Shape) (at : ℕ) → HasShape s (shape_tree s at)
  tree_has_shape (AtomShape text) at = refl
  tree_has_shape (ListShape parts) at = trees_have_shapes parts (at + 1)

  trees_have_shapes : (shapes : Shapes) (at : ℕ) → HaveShapes shapes (shapes_trees shapes at)
  trees_have_shapes no_shapes at = tt
  trees_have_shapes (more_shapes first rest) at = (tree_has_shape first at, behind_have_shapes rest _)

  behind_have_shapes : (shapes : Shapes) (at : ℕ) → HaveShapes shapes (behind_trees shapes at)
  behind_have_shapes no_shapes at = tt
  behind_have_shapes (more_shapes first rest) at = (tree_has_shape first (at + 1), behind_have_shapes rest _)

-- ---- places in the text

take_front : (xs ys : List ℕ) → take (length xs) (xs ++ ys) ≡ xs
take_front [] ys = refl
take_front (x ∷ xs) ys = ap (λ t. x ∷ t) (take_front xs ys)

drop_front : (xs ys : List ℕ) → drop (length xs) (xs ++ ys) ≡ ys
drop_front [] ys = refl
drop_front (x ∷ xs) ys = drop_front xs ys

-- what is behind a text that stands at a place
stands_behind : (bytes text rest : List ℕ) (at next : ℕ) → drop at bytes ≡ text ++ rest → next ≡ at + length text → drop next bytes ≡ rest
stands_behind bytes text rest at next stands e = rw e (sym (drop-drop (length text) at bytes) ∙ (ap (drop (length text)) stands ∙ drop_front text rest))

atom_stands : (bytes text rest : List ℕ) (at : ℕ) → drop at bytes ≡ text ++ rest → take (at + length text - at) (drop at bytes) ≡ text
atom_stands bytes text rest at stands = let size : at + length text - at ≡ length text = omega arith in rw (size, stands) (take_front text rest)

-- ---- the trees of tokens

-- the trees of the tokens of words, where so many lists round them have ended
abbrev trees_of : List ℕ → Words → ℕ → Trees
trees_of bytes words outer = trees_behind bytes (tokens_of words) outer

mutual
  unfolding trees_behind shape_words shapes_words behind_words

  -- a shape adds nothing to the trees behind a list round it
  shape_skipped : (s : Shape) (bytes : List ℕ) (at : ℕ) (behind : Words) (outer : ℕ) → trees_of bytes (shape_words s at behind) (suc outer) ≡ trees_of bytes behind (suc outer)
  shape_skipped (AtomShape text) bytes at behind outer = refl
  shape_skipped (ListShape parts) bytes at behind outer = shapes_skipped parts bytes (at + 1) (word (close_at _) behind) (suc outer)

  shapes_skipped : (shapes : Shapes) (bytes : List ℕ) (at : ℕ) (behind : Words) (outer : ℕ) → trees_of bytes (shapes_words shapes at behind) (suc outer) ≡ trees_of bytes behind (suc outer)
  shapes_skipped no_shapes bytes at behind outer = refl
  shapes_skipped (more_shapes first rest) bytes at behind outer =
      shape_skipped first bytes at (behind_words rest (at + length (shape_text first)) behind) outer ∙ behind_skipped rest bytes (at + length (shape_text first)) behind outer

  behind_skipped : (shapes : Shapes) (bytes : List ℕ) (at : ℕ) (behind : Words) (outer : ℕ) → trees_of bytes (behind_words shapes at behind) (suc outer) ≡ trees_of bytes behind (suc outer)
  behind_skipped no_shapes bytes at behind outer = refl
  behind_skipped (more_shapes first rest) bytes at behind outer =
      shape_skipped first bytes (at + 1) (behind_words rest (at + 1 + length (shape_text first)) behind) outer ∙ behind_skipped rest bytes (at + 1 + length (shape_text first)) behind outer

mutual
  unfolding trees_behind shape_text shapes_text behind_text shape_words shapes_words behind_words shape_tree shapes_trees behind_trees

  -- the tree of a shape that stands at a place, and those behind it
  shape_found : (s : Shape) (bytes rest : List ℕ) (at : ℕ) (behind : Words) → drop at bytes ≡ shape_text s ++ rest
      → trees_of bytes (shape_words s at behind) 0 ≡ more_trees (shape_tree s at) (trees_of bytes behind 0)
  shape_found (AtomShape text) bytes rest at behind stands = ap (λ own. more_trees (AtomTree at own) (trees_of bytes behind 0)) (atom_stands bytes text rest at stands)
  shape_found (ListShape parts) bytes rest at behind stands =
      let close : ℕ = at + 1 + length (shapes_text parts) in
      let opened : drop at bytes ≡ (40 ∷ []) ++ (shapes_text parts ++ (41 ∷ rest)) = stands ∙ ap (λ t. 40 ∷ t) (append_assoc (shapes_text parts) (41 ∷ []) rest) in
      let inner = stands_behind bytes (40 ∷ []) (shapes_text parts ++ (41 ∷ rest)) at (at + 1) opened refl in
      ap₂ (λ own others. more_trees (ListTree at own) others) (shapes_found parts bytes (41 ∷ rest) (at + 1) (word (close_at close) behind) inner refl) (shapes_skipped parts bytes (at + 1) (word (close_at close) behind) 0)

  -- the trees of shapes, up to the end of their list
  shapes_found : (shapes : Shapes) (bytes rest : List ℕ) (at : ℕ) (behind : Words) → drop at bytes ≡ shapes_text shapes ++ rest → trees_of bytes behind 0 ≡ no_trees
      → trees_of bytes (shapes_words shapes at behind) 0 ≡ shapes_trees shapes at
  shapes_found no_shapes bytes rest at behind stands none = none
  shapes_found (more_shapes first others) bytes rest at behind stands none =
      let next : ℕ = at + length (shape_text first) in
      let own : drop at bytes ≡ shape_text first ++ (behind_text others ++ rest) = stands ∙ append_assoc (shape_text first) (behind_text others) rest in
      let further = stands_behind bytes (shape_text first) (behind_text others ++ rest) at next own refl in
      shape_found first bytes (behind_text others ++ rest) at (behind_words others next behind) own
      ∙ ap (more_trees (shape_tree first at)) (behind_found others bytes rest next behind further none)

  behind_found : (shapes : Shapes) (bytes rest : List ℕ) (at : ℕ) (behind : Words) → drop at bytes ≡ behind_text shapes ++ rest → trees_of bytes behind 0 ≡ no_trees
      → trees_of bytes (behind_words shapes at behind) 0 ≡ behind_trees shapes at
  behind_found no_shapes bytes rest at behind stands none = none
  behind_found (more_shapes first others) bytes rest at behind stands none =
      let next : ℕ = at + 1 + length (shape_text first) in
      let blank : drop at bytes ≡ (32 ∷ []) ++ (shape_text first ++ (behind_text others ++ rest)) = stands ∙ ap (λ t. 32 ∷ t) (append_assoc (shape_text first) (behind_text others) rest) in
      let own = stands_behind bytes (32 ∷ []) (shape_text first ++ (behind_text others ++ rest)) at (at + 1) blank refl in
      let further = stands_behind bytes (shape_text first) (behind_text others ++ rest) (at + 1) next own refl in
      shape_found first bytes (behind_text others ++ rest) (at + 1) (behind_words others next behind) own
      ∙ ap (more_trees (shape_tree first (at + 1))) (behind_found others bytes rest next behind further none)

-- ---- the whole text

-- what a shape's text is read as: the one tree that it has, unless lists are nested too deep
abbrev pub IsOneTree : Shape → Result Trees SexpFault → Type 0
IsOneTree s (Ok trees) = (tree : Tree) × (trees ≡ more_trees tree no_trees) × HasShape s tree
IsOneTree s (Err fault) = (at : ℕ) × (fault ≡ TooDeep at)

-- the words of the whole text of a shape
abbrev whole_words : Shape → Words
whole_words s = shape_words s 0 (stop ends)

whole_read : (s : Shape) → IsWritten s → words_from true (shape_text s) Between 0 ≡ whole_words s
whole_read s is =
    ap (λ t. words_from true t Between 0) (sym (append-nil (shape_text s)))
    ∙ (shape_read s [] 0 (0 + length (shape_text s)) is tt refl ∙ ap (shape_words s 0) (words_from-end true Between (0 + length (shape_text s))))

whole_tree : (s : Shape) → trees_of (shape_text s) (whole_words s) 0 ≡ more_trees (shape_tree s 0) no_trees
unfolding trees_behind
whole_tree s = shape_found s (shape_text s) [] 0 (stop ends) (sym (append-nil (shape_text s)))

by_answers : (s : Shape) (answers : Answers) → Reads answers (tokens_of (whole_words s))
    → IsOneTree s (mapped (λ tokens. trees_behind (shape_text s) tokens 0) (tokens_or_fault answers))
by_answers s answers (reads e) = rw e (shape_tree s 0, whole_tree s, tree_has_shape s 0)
by_answers s answers (too_deep at e) = rw e (at, refl)

-- The text of a shape has one tree, which has that shape, unless lists are nested too deep.
pub reads_one_tree : (s : Shape) → IsWritten s → IsOneTree s (forest_of (shape_text s))
unfolding forest_of IsNested
reads_one_tree s is = rw (whole_read s is) (by_answers s (answers_of (whole_words s) []) (nested_reads (whole_words s) [] (shape_nested s 0 (stop ends) 0 tt)))

pub reads_shape : (s : Shape) → IsWritten s
    → ((trees : Trees) → forest_of (shape_text s) ≡ Ok trees → (tree : Tree) × (trees ≡ more_trees tree no_trees) × HasShape s tree)
    × ((fault : SexpFault) → forest_of (shape_text s) ≡ Err fault → (at : ℕ) × (fault ≡ TooDeep at))
reads_shape s is = (λ trees e. subst (IsOneTree s) e (reads_one_tree s is), λ fault e. subst (IsOneTree s) e (reads_one_tree s is))

-- ---- a shape as the goal of a file

-- the list of the word `goal` and a shape
abbrev pub goal_shape : Shape → Shape
goal_shape s = ListShape (more_shapes (AtomShape (codes "goal")) (one_shape s))

goal_shape_text : (s : Shape) → shape_text (goal_shape s) ≡ codes "(goal " ++ shape_text s ++ codes ")"
unfolding shape_text shapes_text behind_text
goal_shape_text s = rw (append-nil (shape_text s)) refl

goal_written : (s : Shape) → IsWritten s → IsWritten (goal_shape s)
unfolding IsWritten AreWritten class_of
goal_written s is = ((refl, (refl, (refl, (refl, tt)))), (is, tt))

-- The text of a goal has one tree, the list of the word `goal` and a tree of the shape, unless lists are nested too deep.
pub reads_goal : (s : Shape) → IsWritten s → IsOneTree (goal_shape s) (forest_of (codes "(goal " ++ shape_text s ++ codes ")"))
reads_goal s is = subst (λ (text : List ℕ). IsOneTree (goal_shape s) (forest_of text)) (goal_shape_text s) (reads_one_tree (goal_shape s) (goal_written s is))

goal_is : (s : Shape) (tree : Tree) → HasShape (goal_shape s) tree
    → (at : ℕ) × (word_at : ℕ) × (inner : Tree) × (tree ≡ ListTree at (more_trees (AtomTree word_at (codes "goal")) (more_trees inner no_trees))) × HasShape s inner
unfolding HasShape HaveShapes
goal_is s (AtomTree at text) has = absurd has
goal_is s (QuotedTree at text) has = absurd has
goal_is s (ListTree at no_trees) has = absurd has
goal_is s (ListTree at (more_trees (QuotedTree place text) rest)) has = absurd has.0
goal_is s (ListTree at (more_trees (ListTree place parts) rest)) has = absurd has.0
goal_is s (ListTree at (more_trees (AtomTree place text) no_trees)) has = absurd has.1
goal_is s (ListTree at (more_trees (AtomTree place text) (more_trees inner (more_trees third others)))) has = absurd has.1.1
goal_is s (ListTree at (more_trees (AtomTree place text) (more_trees inner no_trees))) has = (at, place, inner, rw (has.0) refl, has.1.0)

-- the same, with the list taken apart
pub reads_goal_parts : (s : Shape) → IsWritten s → (trees : Trees) → forest_of (codes "(goal " ++ shape_text s ++ codes ")") ≡ Ok trees
    → (at : ℕ) × (word_at : ℕ) × (inner : Tree) × (trees ≡ more_trees (ListTree at (more_trees (AtomTree word_at (codes "goal")) (more_trees inner no_trees))) no_trees) × HasShape s inner
reads_goal_parts s is trees e =
    let one : IsOneTree (goal_shape s) (Ok trees) = subst (IsOneTree (goal_shape s)) e (reads_goal s is) in
    let goal = goal_is s one.0 one.2 in
    (goal.0, goal.1, goal.2, one.1 ∙ ap (λ (tree : Tree). more_trees tree no_trees) goal.3, goal.4)

pub goal_too_deep : (s : Shape) → IsWritten s → (fault : SexpFault) → forest_of (codes "(goal " ++ shape_text s ++ codes ")") ≡ Err fault → (at : ℕ) × (fault ≡ TooDeep at)
goal_too_deep s is fault e = subst (IsOneTree (goal_shape s)) e (reads_goal s is)
