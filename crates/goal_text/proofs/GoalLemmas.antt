-- Items, one after the other, and the whole text.
use Rattle.std.proofs.Common.{◌≡◌, ◌≢◌, ℕ, List, Ok, Err, length, refl, sym, ap, ◌∙◌}
use Rattle.sexp.specs.Tree.{Tree, Trees, no_trees, more_trees}
use Rattle.sexp.specs.TextTrees.{forest_of, unless_long}
use Rattle.sexp.specs.declared.token.SexpFault.{SexpFault}
use Rattle.sexp.specs.declared.token.SexpFault.TheVariants as lexical
use Rattle.goal_text.specs.declared.fault.GoalFailure.{GoalFailure}
use Rattle.goal_text.specs.declared.fault.GoalFailure.TheVariants as failures
use Rattle.goal_text.specs.Read.{Read, Fails}
use Rattle.goal_text.specs.Items.{Items, no_items, item_of, items_of}
use Rattle.goal_text.specs.GoalRead.{GoalProblem, goal_read, longest, problem_of, trees_by, trees_of}
use Rattle.goal_text.specs.ItemsIn.{IsLexical, Refuses}

-- ---- the trees of a text

pub trees_from : (text : List ℕ) (trees : Trees) → unless_long longest text (forest_of text) ≡ Ok trees → trees_of text ≡ Ok trees
unfolding trees_of
trees_from text trees h = ap trees_by h

pub trees_refused : (text : List ℕ) (fault : SexpFault) (e : GoalFailure) → IsLexical fault e → (fault ≢ lexical.Memory → unless_long longest text (forest_of text) ≡ Err fault) → Fails e (trees_of text)
unfolding trees_of
trees_refused text fault failures.Memory is h = tt
trees_refused text fault (failures.Refused r) is h = ap trees_by (h is.1) ∙ ap Err (sym is.0)

-- ---- the items

module _ (now : Items) (trees : Trees) (total : Read Items) (so_far : items_of now trees ≡ total) where
  pub items_step : (next : Items) (tree : Tree) (rest : Trees) → trees ≡ more_trees tree rest → item_of now tree ≡ Ok next → items_of next rest ≡ total
  unfolding items_of
  items_step next tree rest e h =
      let one : items_of now (more_trees tree rest) ≡ items_of next rest = rw h refl in
      sym one ∙ ap (items_of now) (sym e) ∙ so_far

  pub items_fail : (x : GoalFailure) (tree : Tree) (rest : Trees) → trees ≡ more_trees tree rest → Fails x (item_of now tree) → Fails x total
  unfolding items_of
  items_fail failures.Memory tree rest e h = tt
  items_fail (failures.Refused f) tree rest e h =
      let none : items_of now (more_trees tree rest) ≡ Err f = rw h refl in
      sym so_far ∙ ap (items_of now) e ∙ none

  pub items_done : trees ≡ no_trees → total ≡ Ok now
  unfolding items_of
  items_done e = sym so_far ∙ ap (items_of now) e

-- ---- the whole text

pub goal_without_trees : (text : List ℕ) (x : GoalFailure) → Fails x (trees_of text) → Refuses text x
unfolding goal_read
goal_without_trees text failures.Memory h = tt
goal_without_trees text (failures.Refused f) h = rw h refl

module _ (text : List ℕ) (trees : Trees) (read : trees_of text ≡ Ok trees) where
  pub goal_without_items : (x : GoalFailure) → Fails x (items_of no_items trees) → Refuses text x
  unfolding goal_read
  goal_without_items failures.Memory h = tt
  goal_without_items (failures.Refused f) h = rw (read, h) refl

  module _ (items : Items) (made : items_of no_items trees ≡ Ok items) where
    pub goal_without_goal : (x : GoalFailure) → Fails x (problem_of items (length text)) → Refuses text x
    unfolding goal_read
    goal_without_goal failures.Memory h = tt
    goal_without_goal (failures.Refused f) h = rw (read, made, h) refl

    pub goal_found : (problem : GoalProblem) → problem_of items (length text) ≡ Ok problem → goal_read text ≡ Ok problem
    unfolding goal_read
    goal_found problem h = rw (read, made, h) refl
