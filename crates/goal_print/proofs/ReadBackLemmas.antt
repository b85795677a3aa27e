-- A printed goal is read as the goal.
use Rattle.std.proofs.Common.{◌≡◌, ℕ, [], ◌++◌, ◌^◌, ◌≤◌, List, Result, Ok, Err, codes, true, refl, sym, ap, subst, ◌∙◌, arith}
use Rattle.sexp.specs.Tree.{Tree, Trees, AtomTree, ListTree, no_trees, more_trees}
use Rattle.sexp.specs.TextTrees.{forest_of}
use Rattle.sexp.specs.declared.token.SexpFault.{SexpFault}
use Rattle.hol_types.specs.Ty.{BoolTy}
use Rattle.hol_types.specs.TyEq.{ty_eq}
use Rattle.hol_types.proofs.TyEqLemmas.{ty_eq_refl}
use Rattle.hol_terms.specs.Term.{ty_of}
use Rattle.hol_terms.specs.TermStore.{term_tree}
use Rattle.goal_text.specs.declared.problem.Problem.{Problem}
use Rattle.goal_text.specs.Lexicon.{one_of}
use Rattle.goal_text.specs.Terms.{term_of}
use Rattle.goal_text.specs.Items.{env_behind, formula_of, goal_item, item_of, items_of}
use Rattle.goal_text.specs.GoalRead.{GoalProblem}
use Rattle.goal_text.specs.Given.{IsGivenProblem}
use Rattle.goal_text.specs.ItemsIn.{IsProblem, IsRead, said_under}
use Rattle.goal_text.proofs.GivenItemLemmas.{read_goal_given}
use Rattle.goal_print.specs.TermText.{goal_text}
use Rattle.goal_print.specs.Printed.{printed}
use Rattle.goal_print.specs.Shapes.{HasShape}
use Rattle.goal_print.specs.TermShape.{term_shape}
use Rattle.goal_print.specs.Under.{IsOnce, nested}
use Rattle.goal_print.specs.ReadsBack.{ReadsBack, SaysGoal, with_goal, without_goal}
use Rattle.goal_print.proofs.OnceLemmas.{once_declared}
use Rattle.goal_print.proofs.PrintedLemmas.{printed_tree, printed_fault}
use Rattle.goal_print.proofs.ShapeReadLemmas.{reads_term}

module _ (said : GoalProblem) (given : IsGivenProblem said) (few : nested said.goal ≤ 2 ^ 32) where
  once : IsOnce said.consts
  once = once_declared said.types said.consts given.consts

  -- a tree of the goal's shape is read as the goal, which is a formula
  formula_read : (at : ℕ) (tree : Tree) → HasShape (term_shape said.consts 0 said.goal) tree → formula_of (without_goal said) at tree ≡ Ok said.goal
  unfolding formula_of
  formula_read at tree shape =
      let read : term_of (env_behind (without_goal said)) tree ≡ Ok said.goal = reads_term said.types said.consts once [] said.goal given.goal.given (omega (arith, few)) tree shape in
      let is_bool : ty_eq BoolTy (ty_of said.goal) ≡ true = ap (λ t. ty_eq BoolTy t) given.goal.formula ∙ ty_eq_refl BoolTy in
      rw (read, is_bool) refl

  -- the list of the word `goal` and the tree is the item
  goal_said : (at word_at : ℕ) (tree : Tree) → HasShape (term_shape said.consts 0 said.goal) tree
      → items_of (without_goal said) (more_trees (ListTree at (more_trees (AtomTree word_at (codes "goal")) (more_trees tree no_trees))) no_trees) ≡ Ok (with_goal said)
  unfolding items_of item_of goal_item one_of
  goal_said at word_at tree shape = rw (formula_read at tree shape) refl

  says_goal : ReadsBack said (goal_text said.consts said.goal)
  says_goal = by (forest_of (codes "(goal " ++ goal_text said.consts said.goal ++ codes ")")) refl
    where
      by : (read : Result Trees SexpFault) → forest_of (codes "(goal " ++ goal_text said.consts said.goal ++ codes ")") ≡ read → SaysGoal said read
      by (Ok trees) e =
          let is = printed_tree said.types said.consts once said.goal given.goal.given trees e in
          ap (λ ts. items_of (without_goal said) ts) is.3 ∙ goal_said is.0 is.1 is.2 is.4
      by (Err fault) e = printed_fault said.types said.consts once said.goal given.goal.given fault e

module _ (problem : Problem) (few : nested (term_tree problem.base problem.goal) ≤ 2 ^ 32) where
  -- the printed goal of a problem, behind its own declarations and facts
  pub reads_back : (is : IsProblem problem) → ReadsBack (said_under is.types problem) (printed problem)
  reads_back is = says_goal (said_under is.types problem) is.given few

  -- and behind those of a text that says the problem
  pub reads_back_in : (text : List ℕ) (is : IsRead text problem) → ReadsBack is.said (printed problem)
  reads_back_in text is =
      subst (λ consts. ReadsBack is.said (goal_text consts (term_tree problem.base problem.goal))) (sym is.says.consts)
      (subst (λ goal. ReadsBack is.said (goal_text is.said.consts goal)) (sym is.says.goal)
      (says_goal is.said (read_goal_given text is.said is.read) (subst (λ goal. nested goal ≤ 2 ^ 32) is.says.goal few)))
