-- A goal that follows from facts, as plain data. A number of its terms stands for a tree.
use Rattle.std.specs.Prelude.{ℕ, List, [], map, All}
use Rattle.hol_terms.specs.Term.{Term}
use Rattle.hol_terms.specs.TermStore.{TermStore, HasTerm, term_tree}
use Rattle.hol_terms.specs.Formula.{IsFormula}
use Rattle.hol_terms.specs.Derivable.{Derivable}

pub record ProvedValue : Type 0 where
  -- what is kept of terms
  pub store : TermStore
  -- the facts
  pub facts : List ℕ
  -- the goal
  pub goal : ℕ

-- the trees of the facts
abbrev pub fact_trees : ProvedValue → List Term
fact_trees v = map (λ t. term_tree v.store t) v.facts

-- the tree of the goal
abbrev pub goal_tree : ProvedValue → Term
goal_tree v = term_tree v.store v.goal

-- a term that is kept and is a formula
pub record HasFormula (s : TermStore) (t : ℕ) : Type 0 where
  pub there : HasTerm s t
  pub formula : IsFormula (term_tree s t)

-- the goal is derivable from the facts, without hypotheses
pub record IsProved (v : ProvedValue) : Type 0 where
  pub facts : All (HasFormula v.store) v.facts
  pub goal : HasFormula v.store v.goal
  pub derivable : Derivable (fact_trees v) [] (goal_tree v)
