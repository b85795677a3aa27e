-- What a proof file may speak of.
use Rattle.std.specs.Prelude.{ℕ, List, [], ◌∷◌, ◌++◌, Bool, if◌then◌else◌, ◌&&◌, not, bytes_eq}
use Rattle.std.specs.List.{list_any}
use Rattle.hol_types.specs.Ty.{Ty, BoolTy}
use Rattle.hol_types.specs.TyEq.{ty_eq}
use Rattle.hol_terms.specs.Term.{Term}
use Rattle.hol_terms.specs.TermStore.{term_tree}
use Rattle.hol_terms.specs.Constants.{negation}
use Rattle.goal_text.specs.declared.problem.Problem.{Problem}
use Rattle.goal_text.specs.GoalRead.{GoalProblem}
use Rattle.goal_text.specs.ItemsIn.{declared_in}
use Rattle.goal_text.specs.Names.{Constants}
use Rattle.goal_text.specs.Scope.{terms_at}

-- the constants of type Bool, by their names, and what may be asserted
pub record Source : Type 0 where
  pub consts : List (List ℕ)
  pub assertions : List Term

-- the name is there
abbrev pub is_declared : List (List ℕ) → List ℕ → Bool
is_declared names name = list_any (bytes_eq name) names

-- the name of one constant more, where it is of type Bool and the name isn't there
abbrev pub with_proposition : List (List ℕ) → List ℕ × Ty → List (List ℕ)
with_proposition names c = if ty_eq BoolTy c.1 && not (is_declared names c.0) then names ++ c.0 ∷ [] else names

-- those of further constants behind them
unfoldable pub with_propositions : List (List ℕ) → Constants → List (List ℕ)
with_propositions names [] = names
with_propositions names (c ∷ more) = with_propositions (with_proposition names c) more

-- the names of the constants of type Bool, and of assertions the facts in order and the negated goal
abbrev pub source_by : Constants → List Term → Term → Source
source_by consts facts goal = record { consts = with_propositions [] consts; assertions = facts ++ negation goal ∷ [] }

-- what a proof of a problem may speak of
abbrev pub source_of : GoalProblem → Source
source_of problem = source_by problem.consts problem.facts problem.goal

-- the same, of a problem in a store
abbrev pub source_at : Problem → Source
source_at problem = source_by (declared_in problem.base problem.consts) (terms_at problem.base problem.facts) (term_tree problem.base problem.goal)
