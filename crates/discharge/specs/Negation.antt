-- What a plan refutes.
use Rattle.std.specs.Prelude.{◌≡◌, [], ◌∷◌, ◌++◌}
use Rattle.hol_terms.specs.Constants.{negation}
use Rattle.proof_plan.specs.PlanValue.{PlanValue, tree_in}
use Rattle.proof_plan.specs.Claims.{Facts, Assertions}

-- the assertions are the facts, and the negation of the goal
abbrev pub AssertsNegation : PlanValue → Type 0
AssertsNegation p = Assertions p ≡ Facts p ++ negation (tree_in p p.parts.goal) ∷ []
