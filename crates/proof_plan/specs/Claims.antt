-- What the nodes of a plan claim.
use Rattle.std.specs.Prelude.{ℕ, List, ◌++◌, map}
use Rattle.hol_terms.specs.Term.{Term, ty_of}
use Rattle.hol_terms.specs.Constants.{equation}
use Rattle.hol_terms.specs.Derivable.{Derivable}
use Rattle.hol_terms.specs.declared.parts.Def.{Def}
use Rattle.proof_plan.specs.PlanValue.{PlanValue, node_at, tree_in, trees_in, claim_of}

-- the facts of the problem
abbrev pub Facts : PlanValue → List Term
Facts p = trees_in p p.parts.facts

-- the assertions of the problem
abbrev pub Assertions : PlanValue → List Term
Assertions p = trees_in p p.parts.assertions

-- the equation of a symbol with what it stands for
abbrev pub definition : PlanValue → Def → Term
definition p d = equation (ty_of (tree_in p d.symbol)) (tree_in p d.symbol) (tree_in p d.body)

-- the equations of the defined symbols, in order
abbrev pub Definitions : PlanValue → List Term
Definitions p = map (λ d. definition p d) p.definitions

-- what every node may use: the assertions and the definitions
abbrev pub Context : PlanValue → List Term
Context p = Assertions p ++ Definitions p

-- the open hypotheses of node k
abbrev pub open_hyps : PlanValue → ℕ → List Term
open_hyps p k = trees_in p (node_at p k).hyps

-- what node k may use: the context and its open hypotheses
abbrev pub Hyps : PlanValue → ℕ → List Term
Hyps p k = Context p ++ open_hyps p k

-- the claim of node k can be derived from the facts under what the node may use
abbrev pub Claim : PlanValue → ℕ → Type 0
Claim p k = Derivable (Facts p) (Hyps p k) (claim_of p k)
