-- A plan as plain data. A number of its terms stands for a tree.
use Rattle.std.specs.Prelude.{ℕ, List, [], map, slice_index_or}
use Rattle.hol_terms.specs.Term.{Term}
use Rattle.hol_terms.specs.TermStore.{TermStore, term_tree, empty_store}
use Rattle.proof_plan.specs.declared.rule.Rule.{Rule}
use Rattle.proof_plan.specs.declared.rule.Rule.TheVariants.{Asserted}
use Rattle.proof_plan.specs.declared.node.PlanNode.{PlanNode}
use Rattle.hol_terms.specs.declared.parts.Parts.{Parts}
use Rattle.hol_terms.specs.declared.parts.Def.{Def}

pub record PlanValue : Type 0 where
  -- what is kept of terms
  pub store : TermStore
  -- the facts, the goal and the assertions
  pub parts : Parts
  -- the rule applications
  pub nodes : List PlanNode
  -- what the symbols stand for
  pub definitions : List Def

-- no rule application
abbrev pub no_node : PlanNode
no_node = record { name = []; place = 0; rule = Asserted; weights = []; premises = []; vars = []; claim = 0; hyps = [] }

-- no plan
abbrev pub no_plan : PlanValue
no_plan = record { store = empty_store; parts = record { facts = []; goal = 0; assertions = []; defs = []; origins = [] }; nodes = []; definitions = [] }

-- node k
abbrev pub node_at : PlanValue → ℕ → PlanNode
node_at p k = slice_index_or p.nodes k no_node

-- the rule of node k
abbrev pub rule_of : PlanValue → ℕ → Rule
rule_of p k = (node_at p k).rule

-- the numbers of the premises of node k
abbrev pub premises_of : PlanValue → ℕ → List ℕ
premises_of p k = (node_at p k).premises

-- the tree of a term
abbrev pub tree_in : PlanValue → ℕ → Term
tree_in p t = term_tree p.store t

-- the trees of terms
abbrev pub trees_in : PlanValue → List ℕ → List Term
trees_in p ts = map (λ t. term_tree p.store t) ts

-- the claim of node k
abbrev pub claim_of : PlanValue → ℕ → Term
claim_of p k = tree_in p (node_at p k).claim

-- the claims of the premises of node k
abbrev pub premise_claims : PlanValue → ℕ → List Term
premise_claims p k = map (λ j. claim_of p j) (premises_of p k)

-- the number of the premise of node k at a place
abbrev pub premise_at : PlanValue → ℕ → ℕ → ℕ
premise_at p k i = slice_index_or (premises_of p k) i 0

-- the claim of the premise of node k at a place
abbrev pub premise_claim : PlanValue → ℕ → ℕ → Term
premise_claim p k i = claim_of p (premise_at p k i)
