-- What a plan's invariant says of its nodes.
use Rattle.std.proofs.Common.{◌≡◌, ℕ, ◌<◌, List, length, sym, ap, ◌∙◌, slice_index_or}
use Rattle.std.proofs.lemmas.List.{get_or_read}
use Rattle.proof_plan.specs.declared.node.PlanNode.{PlanNode}
use Rattle.hol_terms.specs.Formula.{In, Within}
use Rattle.proof_plan.specs.PlanValue.{PlanValue, node_at, no_node, rule_of, premises_of, premise_at, claim_of}
use Rattle.proof_plan.specs.Claims.{Context, Hyps}
use Rattle.proof_plan.specs.OpenHypotheses.{PassesHyps}
use Rattle.proof_plan.specs.IsPlan.{IsPlan, IsNode, StatesAssertion}
use Rattle.proof_plan.specs.PlainReplay.{PlainReplay, by_premises, state_of, ProvedBelow}
use Rattle.proof_plan.specs.Rows.{IsRow}
use Rattle.proof_plan.proofs.AcceptLemmas.{row_is}
use Rattle.proof_plan.proofs.HypothesisLemmas.{premise_hyps, asserted_in}
use Rattle.proof_plan.proofs.ReplayLemmas.{plain_step, first_step}
use Rattle.proof_plan.specs.Accept.{Accept}

-- what was read at the number k is node k
pub read_node : (p v : PlanValue) (xs : List PlanNode) (k : ℕ) (n : PlanNode) → v ≡ p → xs ≡ v.nodes → IsPlan v → k < length p.nodes → n ≡ slice_index_or xs k n → IsNode p k n
read_node p v xs k n same list plan there read =
    let there_in : k < length xs = rw (list, same) there in
    let is : n ≡ node_at v k = get_or_read xs k n there_in read no_node ∙ ap (λ (ys : List PlanNode). slice_index_or ys k no_node) list in
    let there_v : k < length v.nodes = rw same there in
    rw (← same, is) (plan.nodes k there_v)

-- the row of the rule of node k, for the node that was read
pub read_row : (p : PlanValue) (k : ℕ) (n : PlanNode) → n ≡ node_at p k → IsNode p k n → IsRow p k n.rule
read_row p k n is node =
    let rule = ap (λ (m : PlanNode). m.rule) is in
    let premises = ap (λ (m : PlanNode). m.premises) is in
    row_is p k n.rule (sym rule) (rw (← premises) node.count)

-- node k is such a node, by the one that was read
read_is : (p : PlanValue) (k : ℕ) (n : PlanNode) → n ≡ node_at p k → IsNode p k n → IsNode p k (node_at p k)
read_is p k n is node = rw (← is) node

-- the state of node k, for a plan that was opened
pub read_plain : (p v : PlanValue) (k : ℕ) → v ≡ p → IsPlan v → k < length p.nodes → PlainReplay p k ≡ by_premises p k
read_plain p v k same plan there = plain_step p (rw (← same) plan) k there

-- and where each smaller node is proved
pub read_first : (p v : PlanValue) (k : ℕ) → v ≡ p → IsPlan v → k < length p.nodes → ProvedBelow p k → PlainReplay p k ≡ state_of (Accept p k)
read_first p v k same plan there = first_step p (rw (← same) plan) k there

-- what a node may use of its premises' hypotheses, for the node that was read
pub read_hyps : (p : PlanValue) (k : ℕ) (n : PlanNode) → n ≡ node_at p k → IsNode p k n → PassesHyps (rule_of p k) → (i : ℕ) → i < length (premises_of p k) → Within (Hyps p (premise_at p k i)) (Hyps p k)
read_hyps p k n is node = premise_hyps p k (read_is p k n is node)

-- the formula of an assertion's node, for the node that was read
pub read_asserted : (p : PlanValue) (k : ℕ) (n : PlanNode) → n ≡ node_at p k → IsNode p k n → StatesAssertion (rule_of p k) → In (claim_of p k) (Context p)
read_asserted p k n is node = asserted_in p k (read_is p k n is node)
