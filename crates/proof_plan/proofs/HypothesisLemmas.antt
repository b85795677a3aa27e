-- What the open hypotheses of nodes have to do with those of their premises.
use Rattle.std.proofs.Common.{ℕ, zero, suc, ◌<◌, List, [], ◌∷◌, length, arith, slice_index_or}
use Rattle.std.specs.List.{flat_map}
use Rattle.hol_terms.specs.Term.{Term}
use Rattle.hol_terms.specs.Formula.{In, Within}
use Rattle.hol_terms.proofs.SetLemmas.{in_append_left, in_append_right, in_map, within_context}
use Rattle.proof_plan.specs.declared.rule.Rule.{Rule}
use Rattle.proof_plan.specs.declared.rule.Rule.TheVariants.{Hypothesis, Lemma}
use Rattle.proof_plan.specs.Rules.{TakesPremises}
use Rattle.proof_plan.specs.PlanValue.{PlanValue, node_at, rule_of, premises_of, premise_at, claim_of}
use Rattle.proof_plan.specs.Claims.{Assertions, Context, open_hyps, Hyps}
use Rattle.proof_plan.specs.OpenHypotheses.{hyps_by, PassesHyps}
use Rattle.proof_plan.specs.IsPlan.{IsNode, StatesAssertion}

-- what one number gives is among what all give
among_all : (f : ℕ → List Term) (js : List ℕ) (i : ℕ) → i < length js → (h : Term) → In h (f (slice_index_or js i 0)) → In h (flat_map f js)
among_all f [] i l h there = absurd (omega arith)
among_all f (j ∷ js) zero l h there = in_append_left h (f j) (flat_map f js) there
among_all f (j ∷ js) (suc i) l h there = in_append_right h (f j) (flat_map f js) (among_all f js i (omega arith) h there)

-- a rule other than `lemma` passes the open hypotheses of its premises on
passed_by : (r : Rule) (c : Term) (f : ℕ → List Term) (js : List ℕ) → PassesHyps r → TakesPremises r (length js) → (i : ℕ) → i < length js → (h : Term) → In h (f (slice_index_or js i 0)) → In h (hyps_by r c (flat_map f js))
passed_by Hypothesis c f js passes n i l h there = absurd (omega arith)
passed_by Lemma c f js passes n i l h there = absurd passes
passed_by r c f js passes n i l h there = among_all f js i l h there

-- and so a node may use what its premises may use
pub premise_hyps : (p : PlanValue) (k : ℕ) → IsNode p k (node_at p k) → PassesHyps (rule_of p k) → (i : ℕ) → i < length (premises_of p k) → Within (Hyps p (premise_at p k i)) (Hyps p k)
premise_hyps p k node passes i l =
    within_context (Context p) (record { inside = λ h there. node.hyps.from h (passed_by (rule_of p k) (claim_of p k) (λ j. open_hyps p j) (premises_of p k) passes node.count i l h there) })

-- the formula of an assertion's node stands in the context
pub asserted_in : (p : PlanValue) (k : ℕ) → IsNode p k (node_at p k) → StatesAssertion (rule_of p k) → In (claim_of p k) (Context p)
asserted_in p k node states = in_append_left _ (Assertions p) _ (in_map _ _ _ (node.asserted states))
