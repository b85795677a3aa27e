-- What the replay of a plan's nodes answers.
use Rattle.std.proofs.Common.{◌≡◌, ◌∙◌, ◌<◌, ◌-◌, ◌∷◌, [], ℕ, zero, suc, List, length, map, refl, sym, ap, subst, arith, Result, Ok, Err, IfOk, inl, inr}
use Rattle.std.specs.Prelude.{slice_index_or, All, Option, Some, None, option_map}
use Rattle.std.proofs.lemmas.Option.{none-some, same_Some}
use Rattle.std.proofs.lemmas.List.{get_or-map, length-map}
use Rattle.std.specs.declared.alloc.AllocError.{AllocError}
use Rattle.hol_terms.specs.Term.{Term}
use Rattle.proof_plan.specs.declared.why.Why.{Why}
use Rattle.proof_plan.specs.PlanValue.{PlanValue, node_at, tree_in, rule_of, premises_of, premise_claims, claim_of, no_node as no_plan_node}
use Rattle.proof_plan.specs.Accept.{Accept, accepted, refused, step_answer}
use Rattle.proof_plan.specs.IsPlan.{IsPlan}
use Rattle.goal_text.specs.Names.{Constants}
use Rattle.first_form.specs.Source.{Source}
use Rattle.first_form.specs.ProofForm.{Proof, proof_form}
use Rattle.first_form.specs.ProofNodes.{ProofNode, nodes_of}
use Rattle.first_form.specs.ProofPlan.{plan_nodes_in}
use Rattle.first_form.specs.Steps.{node_in}
use Rattle.smt_cli.specs.Answers.{Answer, ProvedGoal, FailedAt, replayed, replay_answer, proof_answer, verdict, before, claim_at, no_node}
use Rattle.smt_cli.specs.declared.line.Line.{Line}
use Rattle.smt_cli.specs.Follows.{IsProblemStatus}
use Rattle.smt_cli.specs.Writing.{IsLineOf}
use Rattle.proof_plan.specs.declared.rule.Rule.{Rule}
use Rattle.smt_cli.specs.Outcomes.{AllAccepted, FailsFirst}
use Rattle.smt_cli.specs.PlanAnswers.{plan_answer}

-- ---- nodes in order

-- where each of the nodes is accepted, the goal is proved
replayed_all : (all ns : List ProofNode) (last : Answer) → ((i : ℕ) → i < length ns → verdict all (slice_index_or ns i no_node) ≡ accepted) → replayed all ns last ≡ last
unfolding replayed
replayed_all all [] last h = refl
replayed_all all (n ∷ ns) last h =
    let rest = replayed_all all ns last (λ i l. h (suc i) (omega arith)) in
    let first : verdict all n ≡ accepted = h 0 (omega arith) in
    ap (λ v. before v n (replayed all ns last)) first ∙ rest

-- where node k is the first that isn't, it is answered
replayed_to : (all ns : List ProofNode) (last : Answer) (k : ℕ) (w : Why) → k < length ns → ((i : ℕ) → i < k → verdict all (slice_index_or ns i no_node) ≡ accepted) → verdict all (slice_index_or ns k no_node) ≡ refused w
    → replayed all ns last ≡ FailedAt (slice_index_or ns k no_node).name (slice_index_or ns k no_node).rule w
unfolding replayed
replayed_to all [] last k w l h e = absurd (omega arith)
replayed_to all (n ∷ ns) last zero w l h e = ap (λ v. before v n (replayed all ns last)) e
replayed_to all (n ∷ ns) last (suc k) w l h e =
    let rest = replayed_to all ns last k w (omega arith) (λ i m. h (suc i) (omega arith)) e in
    let first : verdict all n ≡ accepted = h 0 (omega arith) in
    ap (λ v. before v n (replayed all ns last)) first ∙ rest

-- ---- nodes of a plan

maps_same : (f g : ℕ → Term) (js : List ℕ) → ((i : ℕ) → i < length js → f (slice_index_or js i 0) ≡ g (slice_index_or js i 0)) → map f js ≡ map g js
maps_same f g [] h = refl
maps_same f g (j ∷ js) h =
    let first : f j ≡ g j = h 0 (omega arith) in
    let rest = maps_same f g js (λ i l. h (suc i) (omega arith)) in
    ap (λ x. x ∷ map f js) first ∙ ap (λ xs. g j ∷ xs) rest

node_is : (p : PlanValue) (k : ℕ) → k < length p.nodes → slice_index_or (plan_nodes_in p) k no_node ≡ node_in p.store (node_at p k)
node_is p k h = get_or-map (λ n. node_in p.store n) p.nodes k no_plan_node no_node h

claim_is : (p : PlanValue) (k : ℕ) → k < length p.nodes → claim_at (plan_nodes_in p) k ≡ claim_of p k
claim_is p k h = ap (λ n. n.claim) (node_is p k h)

-- the rule says the same of a node, seen in the plan or by itself
accept_is : (p : PlanValue) → IsPlan p → (k : ℕ) → k < length p.nodes → verdict (plan_nodes_in p) (slice_index_or (plan_nodes_in p) k no_node) ≡ Accept p k
unfolding Accept
accept_is p is k h = ap (λ n. verdict (plan_nodes_in p) n) (node_is p k h) ∙ ap (λ cs. step_answer (rule_of p k) cs (claim_of p k)) claims
  where
    below : All (λ j. j < k) (premises_of p k)
    below = (is.nodes k h).below

    one : (i : ℕ) → i < length (premises_of p k) → claim_at (plan_nodes_in p) (slice_index_or (premises_of p k) i 0) ≡ claim_of p (slice_index_or (premises_of p k) i 0)
    one i l =
        let b : slice_index_or (premises_of p k) i 0 < k = below i 0 l in
        claim_is p (slice_index_or (premises_of p k) i 0) (omega arith)

    claims : map (λ j. claim_at (plan_nodes_in p) j) (premises_of p k) ≡ premise_claims p k
    claims = maps_same (λ j. claim_at (plan_nodes_in p) j) (λ j. claim_of p j) (premises_of p k) one

as_many : (p : PlanValue) → length (plan_nodes_in p) ≡ length p.nodes
as_many p = length-map p.nodes (λ n. node_in p.store n)

pub all_answer : (consts : Constants) (p : PlanValue) → IsPlan p → AllAccepted p (length p.nodes) → plan_answer consts p ≡ ProvedGoal consts (tree_in p p.parts.goal)
all_answer consts p is all = replayed_all (plan_nodes_in p) (plan_nodes_in p) (ProvedGoal consts (tree_in p p.parts.goal)) each
  where
    each : (i : ℕ) → i < length (plan_nodes_in p) → verdict (plan_nodes_in p) (slice_index_or (plan_nodes_in p) i no_node) ≡ accepted
    each i h = let l : i < length p.nodes = omega (arith, as_many p) in accept_is p is i l ∙ all i l

pub first_answer : (consts : Constants) (p : PlanValue) → IsPlan p → (k : ℕ) (w : Why) → FailsFirst p k w → plan_answer consts p ≡ FailedAt (node_at p k).name (node_at p k).rule w
first_answer consts p is k w f =
    replayed_to (plan_nodes_in p) (plan_nodes_in p) (ProvedGoal consts (tree_in p p.parts.goal)) k w there each (accept_is p is k f.there ∙ f.cause)
    ∙ ap (λ n. FailedAt n.name n.rule w) (node_is p k f.there)
  where
    there : k < length (plan_nodes_in p)
    there = omega (arith, as_many p, f.there)

    each : (i : ℕ) → i < k → verdict (plan_nodes_in p) (slice_index_or (plan_nodes_in p) i no_node) ≡ accepted
    each i h = let l : i < length p.nodes = omega (arith, f.there) in accept_is p is i l ∙ f.before i h

-- ---- lines

-- a line for an answer has its status
pub proved_status : (consts : Constants) (g : Term) (r : Result Line AllocError) → IfOk r (λ l. IsLineOf (ProvedGoal consts g) l.text.items l.status) → IfOk r (λ l. IsProblemStatus l.status)
proved_status consts g (Ok l) h = inl h.status_is
proved_status consts g (Err e) h = tt

pub failed_status : (name : List ℕ) (rule : Rule) (w : Why) (r : Result Line AllocError) → IfOk r (λ l. IsLineOf (FailedAt name rule w) l.text.items l.status) → IfOk r (λ l. IsProblemStatus l.status)
failed_status name rule w (Ok l) h = inr (inl h.status_is)
failed_status name rule w (Err e) h = tt

pub failed_proves : (name : List ℕ) (rule : Rule) (w : Why) (P : Type 0) (r : Result Line AllocError) → IfOk r (λ l. IsLineOf (FailedAt name rule w) l.text.items l.status) → IfOk r (λ l. l.status ≡ 0 → P)
failed_proves name rule w P (Ok l) h = λ e. absurd (omega (arith, h.status_is, e))
failed_proves name rule w P (Err e) h = tt

-- it is the same answer, whatever the goal's constants
pub failed_answers : (p : PlanValue) → IsPlan p → (k : ℕ) (w : Why) → FailsFirst p k w → (r : Result Line AllocError) → IfOk r (λ l. IsLineOf (FailedAt (node_at p k).name (node_at p k).rule w) l.text.items l.status)
    → IfOk r (λ l. (consts : Constants) → IsLineOf (plan_answer consts p) l.text.items l.status)
failed_answers p is k w f (Ok l) h = λ consts. let Q : Answer → Type 0 = λ a. IsLineOf a l.text.items l.status in subst Q (sym (first_answer consts p is k w f)) h
failed_answers p is k w f (Err e) h = tt

pub proves : (P : Type 0) (r : Result Line AllocError) → P → IfOk r (λ l. l.status ≡ 0 → P)
proves P (Ok l) h = λ e. h
proves P (Err e) h = tt

-- ---- the answer to a problem

answered_by : (o : Option Proof) (nodes : List ProofNode) (last : Answer) → option_map nodes_of o ≡ Some nodes → proof_answer o last ≡ replay_answer nodes last
answered_by None nodes last e = absurd (none-some nodes e)
answered_by (Some proof) nodes last e = let same : nodes_of proof ≡ nodes = same_Some (nodes_of proof) nodes e in ap (λ ns. replay_answer ns last) same

-- to a proof file whose rule applications are a plan's
pub answer_is : (source : Source) (text all : List ℕ) (consts : Constants) (goal : Term) (p : PlanValue) → proof_form source text ≡ proof_form source all → option_map nodes_of (proof_form source text) ≡ Some (plan_nodes_in p) → tree_in p p.parts.goal ≡ goal
    → plan_answer consts p ≡ proof_answer (proof_form source all) (ProvedGoal consts goal)
answer_is source text all consts goal p same read is =
    ap (λ g. replay_answer (plan_nodes_in p) (ProvedGoal consts g)) is
    ∙ sym (answered_by (proof_form source text) (plan_nodes_in p) (ProvedGoal consts goal) read)
    ∙ ap (λ o. proof_answer o (ProvedGoal consts goal)) same
