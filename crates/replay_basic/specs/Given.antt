-- What a rule's replay is given, and what its parts come to.
use Rattle.std.specs.Prelude.{◌≡◌, ℕ, ◌<◌, ◌++◌, length, List, slice_index_or}
use Rattle.hol_terms.specs.Term.{Term}
use Rattle.hol_terms.specs.Formula.{Within}
use Rattle.hol_terms.specs.Constants.{false_tm}
use Rattle.lcf_kernel.specs.KernelState.{KernelState, HasThm, concl_of, all_hyps_of}
use Rattle.proof_plan.specs.Rules.{TakesPremises}
use Rattle.proof_plan.specs.PlanValue.{PlanValue, rule_of, premises_of, premise_claim, claim_of}
use Rattle.proof_plan.specs.OpenHypotheses.{PassesHyps}
use Rattle.proof_plan.specs.Claims.{Hyps}
use Rattle.proof_plan.specs.Rows.{AreComplements}

-- the records state the claims of the premises of node j, in order, as many as its rule takes; where the rule
-- passes open hypotheses on, they are under no more than what the node may use
pub record GivenPremises (p : PlanValue) (k : KernelState) (ts : List ℕ) (j : ℕ) : Type 0 where
  pub count : length ts ≡ length (premises_of p j)
  pub takes : TakesPremises (rule_of p j) (length ts)
  pub there : (i : ℕ) → i < length ts → HasThm k (slice_index_or ts i 0)
  pub claims : (i : ℕ) → i < length ts → concl_of k (slice_index_or ts i 0) ≡ premise_claim p j i
  pub hyps : PassesHyps (rule_of p j) → (i : ℕ) → i < length ts → Within (all_hyps_of k (slice_index_or ts i 0)) (Hyps p j)

-- record t of the new kernel states `false`, under the hypotheses of two records of the old
pub record StatesFalse (old new : KernelState) (t a b : ℕ) : Type 0 where
  pub there : HasThm new t
  pub claim : concl_of new t ≡ false_tm
  pub hyps : Within (all_hyps_of new t) (all_hyps_of old a ++ all_hyps_of old b)

-- record t of the new kernel states `false`, from the first record of the old and one of the others, its complement
pub record Contradicts (old new : KernelState) (t first : ℕ) (others : List ℕ) : Type 0 where
  pub place : ℕ
  pub within : place < length others
  pub complement : AreComplements (concl_of old first) (concl_of old (slice_index_or others place 0))
  pub states : StatesFalse old new t first (slice_index_or others place 0)

-- record t of the new kernel states the claim of node j, under the hypotheses of a record of the old
pub record StatesUnder (p : PlanValue) (old new : KernelState) (t j a : ℕ) : Type 0 where
  pub there : HasThm new t
  pub claim : concl_of new t ≡ claim_of p j
  pub hyps : (K : List Term) → Within (all_hyps_of old a) K → Within (all_hyps_of new t) K
