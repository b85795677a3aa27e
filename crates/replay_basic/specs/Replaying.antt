-- What a kernel states of the nodes of a plan.
use Rattle.std.specs.Prelude.{◌≡◌, ℕ, ◌<◌, length, List, slice_index_or}
use Rattle.hol_terms.specs.TermStore.{Keeps}
use Rattle.hol_terms.specs.Formula.{Within}
use Rattle.lcf_kernel.specs.KernelState.{KernelState, HasThm, concl_of, facts_of, context_of, all_hyps_of}
use Rattle.proof_plan.specs.PlanValue.{PlanValue, premises_of, premise_at, claim_of}
use Rattle.proof_plan.specs.Claims.{Facts, Context, Hyps}

-- the kernel works over the plan's terms, from its facts, under a part of what every node may use
pub record Serves (p : PlanValue) (k : KernelState) : Type 0 where
  pub terms : Keeps p.store k.store
  pub facts : facts_of k ≡ Facts p
  pub context : Within (context_of k) (Context p)

-- record t states the claim of node j, under no more than what the node may use
pub record StatesNode (p : PlanValue) (k : KernelState) (t j : ℕ) : Type 0 where
  pub there : HasThm k t
  pub claim : concl_of k t ≡ claim_of p j
  pub hyps : Within (all_hyps_of k t) (Hyps p j)

-- the records state the claims of the premises of node j, in order
pub record StatePremises (p : PlanValue) (k : KernelState) (ts : List ℕ) (j : ℕ) : Type 0 where
  pub count : length ts ≡ length (premises_of p j)
  pub each : (i : ℕ) → i < length ts → StatesNode p k (slice_index_or ts i 0) (premise_at p j i)
