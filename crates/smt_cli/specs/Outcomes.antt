-- What plain replay comes to.
use Rattle.std.specs.Prelude.{◌≡◌, ℕ, ◌<◌, ◌-◌, List, length, slice_index_or}
use Rattle.lcf_kernel.specs.KernelState.{KernelState}
use Rattle.proof_plan.specs.declared.why.Why.{Why}
use Rattle.proof_plan.specs.PlanValue.{PlanValue}
use Rattle.proof_plan.specs.Claims.{Claim}
use Rattle.proof_plan.specs.Accept.{Accept, accepted, refused}
use Rattle.smt_cli.specs.declared.run.Outcome.{Outcome}
use Rattle.smt_cli.specs.declared.run.Outcome.TheVariants.{Proved, Failed}
use Rattle.replay_basic.specs.Replaying.{Serves, StatesNode}

-- each node below the number is accepted
abbrev pub AllAccepted : PlanValue → ℕ → Type 0
AllAccepted p n = (k : ℕ) → k < n → Accept p k ≡ accepted

-- node k is the first that isn't accepted, for that cause
pub record FailsFirst (p : PlanValue) (k : ℕ) (w : Why) : Type 0 where
  pub there : k < length p.nodes
  pub before : AllAccepted p k
  pub cause : Accept p k ≡ refused w

-- what is so of a plan that comes to this: each node is accepted, and the claim of the root holds; or that node fails
abbrev pub IsOutcome : PlanValue → Outcome → Type 0
IsOutcome p Proved = AllAccepted p (length p.nodes) × Claim p (length p.nodes - 1)
IsOutcome p (Failed k w) = FailsFirst p k w

-- the records state the claims of the first nodes, in order
pub record StateNodes (p : PlanValue) (k : KernelState) (ts : List ℕ) : Type 0 where
  pub each : (i : ℕ) → i < length ts → StatesNode p k (slice_index_or ts i 0) i

-- so many nodes are replayed: each is accepted, and the records state their claims
pub record IsReplayed (p : PlanValue) (k : KernelState) (ts : List ℕ) (n : ℕ) : Type 0 where
  pub serves : Serves p k
  pub states : StateNodes p k ts
  pub count : length ts ≡ n
  pub accepted : AllAccepted p n
