use Rattle.std.proofs.Common.{ℕ, ◌<◌, slice_index_or}
use Rattle.lcf_kernel.specs.KernelState.{KeepsAll, concl_of}
use Rattle.proof_plan.specs.Rows.{AreComplements}
use Rattle.replay_basic.proofs.resolution.first_contradiction.Given as goal

-- none of the theorems so far contradicts the first
abbrev pub invariant-loop-other : goal.invariant-loop-other
invariant-loop-other l = record {
  keeps : KeepsAll l.fn.kernel l.kernel;
  none : (i : ℕ) → i < l.other-index → AreComplements (concl_of l.fn.kernel l.first) (concl_of l.fn.kernel (slice_index_or l.others i 0)) → ⊥;
}
