-- What the tests ask of a small kernel.
use Rattle.std.proofs.Common.{◌≡◌, ap, ℕ, length, ◌<◌, sym, subst}
use Rattle.lcf_kernel.specs.KernelState.{KernelState, HasThm, records_of}
use Rattle.lcf_kernel.specs.declared.kernel.Records.{Records}

pub has_before : (old new : KernelState) → records_of new ≡ records_of old → (t : ℕ) → HasThm old t → HasThm new t
has_before old new same t h = subst (λ n. t < n) (ap (λ (r : Records). length r.thms) (sym same)) h
