-- What scripts have made so far.
use Rattle.std.specs.Prelude.{ℕ, List}
use Rattle.hol_types.specs.TypeStore.{HasType}
use Rattle.hol_terms.specs.TermStore.{TermStore, HasTerm}
use Rattle.hol_terms.specs.Formula.{In}
use Rattle.lcf_kernel.specs.KernelState.{KernelState, HasThm}

-- each of the numbers is that of a type
pub record AreTypes (s : TermStore) (ts : List ℕ) : Type 0 where
  pub each : (t : ℕ) → In t ts → HasType s.types t

-- each of the numbers is that of a term
pub record AreTerms (s : TermStore) (ts : List ℕ) : Type 0 where
  pub each : (t : ℕ) → In t ts → HasTerm s t

-- each of the numbers is that of a record
pub record AreThms (k : KernelState) (ts : List ℕ) : Type 0 where
  pub each : (t : ℕ) → In t ts → HasThm k t
