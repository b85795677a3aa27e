-- What the rules are called on stays as a kernel goes on.
use Rattle.std.proofs.Common.{ℕ}
use Rattle.hol_terms.specs.TermStore.{TermStore, HasTerm, Keeps}
use Rattle.lcf_kernel.specs.KernelState.{KernelState, KeepsAll}
use Rattle.lcf_kernel.proofs.KeptLemmas.{has_kept, term_kept, closed_kept}
use Rattle.bench_kernel.specs.Given.{HasGiven}
use Rattle.bench_kernel.specs.declared.measured.Given.{Given}

pub term_stays : (s u : TermStore) → Keeps s u → (t : ℕ) → HasTerm s t → HasTerm u t
term_stays s u keeps t h = keeps.terms t h

pub given_kept : {old new : KernelState} {g : Given} → KeepsAll old new → HasGiven old g → HasGiven new g
given_kept keeps h = record {
  x = term_kept keeps h.x;
  lambda = term_kept keeps h.lambda;
  x_closed = closed_kept keeps h.x h.x_closed;
  lambda_closed = closed_kept keeps h.lambda h.lambda_closed;
  assumed = has_kept keeps h.assumed;
  implication = has_kept keeps h.implication;
  equation = has_kept keeps h.equation;
  universal = has_kept keeps h.universal;
}
