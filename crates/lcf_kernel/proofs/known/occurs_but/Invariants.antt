use Rattle.std.proofs.Common.{◌≡◌, ℕ, ◌<◌, get_or}
use Rattle.hol_terms.specs.TermStore.{term_tree}
use Rattle.hol_terms.specs.Formula.{NotFreeIn}
use Rattle.lcf_kernel.specs.Known.{AllKnown}
use Rattle.lcf_kernel.proofs.known.occurs_but.Given as goal

abbrev pub invariant-loop-t : goal.invariant-loop-t
invariant-loop-t l = record {
  known : AllKnown l.store.store l.known;
  absent : (k : ℕ) → k < l.t-index → (term_tree l.store.store (get_or l.ts k 0) ≡ term_tree l.store.store l.but → ⊥) → NotFreeIn (term_tree l.store.store l.v) (term_tree l.store.store (get_or l.ts k 0));
}
