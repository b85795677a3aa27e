use Rattle.std.proofs.Common.{◌≡◌, ℕ, ◌<◌, get_or}
use Rattle.hol_terms.specs.TermStore.{Keeps}
use Rattle.hol_formulas.proofs.UnchangedLemmas.{Stays}
use Rattle.lcf_kernel.specs.Known.{AllKnown}
use Rattle.lcf_kernel.proofs.known.changes_none.Given as goal

-- none of the formulas so far is changed
abbrev pub invariant-loop-t : goal.invariant-loop-t
invariant-loop-t l = record {
  keeps : Keeps l.fn.store.store l.store.store;
  base : l.store.base ≡ l.fn.store.base;
  known : AllKnown l.store.store l.known;
  same : (k : ℕ) → k < l.t-index → Stays l.fn.store.store l.s (get_or l.ts k 0);
}
