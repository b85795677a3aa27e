use Rattle.std.proofs.Common.{◌≡◌, ℕ, ◌<◌, get_or}
use Rattle.hol_terms.specs.TermStore.{Keeps}
use Rattle.hol_formulas.proofs.UnchangedTypes.{TypeStays}
use Rattle.hol_formulas.proofs.unchanged.leaves_each.Given as goal

-- none of the types so far is changed
abbrev pub invariant-loop-t : goal.invariant-loop-t
invariant-loop-t g l = record {
  keeps : Keeps (g.S.Terms.store l.fn.store) (g.S.Terms.store l.store);
  rest : g.S.Terms.rest l.store ≡ g.S.Terms.rest l.fn.store;
  same : (k : ℕ) → k < l.t-index → TypeStays (g.S.Terms.store l.fn.store).types l.s (get_or l.ts k 0);
}
