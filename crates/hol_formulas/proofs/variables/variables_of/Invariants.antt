use Rattle.std.proofs.Common.{ℕ, ◌<◌, get_or}
use Rattle.hol_terms.specs.TermStore.{term_tree}
use Rattle.hol_formulas.specs.Formulas.{trees}
use Rattle.hol_formulas.specs.Found.{Finds, AllFound, AreAmong}
use Rattle.hol_formulas.proofs.variables.variables_of.Given as goal

-- the free variables of the terms so far are found, and nothing else
abbrev pub invariant-loop-t : goal.invariant-loop-t
invariant-loop-t g l = record {
  seen : AllFound (g.S.Terms.store l.store) l.found.items l.seen;
  among : AreAmong (g.S.Terms.store l.store) l.found.items (trees (g.S.Terms.store l.store) l.ts);
  done : (k : ℕ) → k < l.t-index → Finds (g.S.Terms.store l.store) l.found.items (term_tree (g.S.Terms.store l.store) (get_or l.ts k 0));
}
