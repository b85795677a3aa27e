use Rattle.hol_terms.specs.TermStore.{Keeps}
use Rattle.kernel_tests.specs.Tables.{AreTypes}
use Rattle.kernel_tests.proofs.tables.types_of.Given as goal

abbrev pub invariant-loop-row : goal.invariant-loop-row
invariant-loop-row g l = record {
  are : AreTypes (g.S.Terms.store l.store) l.types.items;
  keeps : Keeps (g.S.Terms.store l.fn.store) (g.S.Terms.store l.store);
}
