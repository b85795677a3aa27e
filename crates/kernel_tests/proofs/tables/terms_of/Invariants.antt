use Rattle.hol_terms.specs.TermStore.{Keeps}
use Rattle.kernel_tests.specs.Tables.{AreTypes, AreTerms}
use Rattle.kernel_tests.proofs.tables.terms_of.Given as goal

abbrev pub invariant-loop-row : goal.invariant-loop-row
invariant-loop-row g l = record {
  types : AreTypes (g.S.Terms.store l.store) l.types;
  are : AreTerms (g.S.Terms.store l.store) l.terms.items;
  keeps : Keeps (g.S.Terms.store l.fn.store) (g.S.Terms.store l.store);
}
