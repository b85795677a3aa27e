use Rattle.std.proofs.Common.{◌≡◌}
use Rattle.hol_terms.specs.TermStore.{Keeps, term_tree}
use Rattle.hol_terms.specs.Memo.{AllOpened}
use Rattle.hol_terms.proofs.open.open_beneath.Given as goal

abbrev pub invariant-loop-place : goal.invariant-loop-place
invariant-loop-place g l = record {
  memo : AllOpened (g.S.Terms.store l.store) (term_tree (g.S.Terms.store l.fn.store) l.u) l.memo;
  keeps : Keeps (g.S.Terms.store l.fn.store) (g.S.Terms.store l.store);
  rest : g.S.Terms.rest l.store ≡ g.S.Terms.rest l.fn.store;
}
