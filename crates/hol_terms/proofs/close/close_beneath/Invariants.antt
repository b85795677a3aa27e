use Rattle.std.proofs.Common.{◌≡◌}
use Rattle.hol_terms.specs.TermStore.{Keeps, term_tree}
use Rattle.hol_terms.specs.Memo.{AllClosed}
use Rattle.hol_terms.proofs.close.close_beneath.Given as goal

abbrev pub invariant-loop-place : goal.invariant-loop-place
invariant-loop-place g l = record {
  memo : AllClosed (g.S.Terms.store l.store) (term_tree (g.S.Terms.store l.fn.store) l.v) l.memo;
  keeps : Keeps (g.S.Terms.store l.fn.store) (g.S.Terms.store l.store);
  rest : g.S.Terms.rest l.store ≡ g.S.Terms.rest l.fn.store;
}
