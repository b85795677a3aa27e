use Rattle.std.proofs.Common.{◌≡◌}
use Rattle.hol_terms.specs.TermStore.{Keeps, term_tree}
use Rattle.hol_terms.specs.Memo.{AllReplaced}
use Rattle.hol_terms.proofs.subst.subst_beneath.Given as goal

abbrev pub invariant-loop-part : goal.invariant-loop-part
invariant-loop-part g l = record {
  memo : AllReplaced (g.S.Terms.store l.store) (term_tree (g.S.Terms.store l.fn.store) l.v) (term_tree (g.S.Terms.store l.fn.store) l.u) l.memo;
  keeps : Keeps (g.S.Terms.store l.fn.store) (g.S.Terms.store l.store);
  rest : g.S.Terms.rest l.store ≡ g.S.Terms.rest l.fn.store;
}
