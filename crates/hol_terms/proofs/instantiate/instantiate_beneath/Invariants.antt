use Rattle.std.proofs.Common.{◌≡◌}
use Rattle.hol_types.specs.TypeSubst.{HasSubst, subst_tree}
use Rattle.hol_types.specs.Instance.{AllTypeInstances}
use Rattle.hol_terms.specs.TermStore.{Keeps}
use Rattle.hol_terms.specs.Memo.{AllInstances}
use Rattle.hol_terms.proofs.instantiate.instantiate_beneath.Given as goal

abbrev pub invariant-loop-part : goal.invariant-loop-part
invariant-loop-part g l = record {
  subst : HasSubst (g.S.Terms.store l.store).types l.s;
  same : subst_tree (g.S.Terms.store l.store).types l.s ≡ subst_tree (g.S.Terms.store l.fn.store).types l.s;
  memo : AllInstances (g.S.Terms.store l.store) (subst_tree (g.S.Terms.store l.fn.store).types l.s) l.memo;
  keeps : Keeps (g.S.Terms.store l.fn.store) (g.S.Terms.store l.store);
  rest : g.S.Terms.rest l.store ≡ g.S.Terms.rest l.fn.store;
  types : AllTypeInstances (g.S.Terms.store l.store).types l.s l.types;
}
