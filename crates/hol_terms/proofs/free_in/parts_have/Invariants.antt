use Rattle.hol_terms.specs.TermStore.{term_tree}
use Rattle.hol_terms.specs.Memo.{AllWithout}
use Rattle.hol_terms.proofs.free_in.parts_have.Given as goal

abbrev pub invariant-loop-part : goal.invariant-loop-part
invariant-loop-part g l = AllWithout (g.S.Terms.store l.store) (term_tree (g.S.Terms.store l.store) l.v) l.seen
