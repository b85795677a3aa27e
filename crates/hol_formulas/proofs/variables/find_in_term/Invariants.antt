use Rattle.hol_terms.specs.TermStore.{term_tree}
use Rattle.hol_formulas.specs.Found.{AllFound, Adds}
use Rattle.hol_formulas.proofs.variables.find_in_term.Given as goal

abbrev pub invariant-loop-part : goal.invariant-loop-part
invariant-loop-part g l = record {
  seen : AllFound (g.S.Terms.store l.store) l.found.items l.seen;
  adds : Adds (g.S.Terms.store l.store) l.fn.found.items l.found.items (term_tree (g.S.Terms.store l.store) l.t);
}
