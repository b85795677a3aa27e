use Rattle.std.specs.List.{AllByRecursion}
use Rattle.hol_terms.specs.Deep.{IsPart}
use Rattle.hol_terms.specs.TermStore.{joined, term_tree}
use Rattle.hol_terms.proofs.deep.parts_of.Given as goal

abbrev pub invariant-loop-at : goal.invariant-loop-at
invariant-loop-at l = AllByRecursion (IsPart (joined l.base l.own) (term_tree (joined l.base l.own) l.fn.t)) l.parts.items
