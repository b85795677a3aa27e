use Rattle.std.specs.List.{AllByRecursion}
use Rattle.hol_terms.specs.Deep.{IsPlace}
use Rattle.hol_terms.specs.TermStore.{joined, term_tree}
use Rattle.hol_terms.proofs.places.places_of.Given as goal

abbrev pub invariant-loop-at : goal.invariant-loop-at
invariant-loop-at l = AllByRecursion (IsPlace (joined l.base l.own) (term_tree (joined l.base l.own) l.fn.t)) l.places.items
