use Rattle.std.specs.List.{AllByRecursion}
use Rattle.hol_types.specs.TypeStore.{joined, type_tree}
use Rattle.hol_types.specs.Pairs.{IsPair}
use Rattle.hol_types.proofs.pairs.pairs_of.Given as goal

abbrev pub invariant-loop-at : goal.invariant-loop-at
invariant-loop-at l = AllByRecursion (IsPair (joined l.base l.own) (type_tree (joined l.base l.own) l.fn.pattern) (type_tree (joined l.base l.own) l.fn.t)) l.pairs.items
