use Rattle.std.specs.List.{AllByRecursion}
use Rattle.hol_types.specs.TypeStore.{joined, type_tree}
use Rattle.hol_types.specs.Deep.{IsTypePart}
use Rattle.hol_types.proofs.deep.parts_of.Given as goal

abbrev pub invariant-loop-at : goal.invariant-loop-at
invariant-loop-at l = AllByRecursion (IsTypePart (joined l.base l.own) (type_tree (joined l.base l.own) l.fn.t)) l.parts.items
