use Rattle.std.specs.List.{AllByRecursion}
use Rattle.hol_types.specs.Ty.{Ty}
use Rattle.hol_types.specs.TypeStore.{joined}
use Rattle.hol_types.specs.Deep.{IsTypePart}
use Rattle.hol_types.proofs.deep.add_all.Given as goal

abbrev pub invariant-loop-t : goal.invariant-loop-t
invariant-loop-t l = (whole : Ty) → AllByRecursion (IsTypePart (joined l.base l.own) whole) l.ts → AllByRecursion (IsTypePart (joined l.base l.own) whole) l.fn.parts.items → AllByRecursion (IsTypePart (joined l.base l.own) whole) l.parts.items
