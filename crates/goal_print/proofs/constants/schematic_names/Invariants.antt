use Rattle.std.proofs.Common.{take}
use Rattle.goal_text.specs.ItemsIn.{declared_in}
use Rattle.goal_print.specs.Pieces.{KnowsSchematic}
use Rattle.goal_print.proofs.constants.schematic_names.Given as goal

-- so far the set has those that are declared with type variables
abbrev pub invariant-loop-declared : goal.invariant-loop-declared
invariant-loop-declared l = KnowsSchematic l.base (declared_in l.base (take l.declared-index l.consts)) l.found
