use Rattle.std.proofs.Common.{◌≡◌, ◌++◌, ◌-◌, ◌≤◌, drop, length}
use Rattle.hol_types.specs.Ty.{BoolTy}
use Rattle.hol_terms.specs.TermStore.{Keeps}
use Rattle.goal_text.specs.Operations as operations
use Rattle.goal_text.specs.Scope.{AreTyped, terms_at}
use Rattle.goal_text.proofs.operations.differences.Given as goal

-- the formulas so far, and those of the parts from the i-th on
abbrev pub invariant-loop-i : goal.invariant-loop-i
invariant-loop-i l =
    record {
      within : l.i ≤ length l.parts;
      typed : AreTyped l.base BoolTy l.formulas.items;
      keeps : Keeps l.fn.base l.base;
      read : terms_at l.base l.formulas.items ++ operations.differences (terms_at l.fn.base (drop l.i l.parts)) ≡ operations.differences (terms_at l.fn.base l.parts);
    }

abbrev pub decreases-loop-i : goal.decreases-loop-i
decreases-loop-i l = length l.parts - l.i
