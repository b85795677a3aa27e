use Rattle.std.proofs.Common.{◌≡◌, ◌++◌, ◌-◌, ◌<◌, ◌≤◌, drop, get_or, length}
use Rattle.hol_types.specs.Ty.{BoolTy}
use Rattle.hol_terms.specs.Constants as hol
use Rattle.hol_terms.specs.TermStore.{Keeps, term_tree}
use Rattle.goal_text.specs.Operations as operations
use Rattle.goal_text.specs.Scope.{AreTyped, terms_at}
use Rattle.goal_text.proofs.operations.neighbours.Given as goal

-- the formulas so far, and those of the parts from the i-th on
abbrev pub invariant-loop-i : goal.invariant-loop-i
invariant-loop-i l =
    record {
      some : 0 < l.i;
      within : l.i ≤ length l.parts;
      typed : AreTyped l.base BoolTy l.formulas.items;
      keeps : Keeps l.fn.base l.base;
      read : terms_at l.base l.formulas.items ++ operations.neighbours (hol.apply_two (term_tree l.fn.base l.f)) (term_tree l.fn.base (get_or l.parts (l.i - 1) 0)) (terms_at l.fn.base (drop l.i l.parts)) ≡ operations.neighbours (hol.apply_two (term_tree l.fn.base l.f)) (term_tree l.fn.base (get_or l.parts 0 0)) (terms_at l.fn.base (drop 1 l.parts));
    }

abbrev pub decreases-loop-i : goal.decreases-loop-i
decreases-loop-i l = length l.parts - l.i
