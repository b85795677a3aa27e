use Rattle.std.proofs.Common.{◌≡◌, ◌-◌, ◌≤◌, drop, get_or, length}
use Rattle.hol_types.specs.Ty.{IntTy}
use Rattle.hol_terms.specs.Constants as hol
use Rattle.hol_terms.specs.TermStore.{Keeps, term_tree}
use Rattle.goal_text.specs.Operations as operations
use Rattle.goal_text.specs.Scope.{HasTyped, terms_at}
use Rattle.goal_text.proofs.operations.to_the_left.Given as goal

-- the parts before the i-th
abbrev pub invariant-loop-i : goal.invariant-loop-i
invariant-loop-i l =
    record {
      within : l.i ≤ length l.parts;
      typed : HasTyped l.base IntTy l.t;
      keeps : Keeps l.fn.base l.base;
      read : operations.to_the_left (hol.apply_two (term_tree l.fn.base l.f)) (term_tree l.base l.t) (terms_at l.fn.base (drop l.i l.parts)) ≡ operations.to_the_left (hol.apply_two (term_tree l.fn.base l.f)) (term_tree l.fn.base (get_or l.parts 0 0)) (terms_at l.fn.base (drop 1 l.parts));
    }

abbrev pub decreases-loop-i : goal.decreases-loop-i
decreases-loop-i l = length l.parts - l.i
