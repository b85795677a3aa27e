use Rattle.std.proofs.Common.{◌≡◌, ◌+◌, ◌++◌, ◌-◌, ◌≤◌, drop, get_or, length}
use Rattle.hol_types.specs.Ty.{BoolTy}
use Rattle.hol_terms.specs.TermStore.{Keeps, term_tree}
use Rattle.goal_text.specs.Operations as operations
use Rattle.goal_text.specs.Scope.{AreTyped, terms_at}
use Rattle.goal_text.proofs.operations.differs.Given as goal

-- the formulas so far, and those of the parts from the j-th on
abbrev pub invariant-loop-j : goal.invariant-loop-j
invariant-loop-j l =
    record {
      within : l.j ≤ length l.parts;
      typed : AreTyped l.base BoolTy l.formulas.items;
      keeps : Keeps l.fn.base l.base;
      read : terms_at l.base l.formulas.items ++ operations.differs (term_tree l.fn.base (get_or l.parts l.i 0)) (terms_at l.fn.base (drop l.j l.parts)) ≡ terms_at l.fn.base l.fn.formulas.items ++ operations.differs (term_tree l.fn.base (get_or l.parts l.i 0)) (terms_at l.fn.base (drop (l.i + 1) l.parts));
    }

abbrev pub decreases-loop-j : goal.decreases-loop-j
decreases-loop-j l = length l.parts - l.j
