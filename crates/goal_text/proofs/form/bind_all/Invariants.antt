use Rattle.std.proofs.Common.{◌≡◌, ◌-◌, ◌≤◌, [], drop, take}
use Rattle.hol_terms.specs.TermStore.{Keeps}
use Rattle.sexp.specs.Forest.{trees_at, IsRun}
use Rattle.goal_text.specs.Forms.{binders_of}
use Rattle.goal_text.specs.Scope.{IsScope, KeepsDeclared, binders_in, types_in}
use Rattle.goal_text.proofs.form.bind_all.Given as goal

-- the variables so far, and the entries to come
abbrev pub invariant-loop-after : goal.invariant-loop-after
invariant-loop-after l =
    record {
      run : IsRun l.forest l.i l.end;
      below : l.n ≤ l.i;
      scope : IsScope l.base l.scope;
      others : KeepsDeclared l.fn.scope l.scope;
      outer : drop l.n l.scope.binders ≡ l.fn.scope.binders;
      keeps : Keeps l.fn.base l.base;
      read : binders_of (types_in l.fn.scope.types) (binders_in l.base (take l.n l.scope.binders)) (trees_at l.forest l.i l.end) ≡ binders_of (types_in l.fn.scope.types) [] (trees_at l.forest l.first l.end);
    }

abbrev pub decreases-loop-after : goal.decreases-loop-after
decreases-loop-after l = l.end - l.i
