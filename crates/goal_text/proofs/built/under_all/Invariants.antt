use Rattle.std.proofs.Common.{◌≡◌, drop, take, true}
use Rattle.hol_terms.specs.Term.{ty_of}
use Rattle.hol_terms.specs.TermStore.{HasTerm, Keeps, term_tree}
use Rattle.goal_text.specs.Bounds.{FitsAll}
use Rattle.goal_text.specs.Operations as operations
use Rattle.goal_text.specs.Scope.{IsScope, KeepsDeclared, binders_in}
use Rattle.goal_text.proofs.built.under_all.Given as goal

-- the variables that are left, round the term so far
abbrev pub invariant-loop-left : goal.invariant-loop-left
invariant-loop-left l =
    record {
      scope : IsScope l.fn.base l.scope;
      others : KeepsDeclared l.fn.scope l.scope;
      outer : drop l.left l.scope.binders ≡ drop l.n l.fn.scope.binders;
      keeps : Keeps l.fn.base l.base;
      there : HasTerm l.base l.t;
      bounds : FitsAll (binders_in l.fn.base (take l.left l.scope.binders)) (term_tree l.base l.t) 0;
      fits : operations.fits_body l.binder (ty_of (term_tree l.base l.t)) ≡ true;
      read : operations.under_all l.binder (binders_in l.fn.base (take l.left l.scope.binders)) (term_tree l.base l.t) ≡ operations.under_all l.binder (binders_in l.fn.base (take l.n l.fn.scope.binders)) (term_tree l.fn.base l.fn.body);
    }

abbrev pub decreases-loop-left : goal.decreases-loop-left
decreases-loop-left l = l.left
