use Rattle.std.proofs.Common.{◌≡◌, drop}
use Rattle.hol_terms.specs.TermStore.{HasTerm, Keeps, term_tree}
use Rattle.goal_text.specs.Scope.{terms_at}
use Rattle.goal_text.specs.Terms as terms
use Rattle.goal_text.proofs.built.apply_all.Given as goal

-- the arguments still to come
abbrev pub invariant-loop-x : goal.invariant-loop-x
invariant-loop-x l =
    record {
      there : HasTerm l.base l.t;
      keeps : Keeps l.fn.base l.base;
      read : terms.apply_all l.at (term_tree l.base l.t) (terms_at l.fn.base (drop l.x-index l.xs)) ≡ terms.apply_all l.at (term_tree l.fn.base l.fn.f) (terms_at l.fn.base l.xs);
    }
