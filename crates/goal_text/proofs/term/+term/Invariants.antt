use Rattle.std.proofs.Common.{◌≡◌, ◌+◌, ◌-◌, ◌*◌, ◌≤◌, drop, length}
use Rattle.hol_terms.specs.TermStore.{Keeps}
use Rattle.sexp.specs.Forest.{after_of, trees_at, IsRun}
use Rattle.goal_text.specs.Forms.{operands}
use Rattle.goal_text.specs.Scope.{AreTerms, IsScope, env_of, terms_at}
use Rattle.goal_text.specs.Terms.{terms_of}
use Rattle.goal_text.proofs.PartLemmas.{with_terms}
use Rattle.goal_text.proofs.term.+term.Given as goal

abbrev pub decreases-term_at : goal.decreases-term_at
decreases-term_at l = 2 * (after_of l.forest.now l.i - l.i)

abbrev pub decreases-terms_at : goal.decreases-terms_at
decreases-terms_at l = 2 * (l.end - l.first) + 1

-- the terms so far, and then those of the trees to come
abbrev pub invariant-terms_at-loop-after : goal.invariant-terms_at-loop-after
invariant-terms_at-loop-after l =
    record {
      run : IsRun l.forest l.i l.end;
      from : l.first ≤ l.i;
      same : l.scope ≡ l.fn.scope;
      scope : IsScope l.base l.scope;
      env : env_of l.base l.scope ≡ env_of l.fn.base l.fn.scope;
      terms : AreTerms l.base l.terms.items;
      keeps : Keeps l.fn.base l.base;
      read : with_terms (terms_at l.base l.terms.items) (terms_of (env_of l.fn.base l.fn.scope) (drop (length l.terms.items) (operands l.divides)) (trees_at l.forest l.i l.end)) ≡ terms_of (env_of l.fn.base l.fn.scope) (operands l.divides) (trees_at l.forest l.first l.end);
    }

abbrev pub decreases-terms_at-loop-after : goal.decreases-terms_at-loop-after
decreases-terms_at-loop-after l = l.end - l.i
