use Rattle.std.proofs.Common.{◌≡◌, ◌+◌, ◌<◌, drop, get_or, length}
use Rattle.hol_types.specs.Ty.{BoolTy}
use Rattle.hol_terms.specs.Constants as hol
use Rattle.hol_terms.specs.TermStore.{Keeps, term_tree}
use Rattle.goal_text.specs.Operations as operations
use Rattle.goal_text.specs.Scope.{HasTyped, terms_at}
use Rattle.goal_text.proofs.operations.to_the_right.Given as goal

-- the parts from the n-th on
abbrev pub invariant-loop-n : goal.invariant-loop-n
invariant-loop-n l =
    record {
      below : l.n < length l.parts;
      typed : HasTyped l.base BoolTy l.t;
      keeps : Keeps l.fn.base l.base;
      read : term_tree l.base l.t ≡ operations.to_the_right (hol.apply_two (term_tree l.fn.base l.f)) (term_tree l.fn.base (get_or l.parts l.n 0)) (terms_at l.fn.base (drop (l.n + 1) l.parts));
    }

abbrev pub decreases-loop-n : goal.decreases-loop-n
decreases-loop-n l = l.n
