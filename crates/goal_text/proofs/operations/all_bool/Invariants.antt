use Rattle.std.proofs.Common.{◌≡◌, drop, map}
use Rattle.hol_types.specs.Ty.{BoolTy}
use Rattle.hol_terms.specs.Term.{ty_of}
use Rattle.goal_text.specs.Operations.{all_are}
use Rattle.goal_text.specs.Scope.{AreTerms, terms_at}
use Rattle.goal_text.proofs.operations.all_bool.Given as goal

-- the terms still to come decide
abbrev pub invariant-loop-t : goal.invariant-loop-t
invariant-loop-t l =
    record {
      there : AreTerms l.base (drop l.t-index l.terms);
      rest : all_are BoolTy (map ty_of (terms_at l.base (drop l.t-index l.terms))) ≡ all_are BoolTy (map ty_of (terms_at l.base l.terms));
    }
