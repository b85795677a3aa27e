use Rattle.std.proofs.Common.{◌≡◌, [], drop, map}
use Rattle.hol_types.specs.TypeStore.{HasType, type_tree}
use Rattle.hol_types.specs.TypeSubst.{HasSubst, TypeSubst, subst_tree}
use Rattle.hol_terms.specs.Term.{ty_of}
use Rattle.goal_text.specs.Matching as matching
use Rattle.goal_text.specs.Scope.{AreTerms, terms_at}
use Rattle.goal_text.proofs.MatchLemmas.{IsAlike}
use Rattle.goal_text.proofs.matching.match_parameters.Given as goal

-- the parameters that are left, with the types so far
abbrev pub invariant-loop-term : goal.invariant-loop-term
invariant-loop-term l =
    record {
      there : HasSubst l.base.types l.s;
      type : HasType l.base.types l.u;
      terms : AreTerms l.base (drop l.term-index l.terms);
      found : (v : TypeSubst) × IsAlike v (subst_tree l.base.types l.s) × (matching.match_parameters [] (type_tree l.base.types l.fn.ty) (map ty_of (terms_at l.base l.terms)) ≡ matching.match_parameters v (type_tree l.base.types l.u) (map ty_of (terms_at l.base (drop l.term-index l.terms))));
    }
