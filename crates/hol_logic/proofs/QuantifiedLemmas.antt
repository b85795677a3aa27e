-- Quantifiers over any predicates.
use Rattle.std.proofs.Common.{◌≡◌, ◌∙◌, ap, ℕ}
use Rattle.hol_types.specs.Ty.{BoolTy, FunTy}
use Rattle.hol_types.specs.TypeStore.{HasType, type_tree}
use Rattle.hol_terms.specs.Term.{BoundTm, AppTm, ty_of, result_ty}
use Rattle.hol_terms.specs.TermStore.{TermStore, HasTerm, term_tree}
use Rattle.hol_terms.specs.Formula.{IsTerm}
use Rattle.hol_formulas.specs.Constants.{IsAt}
use Rattle.hol_logic.specs.Quantified.{IsExpanded}
use Rattle.hol_logic.proofs.BodyLemmas.{lambda_is, in_app, in_place, in_closed}

-- the predicate applied to the place is the body of a lambda
pub expanded_at : {s : TermStore} {p ty body : ℕ} → HasType s.types ty → HasTerm s p → IsTerm (term_tree s p) → ty_of (term_tree s p) ≡ FunTy (type_tree s.types ty) BoolTy
    → IsAt s body (AppTm (term_tree s p) (BoundTm 0 (type_tree s.types ty))) → IsExpanded s p (record { ty = ty; body = body })
expanded_at {s} {p} {ty} {body} has there term type is = record {
  there = there;
  term = term;
  type = type;
  predicate = record {
    ty = has;
    body = is.there;
    lambda = rw is.is (lambda_is (in_app (in_closed (record { term = term; type = type })) (in_place (type_tree s.types ty))));
    bool = ap (λ t. ty_of t) is.is ∙ ap (λ t. result_ty t) type;
  };
  is = is.is;
}
