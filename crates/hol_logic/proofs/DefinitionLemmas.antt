-- A term for a variable that it defines.
use Rattle.std.proofs.Common.{◌≡◌, ◌∙◌, ◌++◌, refl, subst, ap, List}
use Rattle.hol_types.specs.Ty.{Ty}
use Rattle.hol_terms.specs.Term.{Term, FreeTm, BoundTm, ConstTm, NumTm, AppTm, LamTm}
use Rattle.hol_terms.specs.Substitution.{IsClosed, IsFreeVariable, subst_free}
use Rattle.hol_terms.specs.Formula.{NotFreeIn, NotFreeInAny, SameMembers}
use Rattle.hol_terms.specs.Constants.{equation, implication, for_all}
use Rattle.hol_terms.specs.Derivable.{abstraction, applied}
use Rattle.hol_terms.proofs.TermEqLemmas.{term_eq_refl}
use Rattle.hol_terms.proofs.SetLemmas.{within_context, within_from_same, same_sym}
use Rattle.hol_terms.proofs.SubstitutionLemmas.{opened_closed, subst_free_absent}
use Rattle.lcf_kernel.specs.RuleForms.{IsGeneral, IsUniversal}
use Rattle.hol_logic.proofs.EquationLemmas.{absent_within}

pub subst_own : (v u : Term) → IsFreeVariable v → subst_free v u v ≡ u
subst_own (FreeTm k n t) u h = rw (term_eq_refl (FreeTm k n t)) refl
subst_own (BoundTm i t) u h = absurd h
subst_own (ConstTm n t) u h = absurd h
subst_own (NumTm z) u h = absurd h
subst_own (AppTm f x) u h = absurd h
subst_own (LamTm t b) u h = absurd h

-- the implication from a definition, with its term for its variable
pub definition_gives : (ty : Ty) (v e c : Term) → IsFreeVariable v → NotFreeIn v e → NotFreeIn v c → IsClosed (implication (equation ty v e) c)
    → applied (abstraction v (implication (equation ty v e) c)) e ≡ implication (equation ty e e) c
definition_gives ty v e c free not_in_e not_in_c closed =
    opened_closed (implication (equation ty v e) c) 0 v e closed ∙ rw (subst_own v e free, subst_free_absent e v e not_in_e, subst_free_absent c v e not_in_c) refl

-- what a universal claim that is known says of a term
pub universal_says : {said t : Term} (u : IsUniversal said t) (ty : Ty) (p : Term) → said ≡ for_all ty p → applied u.predicate t ≡ applied p t
universal_says {t = t} u ty p e =
    let same : u.predicate ≡ p = cc in
    ap (λ q. applied q t) same

pub general_of : (v : Term) (C D G H : List Term) → C ≡ D → SameMembers G H → IsGeneral (C ++ G) v → IsGeneral (D ++ H) v
general_of v C D G H e same g = record {
  variable = g.variable;
  absent = absent_within v (D ++ G) (D ++ H) (within_context D (within_from_same (same_sym same))) (subst (λ c. NotFreeInAny v (c ++ G)) e g.absent);
}
