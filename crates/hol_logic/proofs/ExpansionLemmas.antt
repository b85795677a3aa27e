-- Predicates as lambdas.
use Rattle.std.proofs.Common.{◌≡◌, ◌∷◌, ◌++◌, ◌∙◌, [], refl, sym, ap, subst, ⊎_elim, ℕ, true, ◌&&◌}
use Rattle.hol_types.specs.Ty.{Ty, BoolTy}
use Rattle.hol_terms.specs.Term.{Term, BoundTm, AppTm, LamTm, ty_of}
use Rattle.hol_terms.specs.Substitution.{IsClosed, free_variables, subst_bound}
use Rattle.hol_terms.specs.Formula.{In, NotFreeIn}
use Rattle.hol_terms.specs.Constants.{equation}
use Rattle.hol_terms.proofs.SetLemmas.{in_append_either, same_trans, within_nothing}
use Rattle.hol_terms.proofs.SubstitutionLemmas.{opened_same}
use Rattle.hol_formulas.specs.declared.binder.Binder.{Binder}
use Rattle.lcf_kernel.specs.RuleForms.{IsRedex}
use Rattle.lcf_kernel.specs.KernelState.{KernelState, hyps_of, bare_of, KeepsAll}
use Rattle.hol_logic.specs.States.{States}
use Rattle.hol_logic.specs.Under.{IsUnder}
use Rattle.hol_logic.specs.Quantified.{IsExpanded}
use Rattle.hol_logic.specs.DerivedForms.{IsEquation}
use Rattle.hol_logic.proofs.EquationLemmas.{left_is, right_is}
use Rattle.hol_logic.proofs.HypothesisLemmas.{same_both}
use Rattle.hol_logic.proofs.QuantifierLemmas.{type_kept, body_kept, predicate_kept}

pub expanded_kept : {k l : KernelState} {p : ℕ} {parts : Binder} → KeepsAll k l → IsExpanded k.store p parts → IsExpanded l.store p parts
expanded_kept {p = p} g h = record {
  there = g.records.store.terms p h.there;
  term = rw (g.records.store.trees p h.there) h.term;
  type = rw (g.records.store.trees p h.there, type_kept g h.predicate) h.type;
  predicate = predicate_kept g h.predicate;
  is = rw (g.records.store.trees p h.there, type_kept g h.predicate, body_kept g h.predicate) h.is;
}

-- the lambda speaks of the predicate's variables alone
pub absent_expanded : (v : Term) {p b : Term} {ty : Ty} → b ≡ AppTm p (BoundTm 0 ty) → NotFreeIn v p → NotFreeIn v b
absent_expanded v {p} {b} is absent h = ⊎_elim (λ (i : In v (free_variables p)). absent i) (λ (i : In v []). i) (in_append_either v (free_variables p) [] (subst (λ t. In v (free_variables t)) is h))

-- what the reduction says
pub expansion_says : {app said p b v : Term} {ty : Ty} (x : IsRedex app) → app ≡ AppTm (LamTm ty b) v → b ≡ AppTm p (BoundTm 0 ty) → IsClosed p → ty_of b ≡ BoolTy
    → said ≡ equation (ty_of x.body) app (subst_bound x.body 0 x.argument) → said ≡ equation BoolTy (AppTm (LamTm ty b) v) (AppTm p v)
expansion_says {p = p} {b = b} {v = v} {ty = ty} x e is closed bool h =
    let body : x.body ≡ b = cc in
    let argument : x.argument ≡ v = cc in
    let opened : subst_bound b 0 v ≡ AppTm p v = subst (λ u. subst_bound u 0 v ≡ AppTm p v) (sym is) (ap (λ u. AppTm u v) (opened_same p v 0 closed)) in
    h ∙ rw (e, body, argument, bool, opened) refl

-- nothing is under any one formula
pub under_nothing : {k : KernelState} {r : ℕ} (t : Term) → hyps_of k r ≡ [] → bare_of k r ≡ true → IsUnder k r (t ∷ [])
under_nothing t none bare = record { hyps = rw none (within_nothing (t ∷ [])); bare = bare }

-- two records without hypotheses
pub states_both : {m l : KernelState} {a b r : ℕ} {f g h i : Term} → States m a f [] true → States m b g [] true → States l r h (hyps_of m a ++ hyps_of m b) (bare_of m a && bare_of m b) → h ≡ i → States l r i [] true
states_both s t u e = record {
  there = u.there;
  concl = u.concl ∙ e;
  hyps = same_trans u.hyps (same_both s.hyps t.hyps);
  bare = u.bare ∙ rw (s.bare, t.bare) refl;
}

-- an equation carried into a place
pub restated_says : {f : Term} (e : IsEquation f) (ty : Ty) (x y b : Term) → f ≡ equation ty x y → equation (ty_of b) (subst_bound b 0 e.left) (subst_bound b 0 e.right) ≡ equation (ty_of b) (subst_bound b 0 x) (subst_bound b 0 y)
restated_says e ty x y b h = rw (left_is e ty x y h, right_is e ty x y h) refl
