-- Predicates under quantifiers, as a kernel goes on, and what the rules say of them.
use Rattle.std.proofs.Common.{◌≡◌, ◌∷◌, ◌++◌, ◌∙◌, [], refl, sym, ap, subst, ⊎_elim, inl, inr, ℕ, List}
use Rattle.std.specs.Prelude.{codes}
use Rattle.hol_types.specs.Ty.{Ty, BoolTy, FunTy}
use Rattle.hol_types.specs.TypeStore.{type_tree}
use Rattle.hol_terms.specs.Term.{Term, FreeTm, LamTm, BoundsFit, ty_of}
use Rattle.hol_terms.specs.declared.node.FreeKind.TheVariants.{Open}
use Rattle.hol_terms.specs.TermStore.{TermStore, term_tree}
use Rattle.hol_terms.specs.Substitution.{IsFreeVariable, subst_bound}
use Rattle.hol_terms.specs.Formula.{In, IsFormula, NotFreeIn}
use Rattle.hol_terms.specs.Constants.{negation, for_all, exists, chosen}
use Rattle.hol_terms.specs.Derivable.{abstraction, applied}
use Rattle.hol_terms.proofs.FormulaLemmas.{Has, for_all_is_formula, exists_is_formula}
use Rattle.hol_terms.proofs.SubstitutionLemmas.{opened_back}
use Rattle.hol_terms.proofs.SetLemmas.{in_append_either}
use Rattle.hol_terms.proofs.QuantifierRules.{free_in_none}
use Rattle.hol_formulas.specs.declared.binder.Binder.{Binder}
use Rattle.hol_formulas.proofs.TreesLemmas.{from_trees}
use Rattle.lcf_kernel.specs.RuleForms.{IsGeneral, IsUniversal, IsExistence, IsWitness}
use Rattle.lcf_kernel.specs.KernelState.{KernelState, hyps_of, context_of, all_hyps_of, IsKernel, KeepsAll}
use Rattle.hol_logic.specs.Under.{IsUnder}
use Rattle.hol_logic.specs.Quantified.{IsFresh, IsPredicate, all_stated, some_stated, all_contrary, some_contrary}
use Rattle.hol_logic.proofs.BodyLemmas.{InBody, body_in, in_app, in_const, lambda_is}

-- ---- a kernel that goes on

module _ {k l : KernelState} {p : Binder} (g : KeepsAll k l) (h : IsPredicate k.store p) where
  pub type_kept : type_tree l.store.types p.ty ≡ type_tree k.store.types p.ty
  type_kept = g.records.store.type_trees p.ty h.ty

  pub body_kept : term_tree l.store p.body ≡ term_tree k.store p.body
  body_kept = g.records.store.trees p.body h.body

  pub predicate_kept : IsPredicate l.store p
  predicate_kept = record {
    ty = g.records.store.types p.ty h.ty;
    body = g.records.store.terms p.body h.body;
    lambda = rw (type_kept, body_kept) h.lambda;
    bool = rw body_kept h.bool;
  }

  pub all_stated_kept : all_stated l.store p ≡ all_stated k.store p
  all_stated_kept = rw (type_kept, body_kept) refl

  pub some_stated_kept : some_stated l.store p ≡ some_stated k.store p
  some_stated_kept = rw (type_kept, body_kept) refl

  pub all_contrary_kept : all_contrary l.store p ≡ all_contrary k.store p
  all_contrary_kept = rw (type_kept, body_kept) refl

  pub some_contrary_kept : some_contrary l.store p ≡ some_contrary k.store p
  some_contrary_kept = rw (type_kept, body_kept) refl

-- ---- formulas

module _ {s : TermStore} {p : Binder} (h : IsPredicate s p) where
  pub in_body : InBody (type_tree s.types p.ty) (term_tree s p.body) BoolTy
  in_body = subst (λ t. InBody (type_tree s.types p.ty) (term_tree s p.body) t) h.bool (body_in h.lambda)

  pub in_contrary : InBody (type_tree s.types p.ty) (negation (term_tree s p.body)) BoolTy
  in_contrary = in_app (in_const (codes "not") (FunTy BoolTy BoolTy)) in_body

  pub predicate_has : Has (LamTm (type_tree s.types p.ty) (term_tree s p.body)) (FunTy (type_tree s.types p.ty) BoolTy)
  predicate_has = record { term = h.lambda; type = ap (λ t. FunTy (type_tree s.types p.ty) t) h.bool }

  pub contrary_has : Has (LamTm (type_tree s.types p.ty) (negation (term_tree s p.body))) (FunTy (type_tree s.types p.ty) BoolTy)
  contrary_has = record { term = lambda_is in_contrary; type = refl }

  pub all_stated_formula : IsFormula (all_stated s p)
  all_stated_formula = for_all_is_formula predicate_has

  pub some_stated_formula : IsFormula (some_stated s p)
  some_stated_formula = exists_is_formula predicate_has

  pub all_contrary_formula : IsFormula (all_contrary s p)
  all_contrary_formula = for_all_is_formula contrary_has

  pub some_contrary_formula : IsFormula (some_contrary s p)
  some_contrary_formula = exists_is_formula contrary_has

-- ---- variables that a term doesn't speak of

pub is_fresh : {v t : Term} {name : List ℕ} {ty : Ty} → v ≡ FreeTm Open name ty → NotFreeIn v t → IsFresh v ty t
is_fresh {name = name} is absent = record { name = name; is = is; absent = absent }

module _ {v : Term} {ty : Ty} {b : Term} (f : IsFresh v ty b) where
  pub fresh_variable : IsFreeVariable v
  fresh_variable = rw f.is tt

  pub fresh_type : ty_of v ≡ ty
  fresh_type = ap (λ t. ty_of t) f.is

  pub fresh_has : Has v ty
  fresh_has = record { term = record { typed = rw f.is tt; closed = rw f.is tt }; type = fresh_type }

  pub fresh_fits : BoundsFit b 0 ty → BoundsFit b 0 (ty_of v)
  fresh_fits h = subst (λ t. BoundsFit b 0 t) (sym fresh_type) h

  -- what is said of it holds of all
  pub closed_over : {said : Term} → BoundsFit b 0 ty → said ≡ subst_bound b 0 v → for_all (ty_of v) (abstraction v said) ≡ for_all ty (LamTm ty b)
  closed_over {said} fits e = rw (e, opened_back b 0 v fresh_variable f.absent (fresh_fits fits), fresh_type) refl

-- nor does a record under one formula, where that doesn't
pub fresh_general : {k : KernelState} {r : ℕ} {v g : Term} {ty : Ty} {b : Term} → IsKernel k → IsFresh v ty b → NotFreeIn v g → IsUnder k r (g ∷ []) → IsGeneral (all_hyps_of k r) v
fresh_general {k} {r} {v} {g} {ty} kernel f absent under = record { variable = fresh_variable f; absent = free_in_none v (context_of k ++ hyps_of k r) each }
  where
    one : (u : Term) → In u (g ∷ []) → NotFreeIn v u
    one u (inl e) = subst (λ t. NotFreeIn v t) (sym e) absent
    one u (inr h) = absurd h

    outside : (u : Term) → In u (context_of k) → NotFreeIn v u
    outside u i h =
        let p = from_trees k.store u k.context i in
        (kernel.context.no_open p.0 p.1).none f.name ty (rw (f.is, p.2) at h)

    each : (u : Term) → In u (context_of k ++ hyps_of k r) → NotFreeIn v u
    each u i = ⊎_elim (λ (j : In u (context_of k)). outside u j) (λ (j : In u (hyps_of k r)). one u (under.hyps.inside u j)) (in_append_either u (context_of k) (hyps_of k r) i)

-- ---- what the rules say

pub witness_for : {said e t v b : Term} {ty : Ty} → ty_of v ≡ ty → t ≡ v → e ≡ exists ty (LamTm ty b) → said ≡ subst_bound b 0 v → IsWitness said e t
witness_for {b = b} type same exists_is said_is = rw same (record { body = b; exists_is = exists_is ∙ rw type refl; said_is = said_is })

pub chosen_says : {f b : Term} {ty : Ty} (x : IsExistence f) → f ≡ exists ty (LamTm ty b) → subst_bound x.body 0 (chosen x.type (LamTm x.type x.body)) ≡ subst_bound b 0 (chosen ty (LamTm ty b))
chosen_says {b = b} {ty = ty} x e =
    let body : x.body ≡ b = cc in
    let type : x.type ≡ ty = cc in
    rw (body, type) refl

pub universal_says : {f t b : Term} {ty : Ty} (u : IsUniversal f t) → f ≡ for_all ty (LamTm ty b) → applied u.predicate t ≡ subst_bound b 0 t
universal_says {t = t} {b = b} {ty = ty} u e =
    let predicate : u.predicate ≡ LamTm ty b = cc in
    rw predicate refl
