-- The parts of a term, opened, closed or at other types, fit together again.
use Rattle.std.proofs.Common.{◌≡◌, ℕ, ◌+◌, List, Bool, true, false, not, cond, refl, sym, ap, ◌∙◌, subst, true≢false, eq-eqb, inl, ⊎_elim}
use Rattle.std.specs.Prelude.{◌↔◌}
use Rattle.std.proofs.Math.Dec.{eqb}
use Rattle.hol_types.proofs.TypeLemmas.{eqb_sound}
use Rattle.hol_types.specs.Ty.{Ty}
use Rattle.hol_types.specs.TypeSubst.{TypeSubst, instance_of}
use Rattle.hol_terms.specs.Term.{Term, FreeTm, BoundTm, AppTm, LamTm, BoundsFit, Typed, ty_of}
use Rattle.hol_terms.specs.TermStore.{TermStore, HasTerm, TermsApart, term_tree}
use Rattle.hol_terms.specs.Substitution.{subst_bound, subst_free, subst_types, close_free, free_variables, IsClosed}
use Rattle.hol_terms.specs.Formula.{In}
use Rattle.hol_terms.proofs.SetLemmas.{in_append_left, in_append_right, in_append_either}
use Rattle.hol_terms.specs.declared.node.FreeKind.{FreeKind}
use Rattle.hol_terms.proofs.TermEqLemmas.{term_eq_same, term_eq_fails}
use Rattle.hol_terms.proofs.SubstitutionLemmas.{opened_typed, closed_typed, instance_typed, subst_free_typed}

module _ (s : TermStore) (t u i : ℕ) (typed : Typed (term_tree s t)) (new : Typed (term_tree s u)) (closed : IsClosed (term_tree s u)) (fits : BoundsFit (term_tree s t) i (ty_of (term_tree s u))) where
  opened_as : (e : Term) → term_tree s t ≡ e → Typed (subst_bound e i (term_tree s u))
  opened_as e same = opened_typed e (term_tree s u) i (subst (λ v. Typed v) same typed) new closed (subst (λ v. BoundsFit v i (ty_of (term_tree s u))) same fits)

  -- the two sides of an application
  pub opened_app : (f x : ℕ) → term_tree s t ≡ AppTm (term_tree s f) (term_tree s x) → (a b : Term) → a ≡ subst_bound (term_tree s f) i (term_tree s u) → b ≡ subst_bound (term_tree s x) i (term_tree s u) → Typed (AppTm a b)
  opened_app f x e a b at_a at_b = rw (at_a, at_b) (opened_as (AppTm (term_tree s f) (term_tree s x)) e)

  -- a lambda's body
  pub opened_lam : (ty : Ty) (b : ℕ) → term_tree s t ≡ LamTm ty (term_tree s b) → (v : Ty) (a : Term) → v ≡ ty → a ≡ subst_bound (term_tree s b) (i + 1) (term_tree s u) → Typed (LamTm v a)
  opened_lam ty b e v a at_v at_a = rw (at_v, at_a) (opened_as (LamTm ty (term_tree s b)) e)

module _ (s : TermStore) (types : TypeSubst) (t : ℕ) (typed : Typed (term_tree s t)) where
  instance_as : (e : Term) → term_tree s t ≡ e → Typed (subst_types types e)
  instance_as e same = instance_typed types e (subst (λ v. Typed v) same typed)

  pub instance_app : (f x : ℕ) → term_tree s t ≡ AppTm (term_tree s f) (term_tree s x) → (a b : Term) → a ≡ subst_types types (term_tree s f) → b ≡ subst_types types (term_tree s x) → Typed (AppTm a b)
  instance_app f x e a b at_a at_b = rw (at_a, at_b) (instance_as (AppTm (term_tree s f) (term_tree s x)) e)

  pub instance_lam : (ty : Ty) (b : ℕ) → term_tree s t ≡ LamTm ty (term_tree s b) → (v : Ty) (a : Term) → v ≡ instance_of types ty → a ≡ subst_types types (term_tree s b) → Typed (LamTm v a)
  instance_lam ty b e v a at_v at_a = rw (at_v, at_a) (instance_as (LamTm ty (term_tree s b)) e)

module _ (s : TermStore) (t v i : ℕ) (typed : Typed (term_tree s t)) where
  closed_as : (e : Term) → term_tree s t ≡ e → Typed (close_free e i (term_tree s v))
  closed_as e same = closed_typed e i (term_tree s v) (subst (λ x. Typed x) same typed)

  pub closed_app : (f x : ℕ) → term_tree s t ≡ AppTm (term_tree s f) (term_tree s x) → (a b : Term) → a ≡ close_free (term_tree s f) i (term_tree s v) → b ≡ close_free (term_tree s x) i (term_tree s v) → Typed (AppTm a b)
  closed_app f x e a b at_a at_b = rw (at_a, at_b) (closed_as (AppTm (term_tree s f) (term_tree s x)) e)

  pub closed_lam : (ty : Ty) (b : ℕ) → term_tree s t ≡ LamTm ty (term_tree s b) → (w : Ty) (a : Term) → w ≡ ty → a ≡ close_free (term_tree s b) (i + 1) (term_tree s v) → Typed (LamTm w a)
  closed_lam ty b e w a at_w at_a = rw (at_w, at_a) (closed_as (LamTm ty (term_tree s b)) e)

-- a variable is another one exactly where its number is
pub variable_stays : (s : TermStore) → TermsApart s → (t v i : ℕ) → HasTerm s t → HasTerm s v → (k : FreeKind) (n : List ℕ) (ty : Ty) → term_tree s t ≡ FreeTm k n ty → (t ≡ v → ⊥) → term_tree s t ≡ close_free (term_tree s t) i (term_tree s v)
variable_stays s apart t v i has_t has_v k n ty e differ =
    let no = term_eq_fails (FreeTm k n ty) (term_tree s v) (λ f. differ (apart t v has_t has_v (e ∙ f))) in
    rw e (sym (ap (λ b. cond b (BoundTm i ty) (FreeTm k n ty)) no))

pub variable_closed : (s : TermStore) (t v i : ℕ) (k : FreeKind) (n : List ℕ) (ty : Ty) → term_tree s t ≡ FreeTm k n ty → t ≡ v → BoundTm i ty ≡ close_free (term_tree s t) i (term_tree s v)
variable_closed s t v i k n ty e same =
    let yes = term_eq_same (FreeTm k n ty) (term_tree s v) (sym e ∙ ap (λ x. term_tree s x) same) in
    rw e (sym (ap (λ b. cond b (BoundTm i ty) (FreeTm k n ty)) yes))

pub differ_by_test : (a b : ℕ) → true ≡ not (eqb a b) → a ≡ b → ⊥
differ_by_test a b h e = true≢false (h ∙ ap not (eq-eqb a b e))

pub same_by_test : (a b : ℕ) → false ≡ not (eqb a b) → a ≡ b
same_by_test a b h = by (eqb a b) refl h
  where
    by : (r : Bool) → eqb a b ≡ r → false ≡ not r → a ≡ b
    by true e k = eqb_sound a b e
    by false e k = absurd (true≢false (sym k))

module _ (s : TermStore) (t v u : ℕ) (typed : Typed (term_tree s t)) (new : Typed (term_tree s u)) (closed : IsClosed (term_tree s u)) (same_type : ty_of (term_tree s u) ≡ ty_of (term_tree s v)) where
  replaced_as : (e : Term) → term_tree s t ≡ e → Typed (subst_free (term_tree s v) (term_tree s u) e)
  replaced_as e same = subst_free_typed e (term_tree s v) (term_tree s u) (subst (λ x. Typed x) same typed) new closed same_type

  pub replaced_app : (f x : ℕ) → term_tree s t ≡ AppTm (term_tree s f) (term_tree s x) → (a b : Term) → a ≡ subst_free (term_tree s v) (term_tree s u) (term_tree s f) → b ≡ subst_free (term_tree s v) (term_tree s u) (term_tree s x) → Typed (AppTm a b)
  replaced_app f x e a b at_a at_b = rw (at_a, at_b) (replaced_as (AppTm (term_tree s f) (term_tree s x)) e)

  pub replaced_lam : (ty : Ty) (b : ℕ) → term_tree s t ≡ LamTm ty (term_tree s b) → (w : Ty) (a : Term) → w ≡ ty → a ≡ subst_free (term_tree s v) (term_tree s u) (term_tree s b) → Typed (LamTm w a)
  replaced_lam ty b e w a at_w at_a = rw (at_w, at_a) (replaced_as (LamTm ty (term_tree s b)) e)

-- another variable stays, and the variable itself becomes the term
pub other_stays : (s : TermStore) → TermsApart s → (t v u : ℕ) → HasTerm s t → HasTerm s v → (k : FreeKind) (n : List ℕ) (ty : Ty) → term_tree s t ≡ FreeTm k n ty → (t ≡ v → ⊥) → term_tree s t ≡ subst_free (term_tree s v) (term_tree s u) (term_tree s t)
other_stays s apart t v u has_t has_v k n ty e differ =
    let no = term_eq_fails (FreeTm k n ty) (term_tree s v) (λ f. differ (apart t v has_t has_v (e ∙ f))) in
    rw e (sym (ap (λ b. cond b (term_tree s u) (FreeTm k n ty)) no))

pub itself_replaced : (s : TermStore) (t v u : ℕ) (k : FreeKind) (n : List ℕ) (ty : Ty) → term_tree s t ≡ FreeTm k n ty → t ≡ v → term_tree s u ≡ subst_free (term_tree s v) (term_tree s u) (term_tree s t)
itself_replaced s t v u k n ty e same =
    let yes = term_eq_same (FreeTm k n ty) (term_tree s v) (sym e ∙ ap (λ x. term_tree s x) same) in
    rw e (sym (ap (λ b. cond b (term_tree s u) (FreeTm k n ty)) yes))

-- ---- whether a variable is free

-- in a variable it is free exactly where it is that variable
pub free_here : (s : TermStore) → TermsApart s → (t v : ℕ) → HasTerm s t → HasTerm s v → (k : FreeKind) (n : List ℕ) (ty : Ty) → term_tree s t ≡ FreeTm k n ty → (r : Bool) → r ≡ eqb t v → (r ≡ true) ↔ In (term_tree s v) (free_variables (term_tree s t))
free_here s apart t v has_t has_v k n ty e r test =
    rw e (
      λ h. inl (sym (ap (λ x. term_tree s x) (eqb_sound t v (sym test ∙ h))) ∙ e),
      λ h. ⊎_elim (λ f. test ∙ eq-eqb t v (apart t v has_t has_v (e ∙ sym f))) (λ f. absurd f) h,
    )

pub free_left : (v f x : Term) → In v (free_variables f) → (true ≡ true) ↔ In v (free_variables (AppTm f x))
free_left v f x h = (λ _. in_append_left v (free_variables f) (free_variables x) h, λ _. refl)

pub free_right : (v f x : Term) (r : Bool) → (In v (free_variables f) → ⊥) → (r ≡ true) ↔ In v (free_variables x) → (r ≡ true) ↔ In v (free_variables (AppTm f x))
free_right v f x r absent here = (λ h. in_append_right v (free_variables f) (free_variables x) (here.0 h), λ h. ⊎_elim (λ l. absurd (absent l)) (λ k. here.1 k) (in_append_either v (free_variables f) (free_variables x) h))

-- a test that fails says that the fact doesn't hold
pub fails : {A : Type 0} (r : Bool) → r ≡ false → (r ≡ true) ↔ A → A → ⊥
fails r e here h = true≢false (sym (here.1 h) ∙ e)
