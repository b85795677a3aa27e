-- What substitution does to types, typing and loose Bounds, and how closing a term undoes opening it.
use Rattle.std.proofs.Common.{◌≡◌, ℕ, ◌+◌, ◌<◌, ◌≤◌, List, cond, Bool, true, false, refl, sym, ap, ◌∙◌, inl, inr, ⊎_elim, ne_eqb, eq-eqb, ap₂, arith}
use Rattle.std.proofs.Math.Dec.{eqb}
use Rattle.std.proofs.lemmas.Bool.{eqb-false}
use Rattle.hol_types.proofs.TypeLemmas.{eqb_sound}
use Rattle.hol_types.specs.Ty.{Ty, FunTy}
use Rattle.hol_types.specs.TypeSubst.{TypeSubst, instance_of}
use Rattle.hol_terms.specs.Term.{Term, FreeTm, BoundTm, ConstTm, NumTm, AppTm, LamTm, BoundsFit, Typed, ty_of, result_ty}
use Rattle.hol_terms.specs.TermEq.{term_eq}
use Rattle.hol_terms.specs.declared.node.FreeKind.{FreeKind}
use Rattle.hol_terms.specs.Substitution.{subst_free, subst_bound, close_free, subst_types, free_variables, LooseBelow, IsClosed, IsFreeVariable}
use Rattle.hol_terms.specs.Formula.{In, NotFreeIn, IsTerm, IsFormula}
use Rattle.hol_terms.proofs.TermEqLemmas.{term_eq_sound, term_eq_refl, term_eq_apart, term_eq_fails}
use Rattle.hol_terms.proofs.SetLemmas.{in_append_left, in_append_right, in_append_either}

-- ---- loose Bounds

pub loose_more : (t : Term) (d e : ℕ) → LooseBelow t d → d ≤ e → LooseBelow t e
loose_more (FreeTm k n u) d e h le = tt
loose_more (BoundTm j u) d e h le = omega arith
loose_more (ConstTm n u) d e h le = tt
loose_more (NumTm z) d e h le = tt
loose_more (AppTm f x) d e h le = (loose_more f d e h.0 le, loose_more x d e h.1 le)
loose_more (LamTm u b) d e h le = loose_more b (d + 1) (e + 1) h (omega arith)

-- a term whose loose Bounds are below fits any type above
pub loose_fits : (t : Term) (d i : ℕ) (ty : Ty) → LooseBelow t d → d ≤ i → BoundsFit t i ty
loose_fits (FreeTm k n u) d i ty h le = tt
loose_fits (BoundTm j u) d i ty h le = λ e. absurd (omega arith)
loose_fits (ConstTm n u) d i ty h le = tt
loose_fits (NumTm z) d i ty h le = tt
loose_fits (AppTm f x) d i ty h le = (loose_fits f d i ty h.0 le, loose_fits x d i ty h.1 le)
loose_fits (LamTm u b) d i ty h le = loose_fits b (d + 1) (i + 1) ty h (omega arith)

-- ---- types for type variables

result_of : (s : TypeSubst) (a b c : Ty) → a ≡ FunTy b c → result_ty (instance_of s a) ≡ instance_of s (result_ty a)
result_of s a b c e = rw e refl

fits_of : (s : TypeSubst) (a b c : Ty) → a ≡ FunTy b c → instance_of s a ≡ FunTy (instance_of s b) (result_ty (instance_of s a))
fits_of s a b c e = rw e refl

-- the type of an instance is the instance of the type
pub instance_ty : (s : TypeSubst) (t : Term) → Typed t → ty_of (subst_types s t) ≡ instance_of s (ty_of t)
instance_ty s (FreeTm k n u) h = refl
instance_ty s (BoundTm j u) h = refl
instance_ty s (ConstTm n u) h = refl
instance_ty s (NumTm z) h = refl
instance_ty s (AppTm f x) h = ap result_ty (instance_ty s f h.0) ∙ result_of s (ty_of f) (ty_of x) (result_ty (ty_of f)) h.2
instance_ty s (LamTm u b) h = ap (λ w. FunTy (instance_of s u) w) (instance_ty s b h.0)

pub instance_fits : (s : TypeSubst) (t : Term) (i : ℕ) (ty : Ty) → BoundsFit t i ty → BoundsFit (subst_types s t) i (instance_of s ty)
instance_fits s (FreeTm k n u) i ty h = tt
instance_fits s (BoundTm j u) i ty h = λ e. ap (instance_of s) (h e)
instance_fits s (ConstTm n u) i ty h = tt
instance_fits s (NumTm z) i ty h = tt
instance_fits s (AppTm f x) i ty h = (instance_fits s f i ty h.0, instance_fits s x i ty h.1)
instance_fits s (LamTm u b) i ty h = instance_fits s b (i + 1) ty h

-- an instance of a typed term is typed
pub instance_typed : (s : TypeSubst) (t : Term) → Typed t → Typed (subst_types s t)
instance_typed s (FreeTm k n u) h = tt
instance_typed s (BoundTm j u) h = tt
instance_typed s (ConstTm n u) h = tt
instance_typed s (NumTm z) h = h
instance_typed s (AppTm f x) h = (
  instance_typed s f h.0,
  instance_typed s x h.1,
  rw (instance_ty s f h.0, instance_ty s x h.1) (fits_of s (ty_of f) (ty_of x) (result_ty (ty_of f)) h.2),
)
instance_typed s (LamTm u b) h = (instance_typed s b h.0, instance_fits s b 0 u h.1)

pub instance_loose : (s : TypeSubst) (t : Term) (d : ℕ) → LooseBelow t d → LooseBelow (subst_types s t) d
instance_loose s (FreeTm k n u) d h = tt
instance_loose s (BoundTm j u) d h = h
instance_loose s (ConstTm n u) d h = tt
instance_loose s (NumTm z) d h = tt
instance_loose s (AppTm f x) d h = (instance_loose s f d h.0, instance_loose s x d h.1)
instance_loose s (LamTm u b) d h = instance_loose s b (d + 1) h

pub instance_is_term : (s : TypeSubst) (t : Term) → IsTerm t → IsTerm (subst_types s t)
instance_is_term s t h = record { typed = instance_typed s t h.typed; closed = instance_loose s t 0 h.closed }

pub instance_is_formula : (s : TypeSubst) (t : Term) → IsFormula t → IsFormula (subst_types s t)
instance_is_formula s t h = record {
  typed = instance_typed s t h.typed;
  closed = instance_loose s t 0 h.closed;
  bool = instance_ty s t h.typed ∙ ap (instance_of s) h.bool;
}

-- ---- a term for a Bound

-- other Bounds fit as before
pub opened_fits : (t u : Term) (i d : ℕ) (ty : Ty) → IsClosed u → BoundsFit t d ty → BoundsFit (subst_bound t i u) d ty
opened_fits (FreeTm k n v) u i d ty closed h = tt
opened_fits (BoundTm j v) u i d ty closed h = by (eqb j i)
  where
    by : (b : Bool) → BoundsFit (cond b u (BoundTm j v)) d ty
    by true = loose_fits u 0 d ty closed (omega arith)
    by false = h
opened_fits (ConstTm n v) u i d ty closed h = tt
opened_fits (NumTm z) u i d ty closed h = tt
opened_fits (AppTm f x) u i d ty closed h = (opened_fits f u i d ty closed h.0, opened_fits x u i d ty closed h.1)
opened_fits (LamTm v b) u i d ty closed h = opened_fits b u (i + 1) (d + 1) ty closed h

-- the type stays, where the Bound had the type of the term
pub opened_ty : (t u : Term) (i : ℕ) → BoundsFit t i (ty_of u) → ty_of (subst_bound t i u) ≡ ty_of t
opened_ty (FreeTm k n v) u i h = refl
opened_ty (BoundTm j v) u i h = by (eqb j i) (λ e. h (eqb_sound j i e))
  where
    by : (b : Bool) → (b ≡ true → v ≡ ty_of u) → ty_of (cond b u (BoundTm j v)) ≡ v
    by true k = sym (k refl)
    by false k = refl
opened_ty (ConstTm n v) u i h = refl
opened_ty (NumTm z) u i h = refl
opened_ty (AppTm f x) u i h = ap result_ty (opened_ty f u i h.0)
opened_ty (LamTm v b) u i h = ap (λ w. FunTy v w) (opened_ty b u (i + 1) h)

pub opened_typed : (t u : Term) (i : ℕ) → Typed t → Typed u → IsClosed u → BoundsFit t i (ty_of u) → Typed (subst_bound t i u)
opened_typed (FreeTm k n v) u i typed typed_u closed h = tt
opened_typed (BoundTm j v) u i typed typed_u closed h = by (eqb j i)
  where
    by : (b : Bool) → Typed (cond b u (BoundTm j v))
    by true = typed_u
    by false = tt
opened_typed (ConstTm n v) u i typed typed_u closed h = tt
opened_typed (NumTm z) u i typed typed_u closed h = typed
opened_typed (AppTm f x) u i typed typed_u closed h = (
  opened_typed f u i typed.0 typed_u closed h.0,
  opened_typed x u i typed.1 typed_u closed h.1,
  rw (opened_ty f u i h.0, opened_ty x u i h.1) typed.2,
)
opened_typed (LamTm v b) u i typed typed_u closed h = (opened_typed b u (i + 1) typed.0 typed_u closed h, opened_fits b u (i + 1) 0 v closed typed.1)

-- one loose Bound less
pub opened_loose : (t u : Term) (i : ℕ) → IsClosed u → LooseBelow t (i + 1) → LooseBelow (subst_bound t i u) i
opened_loose (FreeTm k n v) u i closed h = tt
opened_loose (BoundTm j v) u i closed h = by (eqb j i) (λ e. eqb-false j i e)
  where
    by : (b : Bool) → (b ≡ false → j ≡ i → ⊥) → LooseBelow (cond b u (BoundTm j v)) i
    by true k = loose_more u 0 i closed (omega arith)
    by false k = let apart : j ≡ i → ⊥ = k refl in omega arith
opened_loose (ConstTm n v) u i closed h = tt
opened_loose (NumTm z) u i closed h = tt
opened_loose (AppTm f x) u i closed h = (opened_loose f u i closed h.0, opened_loose x u i closed h.1)
opened_loose (LamTm v b) u i closed h = opened_loose b u (i + 1) closed h

-- a Bound that isn't there
pub opened_same : (t u : Term) (i : ℕ) → LooseBelow t i → subst_bound t i u ≡ t
opened_same (FreeTm k n v) u i h = refl
opened_same (BoundTm j v) u i h = rw (ne_eqb j i (λ e. omega arith)) refl
opened_same (ConstTm n v) u i h = refl
opened_same (NumTm z) u i h = refl
opened_same (AppTm f x) u i h = ap₂ AppTm (opened_same f u i h.0) (opened_same x u i h.1)
opened_same (LamTm v b) u i h = ap (LamTm v) (opened_same b u (i + 1) h)

-- ---- a Bound for a free variable

pub closed_ty : (t : Term) (i : ℕ) (v : Term) → ty_of (close_free t i v) ≡ ty_of t
closed_ty (FreeTm k n u) i v = by (term_eq (FreeTm k n u) v)
  where
    by : (b : Bool) → ty_of (cond b (BoundTm i u) (FreeTm k n u)) ≡ u
    by true = refl
    by false = refl
closed_ty (BoundTm j u) i v = refl
closed_ty (ConstTm n u) i v = refl
closed_ty (NumTm z) i v = refl
closed_ty (AppTm f x) i v = ap result_ty (closed_ty f i v)
closed_ty (LamTm u b) i v = ap (FunTy u) (closed_ty b (i + 1) v)

-- other Bounds fit as before
pub closed_fits_below : (t : Term) (i : ℕ) (v : Term) (d : ℕ) (ty : Ty) → d < i → BoundsFit t d ty → BoundsFit (close_free t i v) d ty
closed_fits_below (FreeTm k n u) i v d ty below h = by (term_eq (FreeTm k n u) v)
  where
    by : (b : Bool) → BoundsFit (cond b (BoundTm i u) (FreeTm k n u)) d ty
    by true = λ e. absurd (omega arith)
    by false = tt
closed_fits_below (BoundTm j u) i v d ty below h = h
closed_fits_below (ConstTm n u) i v d ty below h = tt
closed_fits_below (NumTm z) i v d ty below h = tt
closed_fits_below (AppTm f x) i v d ty below h = (closed_fits_below f i v d ty below h.0, closed_fits_below x i v d ty below h.1)
closed_fits_below (LamTm u b) i v d ty below h = closed_fits_below b (i + 1) v (d + 1) ty (omega arith) h

-- the new Bound has the type of the variable
pub closed_fits : (t : Term) (i : ℕ) (v : Term) → LooseBelow t i → BoundsFit (close_free t i v) i (ty_of v)
closed_fits (FreeTm k n u) i v h = by (term_eq (FreeTm k n u) v) refl
  where
    by : (b : Bool) → term_eq (FreeTm k n u) v ≡ b → BoundsFit (cond b (BoundTm i u) (FreeTm k n u)) i (ty_of v)
    by true same = λ e. ap ty_of (term_eq_sound (FreeTm k n u) v same)
    by false apart = tt
closed_fits (BoundTm j u) i v h = λ e. absurd (omega arith)
closed_fits (ConstTm n u) i v h = tt
closed_fits (NumTm z) i v h = tt
closed_fits (AppTm f x) i v h = (closed_fits f i v h.0, closed_fits x i v h.1)
closed_fits (LamTm u b) i v h = closed_fits b (i + 1) v h

pub closed_typed : (t : Term) (i : ℕ) (v : Term) → Typed t → Typed (close_free t i v)
closed_typed (FreeTm k n u) i v h = by (term_eq (FreeTm k n u) v)
  where
    by : (b : Bool) → Typed (cond b (BoundTm i u) (FreeTm k n u))
    by true = tt
    by false = tt
closed_typed (BoundTm j u) i v h = tt
closed_typed (ConstTm n u) i v h = tt
closed_typed (NumTm z) i v h = h
closed_typed (AppTm f x) i v h = (closed_typed f i v h.0, closed_typed x i v h.1, rw (closed_ty f i v, closed_ty x i v) h.2)
closed_typed (LamTm u b) i v h = (closed_typed b (i + 1) v h.0, closed_fits_below b (i + 1) v 0 u (omega arith) h.1)

pub closed_loose : (t : Term) (i : ℕ) (v : Term) → LooseBelow t i → LooseBelow (close_free t i v) (i + 1)
closed_loose (FreeTm k n u) i v h = by (term_eq (FreeTm k n u) v)
  where
    by : (b : Bool) → LooseBelow (cond b (BoundTm i u) (FreeTm k n u)) (i + 1)
    by true = omega arith
    by false = tt
closed_loose (BoundTm j u) i v h = omega arith
closed_loose (ConstTm n u) i v h = tt
closed_loose (NumTm z) i v h = tt
closed_loose (AppTm f x) i v h = (closed_loose f i v h.0, closed_loose x i v h.1)
closed_loose (LamTm u b) i v h = closed_loose b (i + 1) v h

-- ---- a term for a free variable

pub subst_free_ty : (t v u : Term) → ty_of u ≡ ty_of v → ty_of (subst_free v u t) ≡ ty_of t
subst_free_ty (FreeTm k n w) v u e = by (term_eq (FreeTm k n w) v) refl
  where
    by : (b : Bool) → term_eq (FreeTm k n w) v ≡ b → ty_of (cond b u (FreeTm k n w)) ≡ w
    by true same = e ∙ ap ty_of (sym (term_eq_sound (FreeTm k n w) v same))
    by false apart = refl
subst_free_ty (BoundTm j w) v u e = refl
subst_free_ty (ConstTm n w) v u e = refl
subst_free_ty (NumTm z) v u e = refl
subst_free_ty (AppTm f x) v u e = ap result_ty (subst_free_ty f v u e)
subst_free_ty (LamTm w b) v u e = ap (FunTy w) (subst_free_ty b v u e)

pub subst_free_fits : (t v u : Term) (d : ℕ) (ty : Ty) → IsClosed u → BoundsFit t d ty → BoundsFit (subst_free v u t) d ty
subst_free_fits (FreeTm k n w) v u d ty closed h = by (term_eq (FreeTm k n w) v)
  where
    by : (b : Bool) → BoundsFit (cond b u (FreeTm k n w)) d ty
    by true = loose_fits u 0 d ty closed (omega arith)
    by false = tt
subst_free_fits (BoundTm j w) v u d ty closed h = h
subst_free_fits (ConstTm n w) v u d ty closed h = tt
subst_free_fits (NumTm z) v u d ty closed h = tt
subst_free_fits (AppTm f x) v u d ty closed h = (subst_free_fits f v u d ty closed h.0, subst_free_fits x v u d ty closed h.1)
subst_free_fits (LamTm w b) v u d ty closed h = subst_free_fits b v u (d + 1) ty closed h

pub subst_free_typed : (t v u : Term) → Typed t → Typed u → IsClosed u → ty_of u ≡ ty_of v → Typed (subst_free v u t)
subst_free_typed (FreeTm k n w) v u h typed_u closed e = by (term_eq (FreeTm k n w) v)
  where
    by : (b : Bool) → Typed (cond b u (FreeTm k n w))
    by true = typed_u
    by false = tt
subst_free_typed (BoundTm j w) v u h typed_u closed e = tt
subst_free_typed (ConstTm n w) v u h typed_u closed e = tt
subst_free_typed (NumTm z) v u h typed_u closed e = h
subst_free_typed (AppTm f x) v u h typed_u closed e = (
  subst_free_typed f v u h.0 typed_u closed e,
  subst_free_typed x v u h.1 typed_u closed e,
  rw (subst_free_ty f v u e, subst_free_ty x v u e) h.2,
)
subst_free_typed (LamTm w b) v u h typed_u closed e = (subst_free_typed b v u h.0 typed_u closed e, subst_free_fits b v u 0 w closed h.1)

pub subst_free_loose : (t v u : Term) (d : ℕ) → IsClosed u → LooseBelow t d → LooseBelow (subst_free v u t) d
subst_free_loose (FreeTm k n w) v u d closed h = by (term_eq (FreeTm k n w) v)
  where
    by : (b : Bool) → LooseBelow (cond b u (FreeTm k n w)) d
    by true = loose_more u 0 d closed (omega arith)
    by false = tt
subst_free_loose (BoundTm j w) v u d closed h = h
subst_free_loose (ConstTm n w) v u d closed h = tt
subst_free_loose (NumTm z) v u d closed h = tt
subst_free_loose (AppTm f x) v u d closed h = (subst_free_loose f v u d closed h.0, subst_free_loose x v u d closed h.1)
subst_free_loose (LamTm w b) v u d closed h = subst_free_loose b v u (d + 1) closed h

-- ---- opening what was closed, and closing what was opened

-- the term for the Bound that stands for a variable is the term for the variable
pub opened_closed : (t : Term) (i : ℕ) (v u : Term) → LooseBelow t i → subst_bound (close_free t i v) i u ≡ subst_free v u t
opened_closed (FreeTm k n w) i v u h = by (term_eq (FreeTm k n w) v)
  where
    by : (b : Bool) → subst_bound (cond b (BoundTm i w) (FreeTm k n w)) i u ≡ cond b u (FreeTm k n w)
    by true = rw (eq-eqb i i refl) refl
    by false = refl
opened_closed (BoundTm j w) i v u h = opened_same (BoundTm j w) u i h
opened_closed (ConstTm n w) i v u h = refl
opened_closed (NumTm z) i v u h = refl
opened_closed (AppTm f x) i v u h = ap₂ AppTm (opened_closed f i v u h.0) (opened_closed x i v u h.1)
opened_closed (LamTm w b) i v u h = ap (LamTm w) (opened_closed b (i + 1) v u h)

-- a variable for itself
pub subst_free_itself : (t v : Term) → subst_free v v t ≡ t
subst_free_itself (FreeTm k n w) v = by (term_eq (FreeTm k n w) v) refl
  where
    by : (b : Bool) → term_eq (FreeTm k n w) v ≡ b → cond b v (FreeTm k n w) ≡ FreeTm k n w
    by true same = sym (term_eq_sound (FreeTm k n w) v same)
    by false apart = refl
subst_free_itself (BoundTm j w) v = refl
subst_free_itself (ConstTm n w) v = refl
subst_free_itself (NumTm z) v = refl
subst_free_itself (AppTm f x) v = ap₂ AppTm (subst_free_itself f v) (subst_free_itself x v)
subst_free_itself (LamTm w b) v = ap (LamTm w) (subst_free_itself b v)

pub closed_back : (t : Term) (i : ℕ) (v : Term) → LooseBelow t i → subst_bound (close_free t i v) i v ≡ t
closed_back t i v h = opened_closed t i v v h ∙ subst_free_itself t v

-- a variable that isn't free in the term
apart_if_absent : (k : FreeKind) (n : List ℕ) (w : Ty) (v : Term) → NotFreeIn v (FreeTm k n w) → term_eq (FreeTm k n w) v ≡ false
apart_if_absent k n w v absent = term_eq_fails (FreeTm k n w) v (λ e. absent (inl (sym e)))

pub closed_absent : (t : Term) (i : ℕ) (v : Term) → NotFreeIn v t → close_free t i v ≡ t
closed_absent (FreeTm k n w) i v absent = rw (apart_if_absent k n w v absent) refl
closed_absent (BoundTm j w) i v absent = refl
closed_absent (ConstTm n w) i v absent = refl
closed_absent (NumTm z) i v absent = refl
closed_absent (AppTm f x) i v absent =
    ap₂ AppTm (closed_absent f i v (λ h. absent (in_append_left v (free_variables f) (free_variables x) h))) (closed_absent x i v (λ h. absent (in_append_right v (free_variables f) (free_variables x) h)))
closed_absent (LamTm w b) i v absent = ap (LamTm w) (closed_absent b (i + 1) v absent)

pub subst_free_absent : (t v u : Term) → NotFreeIn v t → subst_free v u t ≡ t
subst_free_absent (FreeTm k n w) v u absent = rw (apart_if_absent k n w v absent) refl
subst_free_absent (BoundTm j w) v u absent = refl
subst_free_absent (ConstTm n w) v u absent = refl
subst_free_absent (NumTm z) v u absent = refl
subst_free_absent (AppTm f x) v u absent =
    ap₂ AppTm (subst_free_absent f v u (λ h. absent (in_append_left v (free_variables f) (free_variables x) h))) (subst_free_absent x v u (λ h. absent (in_append_right v (free_variables f) (free_variables x) h)))
subst_free_absent (LamTm w b) v u absent = ap (LamTm w) (subst_free_absent b v u absent)

-- a variable that was closed over isn't free any more
pub closed_removes : (t : Term) (i : ℕ) (v : Term) → NotFreeIn v (close_free t i v)
closed_removes (FreeTm k n w) i v h = by (term_eq (FreeTm k n w) v) refl h
  where
    by : (b : Bool) → term_eq (FreeTm k n w) v ≡ b → In v (free_variables (cond b (BoundTm i w) (FreeTm k n w))) → ⊥
    by true same l = l
    by false apart (inl e) = term_eq_apart (FreeTm k n w) v apart (sym e)
    by false apart (inr l) = l
closed_removes (BoundTm j w) i v h = h
closed_removes (ConstTm n w) i v h = h
closed_removes (NumTm z) i v h = h
closed_removes (AppTm f x) i v h = ⊎_elim (λ l. closed_removes f i v l) (λ l. closed_removes x i v l) (in_append_either v (free_variables (close_free f i v)) (free_variables (close_free x i v)) h)
closed_removes (LamTm w b) i v h = closed_removes b (i + 1) v h

-- a free variable closed over is the Bound itself
closed_itself : (v : Term) (i : ℕ) → IsFreeVariable v → close_free v i v ≡ BoundTm i (ty_of v)
closed_itself (FreeTm k n w) i free = rw (term_eq_refl (FreeTm k n w)) refl
closed_itself (BoundTm j w) i free = absurd free
closed_itself (ConstTm n w) i free = absurd free
closed_itself (NumTm z) i free = absurd free
closed_itself (AppTm f x) i free = absurd free
closed_itself (LamTm w b) i free = absurd free

-- a new variable for a Bound, closed over again
pub opened_back : (t : Term) (i : ℕ) (v : Term) → IsFreeVariable v → NotFreeIn v t → BoundsFit t i (ty_of v) → close_free (subst_bound t i v) i v ≡ t
opened_back (FreeTm k n w) i v free absent h = closed_absent (FreeTm k n w) i v absent
opened_back (BoundTm j w) i v free absent h = by (eqb j i) refl
  where
    by : (b : Bool) → eqb j i ≡ b → close_free (cond b v (BoundTm j w)) i v ≡ BoundTm j w
    by true e = let same = eqb_sound j i e in closed_itself v i free ∙ ap₂ BoundTm (sym same) (sym (h same))
    by false e = refl
opened_back (ConstTm n w) i v free absent h = refl
opened_back (NumTm z) i v free absent h = refl
opened_back (AppTm f x) i v free absent h =
    ap₂ AppTm (opened_back f i v free (λ k. absent (in_append_left v (free_variables f) (free_variables x) k)) h.0) (opened_back x i v free (λ k. absent (in_append_right v (free_variables f) (free_variables x) k)) h.1)
opened_back (LamTm w b) i v free absent h = ap (LamTm w) (opened_back b (i + 1) v free absent h)
