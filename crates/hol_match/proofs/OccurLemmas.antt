-- Each type of a pattern occurs in its instances.
use Rattle.std.proofs.Common.{◌≡◌, refl, sym, ap, ◌∙◌, subst, inl, inr, ⊎_elim}
use Rattle.hol_types.specs.Ty.{Ty, FunTy}
use Rattle.hol_terms.specs.Term.{Term, FreeTm, BoundTm, ConstTm, NumTm, AppTm, LamTm, ty_of, result_ty}
use Rattle.hol_terms.specs.Formula.{In}
use Rattle.hol_terms.specs.declared.node.FreeKind.TheVariants.{Open, Symbol, Lifted, Schematic}
use Rattle.hol_terms.proofs.SetLemmas.{in_append_left, in_append_right, in_append_either}
use Rattle.hol_match.specs.Instance.{Instance, IsInstantiation, TypesOccur, instance_by, types_in}

-- an instance has its pattern's type
pub instance_type : (σ : Term → Term) → IsInstantiation σ → (p : Term) → ty_of (instance_by σ p) ≡ ty_of p
instance_type σ l (FreeTm Schematic n t) = (l.each (FreeTm Schematic n t) refl).type
instance_type σ l (FreeTm Open n t) = refl
instance_type σ l (FreeTm Symbol n t) = refl
instance_type σ l (FreeTm Lifted n t) = refl
instance_type σ l (BoundTm i t) = refl
instance_type σ l (ConstTm n t) = refl
instance_type σ l (NumTm z) = refl
instance_type σ l (AppTm f x) = ap result_ty (instance_type σ l f)
instance_type σ l (LamTm t b) = ap (FunTy t) (instance_type σ l b)

-- a term's type is among its types
its_type : (t : Term) → In (ty_of t) (types_in t)
its_type (FreeTm k n t) = inl refl
its_type (BoundTm i t) = inl refl
its_type (ConstTm n t) = inl refl
its_type (NumTm z) = inl refl
its_type (AppTm f x) = inl refl
its_type (LamTm t b) = inl refl

occurs : (σ : Term → Term) → IsInstantiation σ → (p : Term) (u : Ty) → In u (types_in p) → In u (types_in (instance_by σ p))
occurs σ l (FreeTm Schematic n t) u (inl e) = let v = FreeTm Schematic n t in rw (e ∙ sym (l.each v refl).type) (its_type (σ v))
occurs σ l (FreeTm Schematic n t) u (inr h) = absurd h
occurs σ l (FreeTm Open n t) u h = h
occurs σ l (FreeTm Symbol n t) u h = h
occurs σ l (FreeTm Lifted n t) u h = h
occurs σ l (BoundTm i t) u h = h
occurs σ l (ConstTm n t) u h = h
occurs σ l (NumTm z) u h = h
occurs σ l (AppTm f x) u (inl e) = inl (e ∙ ap result_ty (sym (instance_type σ l f)))
occurs σ l (AppTm f x) u (inr h) =
    let fs = types_in (instance_by σ f) in
    let xs = types_in (instance_by σ x) in
    inr (⊎_elim (λ k. in_append_left u fs xs (occurs σ l f u k)) (λ k. in_append_right u fs xs (occurs σ l x u k)) (in_append_either u (types_in f) (types_in x) h))
occurs σ l (LamTm t b) u (inl e) = inl (e ∙ ap (FunTy t) (sym (instance_type σ l b)))
occurs σ l (LamTm t b) u (inr h) = inr (occurs σ l b u h)

pub types_occur : (σ : Term → Term) → IsInstantiation σ → (p t : Term) → instance_by σ p ≡ t → TypesOccur p t
types_occur σ l p t e = record { each = λ u h. subst (λ x. In u (types_in x)) e (occurs σ l p u h) }

-- the types of a pattern occur in its instances
pub instance_types : (p t : Term) → Instance p t → TypesOccur p t
instance_types p t i = types_occur i.terms i.lawful p t i.is
