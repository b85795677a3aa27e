-- A substitution of types leaves a term as it is exactly where it changes none of its type variables.
use Rattle.std.proofs.Common.{◌≡◌, ℕ, List, [], ◌∷◌, ◌++◌, refl, ap, ap₂, inl, inr, ⊎_elim}
use Rattle.hol_types.specs.Ty.{Ty, Tys, BoolTy, IntTy, VarTy, FunTy, ConsTy, no_types, more_types}
use Rattle.hol_types.specs.TypeSubst.{TypeSubst, type_for, instance_of, instances_of, variables_of, variables_of_all}
use Rattle.hol_terms.specs.Term.{Term, FreeTm, BoundTm, ConstTm, NumTm, AppTm, LamTm}
use Rattle.hol_terms.specs.declared.node.FreeKind.{FreeKind}
use Rattle.hol_terms.specs.Substitution.{subst_types, type_variables}
use Rattle.hol_terms.specs.Formula.{In, ChangesNone}
use Rattle.hol_terms.proofs.SetLemmas.{in_append_left, in_append_right, in_append_either}

-- each of the variables stands for itself
abbrev Keeps : TypeSubst → List (List ℕ) → Type 0
Keeps s names = (n : List ℕ) → In n names → type_for s n ≡ VarTy n

keeps_left : (s : TypeSubst) (ns ms : List (List ℕ)) → Keeps s (ns ++ ms) → Keeps s ns
keeps_left s ns ms h n k = h n (in_append_left n ns ms k)

keeps_right : (s : TypeSubst) (ns ms : List (List ℕ)) → Keeps s (ns ++ ms) → Keeps s ms
keeps_right s ns ms h n k = h n (in_append_right n ns ms k)

keeps_both : (s : TypeSubst) (ns ms : List (List ℕ)) → Keeps s ns → Keeps s ms → Keeps s (ns ++ ms)
keeps_both s ns ms h k n l = ⊎_elim (λ a. h n a) (λ a. k n a) (in_append_either n ns ms l)

-- ---- types

mutual
  pub type_unchanged : (s : TypeSubst) (t : Ty) → Keeps s (variables_of t) → instance_of s t ≡ t
  type_unchanged s BoolTy h = refl
  type_unchanged s IntTy h = refl
  type_unchanged s (VarTy n) h = h n (inl refl)
  type_unchanged s (FunTy a b) h =
      ap₂ FunTy (type_unchanged s a (keeps_left s (variables_of a) (variables_of b) h)) (type_unchanged s b (keeps_right s (variables_of a) (variables_of b) h))
  type_unchanged s (ConsTy n ts) h = ap (ConsTy n) (types_unchanged s ts h)

  types_unchanged : (s : TypeSubst) (ts : Tys) → Keeps s (variables_of_all ts) → instances_of s ts ≡ ts
  types_unchanged s no_types h = refl
  types_unchanged s (more_types t ts) h =
      ap₂ more_types (type_unchanged s t (keeps_left s (variables_of t) (variables_of_all ts) h)) (types_unchanged s ts (keeps_right s (variables_of t) (variables_of_all ts) h))

-- the parts of equal types are equal
fun_parts : {a b c d : Ty} → FunTy a b ≡ FunTy c d → (a ≡ c) × (b ≡ d)
fun_parts e = (cc, cc)

cons_part : {n : List ℕ} {ts us : Tys} → ConsTy n ts ≡ ConsTy n us → ts ≡ us
cons_part e = cc

more_parts : {t u : Ty} {ts us : Tys} → more_types t ts ≡ more_types u us → (t ≡ u) × (ts ≡ us)
more_parts e = (cc, cc)

mutual
  pub type_keeps : (s : TypeSubst) (t : Ty) → instance_of s t ≡ t → Keeps s (variables_of t)
  type_keeps s BoolTy e n h = absurd h
  type_keeps s IntTy e n h = absurd h
  type_keeps s (VarTy m) e n (inl same) = rw same e
  type_keeps s (VarTy m) e n (inr h) = absurd h
  type_keeps s (FunTy a b) e n h =
      let p = fun_parts e in keeps_both s (variables_of a) (variables_of b) (type_keeps s a p.0) (type_keeps s b p.1) n h
  type_keeps s (ConsTy m ts) e n h = types_keep s ts (cons_part e) n h

  types_keep : (s : TypeSubst) (ts : Tys) → instances_of s ts ≡ ts → Keeps s (variables_of_all ts)
  types_keep s no_types e n h = absurd h
  types_keep s (more_types t ts) e n h =
      let p = more_parts e in keeps_both s (variables_of t) (variables_of_all ts) (type_keeps s t p.0) (types_keep s ts p.1) n h

-- ---- terms

pub term_unchanged : (s : TypeSubst) (t : Term) → Keeps s (type_variables t) → subst_types s t ≡ t
term_unchanged s (FreeTm k n t) h = ap (FreeTm k n) (type_unchanged s t h)
term_unchanged s (BoundTm i t) h = ap (BoundTm i) (type_unchanged s t h)
term_unchanged s (ConstTm n t) h = ap (ConstTm n) (type_unchanged s t h)
term_unchanged s (NumTm z) h = refl
term_unchanged s (AppTm f x) h =
    ap₂ AppTm (term_unchanged s f (keeps_left s (type_variables f) (type_variables x) h)) (term_unchanged s x (keeps_right s (type_variables f) (type_variables x) h))
term_unchanged s (LamTm t b) h =
    ap₂ LamTm (type_unchanged s t (keeps_left s (variables_of t) (type_variables b) h)) (term_unchanged s b (keeps_right s (variables_of t) (type_variables b) h))

free_part : {k : FreeKind} {n : List ℕ} {t u : Ty} → FreeTm k n t ≡ FreeTm k n u → t ≡ u
free_part e = cc

bound_part : {i : ℕ} {t u : Ty} → BoundTm i t ≡ BoundTm i u → t ≡ u
bound_part e = cc

const_part : {n : List ℕ} {t u : Ty} → ConstTm n t ≡ ConstTm n u → t ≡ u
const_part e = cc

app_parts : {f g x y : Term} → AppTm f x ≡ AppTm g y → (f ≡ g) × (x ≡ y)
app_parts e = (cc, cc)

lam_parts : {t u : Ty} {b c : Term} → LamTm t b ≡ LamTm u c → (t ≡ u) × (b ≡ c)
lam_parts e = (cc, cc)

pub term_keeps : (s : TypeSubst) (t : Term) → subst_types s t ≡ t → Keeps s (type_variables t)
term_keeps s (FreeTm k m t) e n h = type_keeps s t (free_part e) n h
term_keeps s (BoundTm i t) e n h = type_keeps s t (bound_part e) n h
term_keeps s (ConstTm m t) e n h = type_keeps s t (const_part e) n h
term_keeps s (NumTm z) e n h = absurd h
term_keeps s (AppTm f x) e n h =
    let p = app_parts e in keeps_both s (type_variables f) (type_variables x) (term_keeps s f p.0) (term_keeps s x p.1) n h
term_keeps s (LamTm t b) e n h =
    let p = lam_parts e in keeps_both s (variables_of t) (type_variables b) (type_keeps s t p.0) (term_keeps s b p.1) n h

-- ---- formulas of a list

pub each_unchanged : (s : TypeSubst) (G : List Term) → ChangesNone s G → (g : Term) → In g G → subst_types s g ≡ g
each_unchanged s [] h g there = absurd there
each_unchanged s (u ∷ G) h g (inl e) = rw e (term_unchanged s u h.0)
each_unchanged s (u ∷ G) h g (inr there) = each_unchanged s G h.1 g there

pub changes_none : (s : TypeSubst) (G : List Term) → ((g : Term) → In g G → subst_types s g ≡ g) → ChangesNone s G
changes_none s [] h = tt
changes_none s (u ∷ G) h = (term_keeps s u (h u (inl refl)), changes_none s G (λ g there. h g (inr there)))
