-- The instance of a term: it is typed, and what is remembered of it stays right.
use Rattle.std.proofs.Common.{◌≡◌, ℕ, ◌+◌, List, [], ◌∷◌, Some, None, Bool as Truth, true, false, cond, refl, sym, ap, ap₂, ◌∙◌, subst, nat_eq, unwrap_or, option_map, arith}
use Rattle.std.specs.List.{AllByRecursion}
use Rattle.std.specs.Map.{lookup}
use Rattle.std.specs.HashMap.{get_by}
use Rattle.std.proofs.Math.Dec.{eqb}
use Rattle.std.proofs.lemmas.Option.{same_Some, none-some}
use Rattle.hol_types.specs.Ty.{Ty, FunTy}
use Rattle.hol_types.specs.TypeStore.{type_tree}
use Rattle.hol_types.proofs.TypeLemmas.{eqb_sound, eqb_complete}
use Rattle.hol_terms.specs.Term.{Term, FreeTm, BoundTm, ConstTm, NumTm, AppTm, LamTm, Typed, BoundsFit, ty_of, result_ty}
use Rattle.hol_terms.specs.TermEq.{term_eq}
use Rattle.hol_terms.specs.TermStore.{TermStore, HasTerm, Keeps, TermsApart, term_tree}
use Rattle.hol_terms.specs.Substitution.{LooseBelow}
use Rattle.hol_terms.specs.declared.node.FreeKind.{FreeKind}
use Rattle.hol_terms.specs.declared.node.FreeKind.TheVariants.{Open, Symbol, Lifted, Schematic}
use Rattle.hol_terms.proofs.TermEqLemmas.{term_eq_same, term_eq_fails}
use Rattle.hol_terms.proofs.MemoLemmas.{result_put}
use Rattle.hol_terms.proofs.SubstitutionLemmas.{loose_fits, loose_more}
use Rattle.hol_match.specs.Instance.{IsSchematic, Substitutable, IsInstantiation, instance_by}
use Rattle.hol_match.specs.Inst.{HasInst, inst_tree, term_for}
use Rattle.hol_match.specs.Matching.{Known}
use Rattle.hol_match.specs.Applying.{IsApplied, AllApplied}
use Rattle.hol_match.proofs.OccurLemmas.{instance_type}
use Rattle.hol_match.proofs.MatchLemmas.{schematic_itself, found_instantiates}

-- ---- types

-- loose Bounds of an instance are those of the pattern
instance_fits : (σ : Term → Term) → IsInstantiation σ → (p : Term) (i : ℕ) (ty : Ty) → BoundsFit p i ty → BoundsFit (instance_by σ p) i ty
instance_fits σ l (FreeTm Schematic n t) i ty h = let v = FreeTm Schematic n t in loose_fits (σ v) 0 i ty (l.each v refl).closed (omega arith)
instance_fits σ l (FreeTm Open n t) i ty h = h
instance_fits σ l (FreeTm Symbol n t) i ty h = h
instance_fits σ l (FreeTm Lifted n t) i ty h = h
instance_fits σ l (BoundTm j t) i ty h = h
instance_fits σ l (ConstTm n t) i ty h = h
instance_fits σ l (NumTm z) i ty h = h
instance_fits σ l (AppTm f x) i ty h = (instance_fits σ l f i ty h.0, instance_fits σ l x i ty h.1)
instance_fits σ l (LamTm t b) i ty h = instance_fits σ l b (i + 1) ty h

pub instance_loose : (σ : Term → Term) → IsInstantiation σ → (p : Term) (d : ℕ) → LooseBelow p d → LooseBelow (instance_by σ p) d
instance_loose σ l (FreeTm Schematic n t) d h = let v = FreeTm Schematic n t in loose_more (σ v) 0 d (l.each v refl).closed (omega arith)
instance_loose σ l (FreeTm Open n t) d h = h
instance_loose σ l (FreeTm Symbol n t) d h = h
instance_loose σ l (FreeTm Lifted n t) d h = h
instance_loose σ l (BoundTm j t) d h = h
instance_loose σ l (ConstTm n t) d h = h
instance_loose σ l (NumTm z) d h = h
instance_loose σ l (AppTm f x) d h = (instance_loose σ l f d h.0, instance_loose σ l x d h.1)
instance_loose σ l (LamTm t b) d h = instance_loose σ l b (d + 1) h

-- ---- a store that goes on

pub pairs_kept : {s w : TermStore} {qs : List (ℕ × ℕ)} → Keeps s w → HasInst s s qs → inst_tree w w qs ≡ inst_tree s s qs
pairs_kept {s} {w} {qs} k all = each qs all.there
  where
    each : (rs : List (ℕ × ℕ)) → AllByRecursion (λ q. HasTerm s q.0 × HasTerm s q.1) rs → inst_tree w w rs ≡ inst_tree s s rs
    each [] h = refl
    each (r ∷ rs) h = ap₂ (λ p ps. p ∷ ps) (λ i. (k.trees r.0 h.0.0 i, k.trees r.1 h.0.1 i)) (each rs h.1)

pub terms_kept : {s w : TermStore} {qs : List (ℕ × ℕ)} → Keeps s w → HasInst s s qs → HasInst w w qs
terms_kept {s} {w} {qs} k all = record { there = there qs all.there; stand = stand qs all.there all.stand }
  where
    there : (rs : List (ℕ × ℕ)) → AllByRecursion (λ q. HasTerm s q.0 × HasTerm s q.1) rs → AllByRecursion (λ q. HasTerm w q.0 × HasTerm w q.1) rs
    there [] h = tt
    there (r ∷ rs) h = ((k.terms r.0 h.0.0, k.terms r.1 h.0.1), there rs h.1)

    stand : (rs : List (ℕ × ℕ)) → AllByRecursion (λ q. HasTerm s q.0 × HasTerm s q.1) rs → AllByRecursion (λ q. Substitutable (term_tree s q.0) (term_tree s q.1)) rs
        → AllByRecursion (λ q. Substitutable (term_tree w q.0) (term_tree w q.1)) rs
    stand [] h a = tt
    stand (r ∷ rs) h a = (rw (k.trees r.0 h.0.0, k.trees r.1 h.0.1) a.0, stand rs h.1 a.1)

pub applied_kept : {s w : TermStore} {σ : Term → Term} {m : Known} → Keeps s w → AllApplied s σ m → AllApplied w σ m
applied_kept {s} {w} {σ} {m} k all = record {
  each = λ t r h.
      let is = all.each t r h in
      record {
        there = k.terms t is.there;
        made = k.terms r is.made;
        typed = subst (λ x. Typed x) (sym (k.trees r is.made)) is.typed;
        tree = k.trees r is.made ∙ is.tree ∙ ap (λ x. instance_by σ x) (sym (k.trees t is.there));
      };
}

pub applied_put : (s : TermStore) (σ : Term → Term) (m n : Known) (t r : ℕ) → AllApplied s σ m → ((q : ℕ) → get_by (nat_eq q) n ≡ cond (nat_eq t q) (Some r) (get_by (nat_eq q) m))
    → HasTerm s t → HasTerm s r → Typed (term_tree s r) → term_tree s r ≡ instance_by σ (term_tree s t) → AllApplied s σ n
applied_put s σ m n t r old puts there made typed tree = record { each = result_put nat_eq eqb_sound (IsApplied s σ) m n t r old.each puts (record { there = there; made = made; typed = typed; tree = tree }) }

pub nothing_applied : (s : TermStore) (σ : Term → Term) (m : Known) → m.entries ≡ [] → AllApplied s σ m
nothing_applied s σ m e = record { each = λ t r h. absurd (none-some r (ap (λ es. lookup (nat_eq t) es) (sym e) ∙ h)) }

-- ---- variables

-- a term is found by its tree as by its number
by_tree : (s : TermStore) → TermsApart s → (qs : List (ℕ × ℕ)) → AllByRecursion (λ q. HasTerm s q.0 × HasTerm s q.1) qs → (v : ℕ) → HasTerm s v
    → lookup (term_eq (term_tree s v)) (inst_tree s s qs) ≡ option_map (λ u. term_tree s u) (lookup (nat_eq v) qs)
by_tree s apart [] all v has_v = refl
by_tree s apart (q ∷ qs) all v has_v = by (eqb v q.0) refl (by_tree s apart qs all.1 v has_v)
  where
    by : (b : Truth) → eqb v q.0 ≡ b → lookup (term_eq (term_tree s v)) (inst_tree s s qs) ≡ option_map (λ u. term_tree s u) (lookup (nat_eq v) qs)
        → lookup (term_eq (term_tree s v)) (inst_tree s s (q ∷ qs)) ≡ option_map (λ u. term_tree s u) (lookup (nat_eq v) (q ∷ qs))
    by true e rest =
        ap (λ b. cond b (Some (term_tree s q.1)) (lookup (term_eq (term_tree s v)) (inst_tree s s qs))) (term_eq_same (term_tree s v) (term_tree s q.0) (ap (λ x. term_tree s x) (eqb_sound v q.0 e)))
        ∙ sym (ap (λ b. option_map (λ u. term_tree s u) (cond b (Some q.1) (lookup (nat_eq v) qs))) e)
    by false e rest =
        ap (λ b. cond b (Some (term_tree s q.1)) (lookup (term_eq (term_tree s v)) (inst_tree s s qs))) (term_eq_fails (term_tree s v) (term_tree s q.0) (λ f. eqb_complete v q.0 e (apart v q.0 has_v all.0.0 f)))
        ∙ rest
        ∙ sym (ap (λ b. option_map (λ u. term_tree s u) (cond b (Some q.1) (lookup (nat_eq v) qs))) e)

found_schematic : (s : TermStore) (qs : List (ℕ × ℕ)) → AllByRecursion (λ q. Substitutable (term_tree s q.0) (term_tree s q.1)) qs → (v u : ℕ) → lookup (nat_eq v) qs ≡ Some u → IsSchematic (term_tree s v)
found_schematic s [] all v u h = absurd (none-some u h)
found_schematic s (q ∷ qs) all v u h = by (eqb v q.0) refl h (λ k. found_schematic s qs all.1 v u k)
  where
    by : (b : Truth) → eqb v q.0 ≡ b → cond b (Some q.1) (lookup (eqb v) qs) ≡ Some u → (lookup (eqb v) qs ≡ Some u → IsSchematic (term_tree s v)) → IsSchematic (term_tree s v)
    by true e k rest = subst (λ x. IsSchematic (term_tree s x)) (sym (eqb_sound v q.0 e)) all.0.schematic
    by false e k rest = rest k

module _ (s : TermStore) (apart : TermsApart s) (qs : List (ℕ × ℕ)) (all : HasInst s s qs) (v : ℕ) (has_v : HasTerm s v) where
  -- a variable that has a term
  pub variable_given : (u : ℕ) → lookup (nat_eq v) qs ≡ Some u → term_tree s u ≡ instance_by (term_for (inst_tree s s qs)) (term_tree s v)
  variable_given u h =
      let σ = term_for (inst_tree s s qs) in
      sym (schematic_itself σ (term_tree s v) (found_schematic s qs all.stand v u h) ∙ ap (λ r. unwrap_or r (term_tree s v)) (by_tree s apart qs all.there v has_v ∙ ap (λ r. option_map (λ x. term_tree s x) r) h))

  -- a variable that has none
  pub variable_stays : (k : FreeKind) (n : List ℕ) (ty : Ty) → term_tree s v ≡ FreeTm k n ty → lookup (nat_eq v) qs ≡ None → term_tree s v ≡ instance_by (term_for (inst_tree s s qs)) (term_tree s v)
  variable_stays k n ty e h = e ∙ by k (sym e) ∙ ap (λ t. instance_by (term_for (inst_tree s s qs)) t) (sym e)
    where
      left : term_for (inst_tree s s qs) (term_tree s v) ≡ term_tree s v
      left = ap (λ r. unwrap_or r (term_tree s v)) (by_tree s apart qs all.there v has_v ∙ ap (λ r. option_map (λ x. term_tree s x) r) h)

      by : (l : FreeKind) → FreeTm l n ty ≡ term_tree s v → FreeTm l n ty ≡ instance_by (term_for (inst_tree s s qs)) (FreeTm l n ty)
      by Schematic f = subst (λ t. t ≡ term_for (inst_tree s s qs) t) (sym f) (sym left)
      by Open f = refl
      by Symbol f = refl
      by Lifted f = refl

pub there_given : (s : TermStore) (qs : List (ℕ × ℕ)) → HasInst s s qs → (v u : ℕ) → lookup (nat_eq v) qs ≡ Some u → HasTerm s u
there_given s qs all v u h = each qs all.there h
  where
    each : (rs : List (ℕ × ℕ)) → AllByRecursion (λ q. HasTerm s q.0 × HasTerm s q.1) rs → lookup (nat_eq v) rs ≡ Some u → HasTerm s u
    each [] a k = absurd (none-some u k)
    each (r ∷ rs) a k = by (eqb v r.0) k (λ e. each rs a.1 e)
      where
        by : (b : Truth) → cond b (Some r.1) (lookup (eqb v) rs) ≡ Some u → (lookup (eqb v) rs ≡ Some u → HasTerm s u) → HasTerm s u
        by true e rest = subst (λ x. HasTerm s x) (same_Some r.1 u e) a.0.1
        by false e rest = rest e

-- the terms of an instance, by numbers
pub inst_instantiates : (s : TermStore) (qs : List (ℕ × ℕ)) → HasInst s s qs → IsInstantiation (term_for (inst_tree s s qs))
inst_instantiates s qs all = found_instantiates s s qs all

-- an application of instances
module _ (s mid new : TermStore) (qs : List (ℕ × ℕ)) (all : HasInst s s qs) (k : Keeps s mid) (m : Keeps mid new) (t f x : ℕ) (typed : Typed (term_tree s t)) (e : term_tree s t ≡ AppTm (term_tree s f) (term_tree s x)) (has_x : HasTerm s x)
    (g y : ℕ) (there_g : HasTerm mid g) (is_g : term_tree mid g ≡ instance_by (term_for (inst_tree s s qs)) (term_tree s f)) (typed_g : Typed (term_tree mid g))
    (is_y : term_tree new y ≡ instance_by (term_for (inst_tree mid mid qs)) (term_tree mid x)) (typed_y : Typed (term_tree new y)) where
  abbrev σ : Term → Term
  σ = term_for (inst_tree s s qs)

  at_g : term_tree new g ≡ instance_by σ (term_tree s f)
  at_g = m.trees g there_g ∙ is_g

  at_y : term_tree new y ≡ instance_by σ (term_tree s x)
  at_y = is_y ∙ (λ i. instance_by (term_for (pairs_kept k all i)) (k.trees x has_x i))

  pub app_typed : Typed (AppTm (term_tree new g) (term_tree new y))
  app_typed =
      let l = inst_instantiates s qs all in
      let whole : Typed (AppTm (term_tree s f) (term_tree s x)) = subst (λ u. Typed u) e typed in
      let ty_g : ty_of (term_tree new g) ≡ ty_of (term_tree s f) = ap ty_of at_g ∙ instance_type σ l (term_tree s f) in
      let ty_y : ty_of (term_tree new y) ≡ ty_of (term_tree s x) = ap ty_of at_y ∙ instance_type σ l (term_tree s x) in
      (subst (λ u. Typed u) (sym (m.trees g there_g)) typed_g, typed_y, ty_g ∙ whole.2 ∙ ap₂ FunTy (sym ty_y) (ap result_ty (sym ty_g)))

  pub app_is : AppTm (term_tree new g) (term_tree new y) ≡ instance_by σ (term_tree s t)
  app_is = ap₂ AppTm at_g at_y ∙ sym (ap (λ u. instance_by σ u) e)

-- a lambda whose body is an instance
module _ (s new : TermStore) (qs : List (ℕ × ℕ)) (all : HasInst s s qs) (t ty b : ℕ) (typed : Typed (term_tree s t)) (e : term_tree s t ≡ LamTm (type_tree s.types ty) (term_tree s b)) (c : ℕ)
    (same : type_tree new.types ty ≡ type_tree s.types ty) (is_c : term_tree new c ≡ instance_by (term_for (inst_tree s s qs)) (term_tree s b)) (typed_c : Typed (term_tree new c)) where
  pub lam_typed : Typed (LamTm (type_tree new.types ty) (term_tree new c))
  lam_typed =
      let whole : Typed (LamTm (type_tree s.types ty) (term_tree s b)) = subst (λ u. Typed u) e typed in
      (typed_c, subst (λ u. BoundsFit (term_tree new c) 0 u) (sym same) (subst (λ u. BoundsFit u 0 (type_tree s.types ty)) (sym is_c) (instance_fits (term_for (inst_tree s s qs)) (inst_instantiates s qs all) (term_tree s b) 0 (type_tree s.types ty) whole.1)))

  pub lam_is : LamTm (type_tree new.types ty) (term_tree new c) ≡ instance_by (term_for (inst_tree s s qs)) (term_tree s t)
  lam_is = ap₂ LamTm same is_c ∙ sym (ap (λ u. instance_by (term_for (inst_tree s s qs)) u) e)
