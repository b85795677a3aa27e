-- Matching: which terms for variables agree with what was found.
use Rattle.std.proofs.Common.{◌≡◌, ℕ, ℤ, ◌⊎◌, ◌↔◌, List, [], ◌∷◌, ◌++◌, Some, None, Bool as Truth, true, false, cond, refl, sym, ap, ap₂, ◌∙◌, subst, inl, inr, ⊎_elim, nat_eq, true≢false, unwrap_or}
use Rattle.std.specs.Prelude.{IsTrue, fold, ◌||◌}
use Rattle.std.specs.List.{AllByRecursion, list_any}
use Rattle.std.specs.Map.{lookup}
use Rattle.std.specs.HashMap.{get_by}
use Rattle.std.proofs.Math.Dec.{eqb}
use Rattle.std.proofs.lemmas.Option.{same_Some, none-some}
use Rattle.std.proofs.lemmas.List.{map-append}
use Rattle.std.proofs.lemmas.List.Sums.{fold-append}
use Rattle.hol_types.proofs.TypeLemmas.{eqb_sound, eqb_complete}
use Rattle.hol_types.specs.Ty.{Ty}
use Rattle.hol_terms.specs.Term.{Term, FreeTm, BoundTm, ConstTm, NumTm, AppTm, LamTm, ty_of}
use Rattle.hol_terms.specs.TermEq.{term_eq}
use Rattle.hol_terms.specs.TermStore.{TermStore, HasTerm, TermsApart, term_tree}
use Rattle.hol_terms.specs.Formula.{In}
use Rattle.hol_terms.specs.Substitution.{IsClosed}
use Rattle.hol_terms.specs.declared.node.FreeKind.{FreeKind}
use Rattle.hol_terms.specs.declared.node.FreeKind.TheVariants.{Open, Symbol, Lifted, Schematic}
use Rattle.hol_terms.proofs.TermEqLemmas.{term_eq_refl, term_eq_sound, term_eq_same, term_eq_fails}
use Rattle.hol_terms.proofs.MemoLemmas.{result_put}
use Rattle.hol_terms.proofs.SetLemmas.{in_append_left, in_append_right, in_append_either}
use Rattle.hol_match.specs.Instance.{IsSchematic, Substitutable, IsInstantiation, Instance, TypesOccur, EachOnce, instance_by, schematic_variables, with_new, variables_once}
use Rattle.hol_match.specs.Inst.{HasInst, Pairs, inst_tree, inst_variables, term_for}
use Rattle.hol_match.specs.Matching.{Agrees, Matched, NoMatch, IsMatch, matched, refused, Known, IsPart, AllParts}
use Rattle.hol_match.proofs.OccurLemmas.{types_occur}

-- ---- leaves

-- a pattern without variables is only itself
pub leaf_match : (p t : Term) (old : Pairs) (r : Truth) → ((σ : Term → Term) → instance_by σ p ≡ p) → schematic_variables p ≡ [] → (IsTrue r ↔ (p ≡ t)) → IsMatch p t old old r
leaf_match p t old true fixed none same =
    matched (record { to = λ σ l a e. a; back = λ σ l a. a; is = λ σ l a. fixed σ ∙ same.0 refl; variables = sym (ap (λ vs. fold with_new (inst_variables old) vs) none) })
leaf_match p t old false fixed none same = refused (record { never = λ σ l a e. true≢false (sym (same.1 (sym (fixed σ) ∙ e))) })

pub free_match : (k : FreeKind) (n : List ℕ) (ty : Ty) → (k ≡ Schematic → ⊥) → (p t : Term) → p ≡ FreeTm k n ty → (old : Pairs) (r : Truth) → (IsTrue r ↔ (FreeTm k n ty ≡ t)) → IsMatch p t old old r
free_match Schematic n ty other p t e old r same = absurd (other refl)
free_match Open n ty other p t e old r same = rw e (leaf_match (FreeTm Open n ty) t old r (λ σ. refl) refl same)
free_match Symbol n ty other p t e old r same = rw e (leaf_match (FreeTm Symbol n ty) t old r (λ σ. refl) refl same)
free_match Lifted n ty other p t e old r same = rw e (leaf_match (FreeTm Lifted n ty) t old r (λ σ. refl) refl same)

pub bound_match : (i : ℕ) (ty : Ty) (p t : Term) → p ≡ BoundTm i ty → (old : Pairs) (r : Truth) → (IsTrue r ↔ (BoundTm i ty ≡ t)) → IsMatch p t old old r
bound_match i ty p t e old r same = rw e (leaf_match (BoundTm i ty) t old r (λ σ. refl) refl same)

pub constant_match : (n : List ℕ) (ty : Ty) (p t : Term) → p ≡ ConstTm n ty → (old : Pairs) (r : Truth) → (IsTrue r ↔ (ConstTm n ty ≡ t)) → IsMatch p t old old r
constant_match n ty p t e old r same = rw e (leaf_match (ConstTm n ty) t old r (λ σ. refl) refl same)

pub number_match : (z : ℤ) (p t : Term) → p ≡ NumTm z → (old : Pairs) (r : Truth) → (IsTrue r ↔ (NumTm z ≡ t)) → IsMatch p t old old r
number_match z p t e old r same = rw e (leaf_match (NumTm z) t old r (λ σ. refl) refl same)

-- ---- variables of pairs

any_in : (v : Term) (vs : List Term) → list_any (term_eq v) vs ≡ true → In v vs
any_in v [] h = absurd (true≢false (sym h))
any_in v (x ∷ vs) h = by (term_eq v x) refl (λ r. any_in v vs r)
  where
    by : (b : Truth) → term_eq v x ≡ b → (list_any (term_eq v) vs ≡ true → In v vs) → In v (x ∷ vs)
    by true e r = inl (term_eq_sound v x e)
    by false e r = inr (r (sym (ap (λ b. b || list_any (term_eq v) vs) e) ∙ h))

in_any : (v : Term) (vs : List Term) → In v vs → list_any (term_eq v) vs ≡ true
in_any v [] h = absurd h
in_any v (x ∷ vs) (inl e) = rw (term_eq_same v x e) refl
in_any v (x ∷ vs) (inr h) = by (term_eq v x) (in_any v vs h)
  where
    by : (b : Truth) → list_any (term_eq v) vs ≡ true → (b || list_any (term_eq v) vs) ≡ true
    by true r = refl
    by false r = r

-- what is there stays
kept_one : (v w : Term) (vs : List Term) → In v vs → In v (with_new vs w)
kept_one v w vs h = by (list_any (term_eq w) vs)
  where
    by : (b : Truth) → In v (cond b vs (vs ++ w ∷ []))
    by true = h
    by false = in_append_left v vs (w ∷ []) h

kept_all : (v : Term) (ws vs : List Term) → In v vs → In v (fold with_new vs ws)
kept_all v [] vs h = h
kept_all v (w ∷ ws) vs h = kept_all v ws (with_new vs w) (kept_one v w vs h)

-- what is put in is there
put_one : (w : Term) (vs : List Term) → In w (with_new vs w)
put_one w vs = by (list_any (term_eq w) vs) refl
  where
    by : (b : Truth) → list_any (term_eq w) vs ≡ b → In w (cond b vs (vs ++ w ∷ []))
    by true e = any_in w vs e
    by false e = in_append_right w vs (w ∷ []) (inl refl)

put_all : (v : Term) (ws vs : List Term) → In v ws → In v (fold with_new vs ws)
put_all v [] vs h = absurd h
put_all v (w ∷ ws) vs (inl e) = kept_all v ws (with_new vs w) (rw e (put_one w vs))
put_all v (w ∷ ws) vs (inr h) = put_all v ws (with_new vs w) h

-- what is there adds nothing
skip_all : (vs ws : List Term) → ((v : Term) → In v ws → In v vs) → fold with_new vs ws ≡ vs
skip_all vs [] h = refl
skip_all vs (w ∷ ws) h = ap (λ l. fold with_new l ws) (ap (λ b. cond b vs (vs ++ w ∷ [])) (in_any w vs (h w (inl refl)))) ∙ skip_all vs ws (λ v i. h v (inr i))

-- ---- parts that are known

-- pairs that go on keep what is known
pub parts_kept : {p s : TermStore} {a t : Term} {old new : Pairs} {m : Known} → Matched a t old new → AllParts p s old m → AllParts p s new m
parts_kept {p} {s} {a} {t} {old} {new} {m} here all = record {
  each = λ b u h.
      let k = all.each b u h in
      record {
        pattern = k.pattern;
        term = k.term;
        is = λ σ l g. k.is σ l (here.back σ l g);
        given = λ v i. rw here.variables (kept_all v (schematic_variables a) (inst_variables old) (k.given v i));
      };
}

pub parts_here : {p s : TermStore} {a t : Term} {old new : Pairs} {m : Known} {r : Truth} → r ≡ true → IsMatch a t old new r → AllParts p s old m → AllParts p s new m
parts_here {p} {s} {a} {t} {old} {new} {m} {r} e i all = by r e i
  where
    by : (b : Truth) → b ≡ true → IsMatch a t old new b → AllParts p s new m
    by _ e (matched k) = parts_kept k all
    by _ e (refused k) = absurd (true≢false (sym e))

pub part_put : (p s : TermStore) (qs : Pairs) (m n : Known) (a t : ℕ) → AllParts p s qs m → ((q : ℕ) → get_by (nat_eq q) n ≡ cond (nat_eq a q) (Some t) (get_by (nat_eq q) m)) → IsPart p s qs a t → AllParts p s qs n
part_put p s qs m n a t old puts here = record { each = result_put nat_eq eqb_sound (λ b u. IsPart p s qs b u) m n a t old.each puts here }

-- what was matched is known
pub part_of : (p s : TermStore) (old new : Pairs) (a t : ℕ) → HasTerm p a → HasTerm s t → Matched (term_tree p a) (term_tree s t) old new → IsPart p s new a t
part_of p s old new a t has_a has_t k =
    record { pattern = has_a; term = has_t; is = k.is; given = λ v i. rw k.variables (put_all v (schematic_variables (term_tree p a)) (inst_variables old) i) }

-- a part that is known is that term and no other
pub known_match : (p s : TermStore) → TermsApart s → (qs : Pairs) (a u t : ℕ) → IsPart p s qs a u → HasTerm s t → (r : Truth) → r ≡ eqb u t → IsMatch (term_tree p a) (term_tree s t) qs qs r
known_match p s apart qs a u t k has_t true e =
    matched (record { to = λ σ l g f. g; back = λ σ l g. g; is = λ σ l g. k.is σ l g ∙ ap (λ x. term_tree s x) (eqb_sound u t (sym e)); variables = sym (skip_all (inst_variables qs) (schematic_variables (term_tree p a)) k.given) })
known_match p s apart qs a u t k has_t false e = refused (record { never = λ σ l g f. eqb_complete u t (sym e) (apart u t k.term has_t (sym (k.is σ l g) ∙ f)) })

-- ---- applications and lambdas

module _ (f x g y : Term) (old mid new : Pairs) where
  both_matched : Matched f g old mid → Matched x y mid new → Matched (AppTm f x) (AppTm g y) old new
  both_matched k m = record {
    to = λ σ l a e. let e_f : instance_by σ f ≡ g = cc in let e_x : instance_by σ x ≡ y = cc in m.to σ l (k.to σ l a e_f) e_x;
    back = λ σ l a. k.back σ l (m.back σ l a);
    is = λ σ l a. ap₂ AppTm (k.is σ l (m.back σ l a)) (m.is σ l a);
    variables =
        m.variables
        ∙ ap (λ vs. fold with_new vs (schematic_variables x)) k.variables
        ∙ sym (fold-append with_new (inst_variables old) (schematic_variables f) (schematic_variables x));
  }

  left_differs : NoMatch f g old → NoMatch (AppTm f x) (AppTm g y) old
  left_differs k = record { never = λ σ l a e. let e_f : instance_by σ f ≡ g = cc in k.never σ l a e_f }

  right_differs : Matched f g old mid → NoMatch x y mid → NoMatch (AppTm f x) (AppTm g y) old
  right_differs k m = record { never = λ σ l a e. let e_f : instance_by σ f ≡ g = cc in let e_x : instance_by σ x ≡ y = cc in m.never σ l (k.to σ l a e_f) e_x }

body_matched : (ty : Ty) (b c : Term) (old new : Pairs) → Matched b c old new → Matched (LamTm ty b) (LamTm ty c) old new
body_matched ty b c old new k =
    record { to = λ σ l a e. let e_b : instance_by σ b ≡ c = cc in k.to σ l a e_b; back = k.back; is = λ σ l a. ap (LamTm ty) (k.is σ l a); variables = k.variables }

body_differs : (ty : Ty) (b c : Term) (old : Pairs) → NoMatch b c old → NoMatch (LamTm ty b) (LamTm ty c) old
body_differs ty b c old k = record { never = λ σ l a e. let e_b : instance_by σ b ≡ c = cc in k.never σ l a e_b }

pub matched_when : {p t : Term} {old new : Pairs} {r : Truth} → r ≡ true → IsMatch p t old new r → Matched p t old new
matched_when {p} {t} {old} {new} {r} e i = by r e i
  where
    by : (b : Truth) → b ≡ true → IsMatch p t old new b → Matched p t old new
    by _ e (matched k) = k
    by _ e (refused k) = absurd (true≢false (sym e))

pub refused_when : {p t : Term} {old new : Pairs} {r : Truth} → r ≡ false → IsMatch p t old new r → NoMatch p t old
refused_when {p} {t} {old} {new} {r} e i = by r e i
  where
    by : (b : Truth) → b ≡ false → IsMatch p t old new b → NoMatch p t old
    by _ e (matched k) = absurd (true≢false e)
    by _ e (refused k) = k

module _ (p t f x g y : Term) (is_p : p ≡ AppTm f x) (is_t : t ≡ AppTm g y) where
  pub app_matched : (old mid new : Pairs) → Matched f g old mid → Matched x y mid new → Matched p t old new
  app_matched old mid new k m = subst (λ a. Matched a t old new) (sym is_p) (subst (λ u. Matched (AppTm f x) u old new) (sym is_t) (both_matched f x g y old mid new k m))

  pub app_left : (old new : Pairs) → NoMatch f g old → IsMatch p t old new false
  app_left old new k = refused (subst (λ a. NoMatch a t old) (sym is_p) (subst (λ u. NoMatch (AppTm f x) u old) (sym is_t) (left_differs f x g y old old new k)))

  pub app_right : (old mid new : Pairs) → Matched f g old mid → NoMatch x y mid → IsMatch p t old new false
  app_right old mid new k m = refused (subst (λ a. NoMatch a t old) (sym is_p) (subst (λ u. NoMatch (AppTm f x) u old) (sym is_t) (right_differs f x g y old mid new k m)))

pub app_apart : (p t f x : Term) → p ≡ AppTm f x → ((g y : Term) → t ≡ AppTm g y → ⊥) → (old new : Pairs) → IsMatch p t old new false
app_apart p t f x e apart old new = refused (record { never = λ σ l a h. apart (instance_by σ f) (instance_by σ x) (sym h ∙ ap (λ q. instance_by σ q) e) })

module _ (p t : Term) (ty : Ty) (b : Term) (is_p : p ≡ LamTm ty b) where
  pub lam_matched : (u : Ty) (c : Term) → t ≡ LamTm u c → ty ≡ u → (old new : Pairs) → Matched b c old new → Matched p t old new
  lam_matched u c is_t same old new k =
      subst (λ a. Matched a t old new) (sym is_p) (subst (λ x. Matched (LamTm ty b) x old new) (sym (is_t ∙ ap (λ z. LamTm z c) (sym same))) (body_matched ty b c old new k))

  pub lam_body : (u : Ty) (c : Term) → t ≡ LamTm u c → ty ≡ u → (old new : Pairs) → NoMatch b c old → IsMatch p t old new false
  lam_body u c is_t same old new k =
      refused (subst (λ a. NoMatch a t old) (sym is_p) (subst (λ x. NoMatch (LamTm ty b) x old) (sym (is_t ∙ ap (λ z. LamTm z c) (sym same))) (body_differs ty b c old k)))

  pub lam_type : (u : Ty) (c : Term) → t ≡ LamTm u c → (ty ≡ u → ⊥) → (old new : Pairs) → IsMatch p t old new false
  lam_type u c is_t other old new = refused (record { never = λ σ l a h. let e : LamTm ty (instance_by σ b) ≡ LamTm u c = sym (ap (λ q. instance_by σ q) is_p) ∙ h ∙ is_t in other cc })

  pub lam_apart : ((u : Ty) (c : Term) → t ≡ LamTm u c → ⊥) → (old new : Pairs) → IsMatch p t old new false
  lam_apart apart old new = refused (record { never = λ σ l a h. apart ty (instance_by σ b) (sym h ∙ ap (λ q. instance_by σ q) is_p) })

pub answer_when : {p t : Term} {old new : Pairs} → Matched p t old new → IsMatch p t old new true
answer_when k = matched k

-- ---- variables

pub schematic_itself : (σ : Term → Term) (v : Term) → IsSchematic v → instance_by σ v ≡ σ v
schematic_itself σ (FreeTm k n t) h = rw h refl
schematic_itself σ (BoundTm i t) h = absurd h
schematic_itself σ (ConstTm n t) h = absurd h
schematic_itself σ (NumTm z) h = absurd h
schematic_itself σ (AppTm f x) h = absurd h
schematic_itself σ (LamTm t b) h = absurd h

schematic_alone : (v : Term) → IsSchematic v → schematic_variables v ≡ v ∷ []
schematic_alone (FreeTm k n t) h = rw h refl
schematic_alone (BoundTm i t) h = absurd h
schematic_alone (ConstTm n t) h = absurd h
schematic_alone (NumTm z) h = absurd h
schematic_alone (AppTm f x) h = absurd h
schematic_alone (LamTm t b) h = absurd h

agrees_at : (p s : TermStore) (σ : Term → Term) (qs : List (ℕ × ℕ)) (v u : ℕ) → lookup (nat_eq v) qs ≡ Some u → Agrees σ (inst_tree p s qs) → σ (term_tree p v) ≡ term_tree s u
agrees_at p s σ [] v u h a = absurd (none-some u h)
agrees_at p s σ (q ∷ qs) v u h a = by (eqb v q.0) refl h (λ k. agrees_at p s σ qs v u k a.1)
  where
    by : (b : Truth) → eqb v q.0 ≡ b → cond b (Some q.1) (lookup (eqb v) qs) ≡ Some u → (lookup (eqb v) qs ≡ Some u → σ (term_tree p v) ≡ term_tree s u) → σ (term_tree p v) ≡ term_tree s u
    by true e k rest = ap (λ x. σ (term_tree p x)) (eqb_sound v q.0 e) ∙ a.0 ∙ ap (λ x. term_tree s x) (same_Some q.1 u k)
    by false e k rest = rest k

given_in : (p s : TermStore) (qs : List (ℕ × ℕ)) (v u : ℕ) → lookup (nat_eq v) qs ≡ Some u → In (term_tree p v) (inst_variables (inst_tree p s qs))
given_in p s [] v u h = absurd (none-some u h)
given_in p s (q ∷ qs) v u h = by (eqb v q.0) refl h (λ k. given_in p s qs v u k)
  where
    by : (b : Truth) → eqb v q.0 ≡ b → cond b (Some q.1) (lookup (eqb v) qs) ≡ Some u → (lookup (eqb v) qs ≡ Some u → In (term_tree p v) (inst_variables (inst_tree p s qs))) → In (term_tree p v) (inst_variables (inst_tree p s (q ∷ qs)))
    by true e k rest = inl (ap (λ x. term_tree p x) (eqb_sound v q.0 e))
    by false e k rest = inr (rest k)

there_at : (p s : TermStore) (qs : List (ℕ × ℕ)) (v u : ℕ) → lookup (nat_eq v) qs ≡ Some u → AllByRecursion (λ q. HasTerm p q.0 × HasTerm s q.1) qs → HasTerm s u
there_at p s [] v u h a = absurd (none-some u h)
there_at p s (q ∷ qs) v u h a = by (eqb v q.0) h (λ k. there_at p s qs v u k a.1)
  where
    by : (b : Truth) → cond b (Some q.1) (lookup (eqb v) qs) ≡ Some u → (lookup (eqb v) qs ≡ Some u → HasTerm s u) → HasTerm s u
    by true k rest = subst (λ x. HasTerm s x) (same_Some q.1 u k) a.0.1
    by false k rest = rest k

-- a variable that has a term
pub variable_known : (p s : TermStore) → (qs : List (ℕ × ℕ)) → HasInst p s qs → (v u : ℕ) → HasTerm p v → IsSchematic (term_tree p v) → lookup (nat_eq v) qs ≡ Some u → IsPart p s (inst_tree p s qs) v u
variable_known p s qs all v u has_v is h = record {
  pattern = has_v;
  term = there_at p s qs v u h all.there;
  is = λ σ l a. schematic_itself σ (term_tree p v) is ∙ agrees_at p s σ qs v u h a;
  given = λ w i. only w (subst (λ vs. In w vs) (schematic_alone (term_tree p v) is) i);
}
  where
    only : (w : Term) → In w (term_tree p v ∷ []) → In w (inst_variables (inst_tree p s qs))
    only w (inl e) = subst (λ x. In x (inst_variables (inst_tree p s qs))) (sym e) (given_in p s qs v u h)
    only w (inr k) = absurd k

agrees_push : (σ : Term → Term) (qs : Pairs) (v t : Term) → Agrees σ qs → σ v ≡ t → Agrees σ (qs ++ (v, t) ∷ [])
agrees_push σ [] v t a e = (e, tt)
agrees_push σ (q ∷ qs) v t a e = (a.0, agrees_push σ qs v t a.1 e)

agrees_before : (σ : Term → Term) (qs : Pairs) (v t : Term) → Agrees σ (qs ++ (v, t) ∷ []) → Agrees σ qs
agrees_before σ [] v t a = tt
agrees_before σ (q ∷ qs) v t a = (a.0, agrees_before σ qs v t a.1)

agrees_last : (σ : Term → Term) (qs : Pairs) (v t : Term) → Agrees σ (qs ++ (v, t) ∷ []) → σ v ≡ t
agrees_last σ [] v t a = a.0
agrees_last σ (q ∷ qs) v t a = agrees_last σ qs v t a.1

absent_any : (p s : TermStore) → TermsApart p → (qs : List (ℕ × ℕ)) → AllByRecursion (λ q. HasTerm p q.0 × HasTerm s q.1) qs → (v : ℕ) → HasTerm p v → lookup (nat_eq v) qs ≡ None → list_any (term_eq (term_tree p v)) (inst_variables (inst_tree p s qs)) ≡ false
absent_any p s apart [] all v has_v h = refl
absent_any p s apart (q ∷ qs) all v has_v h = by (eqb v q.0) refl h (λ k. absent_any p s apart qs all.1 v has_v k)
  where
    by : (b : Truth) → eqb v q.0 ≡ b → cond b (Some q.1) (lookup (eqb v) qs) ≡ None → (lookup (eqb v) qs ≡ None → list_any (term_eq (term_tree p v)) (inst_variables (inst_tree p s qs)) ≡ false)
        → list_any (term_eq (term_tree p v)) (inst_variables (inst_tree p s (q ∷ qs))) ≡ false
    by true e k rest = absurd (none-some q.1 (sym k))
    by false e k rest = rw (term_eq_fails (term_tree p v) (term_tree p q.0) (λ same. eqb_complete v q.0 e (apart v q.0 has_v all.0.0 same))) (rest k)

pairs_push : (p s : TermStore) (qs : List (ℕ × ℕ)) (v t : ℕ) → inst_tree p s (qs ++ (v, t) ∷ []) ≡ inst_tree p s qs ++ (term_tree p v, term_tree s t) ∷ []
pairs_push p s qs v t = map-append (λ q. (term_tree p q.0, term_tree s q.1)) qs ((v, t) ∷ [])

-- a variable takes a term
pub variable_taken : (p s : TermStore) → TermsApart p → (qs : List (ℕ × ℕ)) → HasInst p s qs → (v t : ℕ) → HasTerm p v → IsSchematic (term_tree p v) → lookup (nat_eq v) qs ≡ None → (new : List (ℕ × ℕ)) → new ≡ qs ++ (v, t) ∷ []
    → Matched (term_tree p v) (term_tree s t) (inst_tree p s qs) (inst_tree p s new)
variable_taken p s apart qs all v t has_v is h new e =
    subst (λ m. Matched x u old m) (sym (ap (λ m. inst_tree p s m) e ∙ pairs_push p s qs v t)) (record {
      to = λ σ l a f. agrees_push σ old x u a (sym (schematic_itself σ x is) ∙ f);
      back = λ σ l a. agrees_before σ old x u a;
      is = λ σ l a. schematic_itself σ x is ∙ agrees_last σ old x u a;
      variables =
          map-append (λ q. q.0) old ((x, u) ∷ [])
          ∙ sym (ap (λ b. cond b (inst_variables old) (inst_variables old ++ x ∷ [])) (absent_any p s apart qs all.there v has_v h))
          ∙ sym (ap (λ vs. fold with_new (inst_variables old) vs) (schematic_alone x is));
    })
  where
    x : Term
    x = term_tree p v

    u : Term
    u = term_tree s t

    old : Pairs
    old = inst_tree p s qs

pub terms_pushed : (p s : TermStore) (qs : List (ℕ × ℕ)) → HasInst p s qs → (v t : ℕ) → HasTerm p v → HasTerm s t → IsSchematic (term_tree p v) → ty_of (term_tree s t) ≡ ty_of (term_tree p v) → IsClosed (term_tree s t) → (new : List (ℕ × ℕ)) → new ≡ qs ++ (v, t) ∷ [] → HasInst p s new
terms_pushed p s qs all v t has_v has_t is ty closed new e =
    rw e (record { there = push (λ q. HasTerm p q.0 × HasTerm s q.1) qs all.there (has_v, has_t); stand = push (λ q. Substitutable (term_tree p q.0) (term_tree s q.1)) qs all.stand (record { schematic = is; type = ty; closed = closed }) })
  where
    push : (P : ℕ × ℕ → Type 0) (rs : List (ℕ × ℕ)) → AllByRecursion P rs → P (v, t) → AllByRecursion P (rs ++ (v, t) ∷ [])
    push P [] a here = (here, tt)
    push P (r ∷ rs) a here = (a.0, push P rs a.1 here)

-- a term that can't stand for the variable
pub variable_loose : (v t : Term) → IsSchematic v → (IsClosed t → ⊥) → (old new : Pairs) → IsMatch v t old new false
variable_loose v t is loose old new = refused (record { never = λ σ l a e. loose (subst (λ x. IsClosed x) (sym (schematic_itself σ v is) ∙ e) (l.each v is).closed) })

pub variable_other : (v t : Term) → IsSchematic v → (ty_of v ≡ ty_of t → ⊥) → (old new : Pairs) → IsMatch v t old new false
variable_other v t is other old new = refused (record { never = λ σ l a e. other (sym (l.each v is).type ∙ ap ty_of (sym (schematic_itself σ v is) ∙ e)) })

-- ---- what was found instantiates

found_stands : (p s : TermStore) (qs : List (ℕ × ℕ)) → AllByRecursion (λ q. Substitutable (term_tree p q.0) (term_tree s q.1)) qs → (v : Term) → IsSchematic v → Substitutable v (term_for (inst_tree p s qs) v)
found_stands p s [] all v is = itself v is
  where
    itself : (w : Term) → IsSchematic w → Substitutable w w
    itself (FreeTm k n t) h = record { schematic = h; type = refl; closed = tt }
    itself (BoundTm i t) h = absurd h
    itself (ConstTm n t) h = absurd h
    itself (NumTm z) h = absurd h
    itself (AppTm f x) h = absurd h
    itself (LamTm t b) h = absurd h
found_stands p s (q ∷ qs) all v is = by (term_eq v (term_tree p q.0)) refl (found_stands p s qs all.1 v is)
  where
    by : (b : Truth) → term_eq v (term_tree p q.0) ≡ b → Substitutable v (term_for (inst_tree p s qs) v) → Substitutable v (unwrap_or (cond b (Some (term_tree s q.1)) (lookup (term_eq v) (inst_tree p s qs))) v)
    by true e rest = subst (λ x. Substitutable x (term_tree s q.1)) (sym (term_eq_sound v (term_tree p q.0) e)) all.0
    by false e rest = rest

pub found_instantiates : (p s : TermStore) (qs : List (ℕ × ℕ)) → HasInst p s qs → IsInstantiation (term_for (inst_tree p s qs))
found_instantiates p s qs all = record { each = found_stands p s qs all.stand }

apart_none : EachOnce []
apart_none = tt

apart_push : (vs : List Term) (v : Term) → EachOnce vs → (In v vs → ⊥) → EachOnce (vs ++ v ∷ [])
apart_push [] v a new = ((λ h. h), tt)
apart_push (w ∷ vs) v a new = ((λ h. ⊎_elim (λ k. a.0 k) (λ k. last k) (in_append_either w vs (v ∷ []) h)), apart_push vs v a.1 (λ h. new (inr h)))
  where
    last : In w (v ∷ []) → ⊥
    last (inl e) = new (inl (sym e))
    last (inr h) = h

apart_new : (vs : List Term) (v : Term) → EachOnce vs → EachOnce (with_new vs v)
apart_new vs v a = by (list_any (term_eq v) vs) refl
  where
    by : (b : Truth) → list_any (term_eq v) vs ≡ b → EachOnce (cond b vs (vs ++ v ∷ []))
    by true e = a
    by false e = apart_push vs v a (λ h. true≢false (sym (in_any v vs h) ∙ e))

apart_all : (ws vs : List Term) → EachOnce vs → EachOnce (fold with_new vs ws)
apart_all [] vs a = a
apart_all (w ∷ ws) vs a = apart_all ws (with_new vs w) (apart_new vs w a)

-- the variables of a pattern stand once in their list
pub variables_each_once : (p : Term) → EachOnce (variables_once p)
variables_each_once p = apart_all (schematic_variables p) [] apart_none

-- and it has all of them
pub variables_all : (p v : Term) → In v (schematic_variables p) → In v (variables_once p)
variables_all p v h = put_all v (schematic_variables p) [] h

-- and no others
pub variables_only : (p v : Term) → In v (variables_once p) → In v (schematic_variables p)
variables_only p v h = ⊎_elim (λ k. absurd k) (λ k. k) (from_all (schematic_variables p) [] h)
  where
    from_one : (w : Term) (vs : List Term) → In v (with_new vs w) → In v vs ⊎ (v ≡ w)
    from_one w vs i = by (list_any (term_eq w) vs) i
      where
        last : In v (w ∷ []) → In v vs ⊎ (v ≡ w)
        last (inl e) = inr e
        last (inr k) = absurd k

        by : (b : Truth) → In v (cond b vs (vs ++ w ∷ [])) → In v vs ⊎ (v ≡ w)
        by true k = inl k
        by false k = ⊎_elim (λ m. inl m) last (in_append_either v vs (w ∷ []) k)

    from_all : (ws vs : List Term) → In v (fold with_new vs ws) → In v vs ⊎ In v ws
    from_all [] vs i = inl i
    from_all (w ∷ ws) vs i = ⊎_elim (λ k. ⊎_elim (λ m. inl m) (λ e. inr (inl e)) (from_one w vs k)) (λ k. inr (inr k)) (from_all ws (with_new vs w) i)

agrees_more : (qs : Pairs) (v t : Term) (rs : Pairs) → (In v (inst_variables rs) → ⊥) → Agrees (term_for qs) rs → Agrees (term_for ((v, t) ∷ qs)) rs
agrees_more qs v t [] new a = tt
agrees_more qs v t (r ∷ rs) new a =
    (ap (λ b. unwrap_or (cond b (Some t) (lookup (term_eq r.0) qs)) r.0) (term_eq_fails r.0 v (λ e. new (inl (sym e)))) ∙ a.0, agrees_more qs v t rs (λ h. new (inr h)) a.1)

agrees_found : (qs : Pairs) → EachOnce (inst_variables qs) → Agrees (term_for qs) qs
agrees_found [] a = tt
agrees_found (q ∷ qs) a = (ap (λ b. unwrap_or (cond b (Some q.1) (lookup (term_eq q.0) qs)) q.0) (term_eq_refl q.0), agrees_more qs q.0 q.1 qs a.0 (agrees_found qs a.1))

-- ---- the whole

module _ (p s : TermStore) (pattern term : ℕ) (qs : List (ℕ × ℕ)) (all : HasInst p s qs) (k : Matched (term_tree p pattern) (term_tree s term) [] (inst_tree p s qs)) where
  pub whole_variables : inst_variables (inst_tree p s qs) ≡ variables_once (term_tree p pattern)
  whole_variables = k.variables

  pub whole_is : instance_by (term_for (inst_tree p s qs)) (term_tree p pattern) ≡ term_tree s term
  whole_is = k.is (term_for (inst_tree p s qs)) (found_instantiates p s qs all) (agrees_found (inst_tree p s qs) (subst (λ vs. EachOnce vs) (sym k.variables) (variables_each_once (term_tree p pattern))))

  pub whole_instance : Instance (term_tree p pattern) (term_tree s term)
  whole_instance = record { terms = term_for (inst_tree p s qs); lawful = found_instantiates p s qs all; is = whole_is }

  pub whole_types : TypesOccur (term_tree p pattern) (term_tree s term)
  whole_types = types_occur (term_for (inst_tree p s qs)) (found_instantiates p s qs all) (term_tree p pattern) (term_tree s term) whole_is

pub whole_none : (p t : Term) → NoMatch p t [] → Instance p t → ⊥
whole_none p t k i = k.never i.terms i.lawful tt i.is

pub nothing_found : (p s : TermStore) → HasInst p s []
nothing_found p s = record { there = tt; stand = tt }

pub nothing_known : (p s : TermStore) (qs : Pairs) (m : Known) → m.entries ≡ [] → AllParts p s qs m
nothing_known p s qs m e = record { each = λ a t h. absurd (none-some t (ap (λ es. lookup (nat_eq a) es) (sym e) ∙ h)) }

-- a test that fails
pub refutes : {P : Type 0} {b : Truth} → b ≡ false → (IsTrue b ↔ P) → P → ⊥
refutes e i h = true≢false (sym (i.1 h) ∙ e)
