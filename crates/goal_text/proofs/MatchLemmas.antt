-- Matching gives the least types for the type variables of a pattern.
use Rattle.std.proofs.Common.{◌≡◌, ℕ, zero, suc, arith, List, [], ◌∷◌, ◌++◌, Option, Some, None, Bool, true, false, true≢false, ◌&&◌, ◌+◌, ◌<◌, cond, drop, get_or, length, nat_eq, if◌then◌else◌, is_some, map, refl, sym, ap, ap₂, subst, ◌∙◌, unwrap_or}
use Rattle.std.specs.Prelude.{bytes_eq, IfSome}
use Rattle.std.specs.Map.{lookup}
use Rattle.std.specs.List.{AllByRecursion, list_all}
use Rattle.std.proofs.lemmas.List.{drop_more}
use Rattle.std.proofs.lemmas.Option.{none-some, same_Some}
use Rattle.hol_types.specs.Ty.{Ty, Tys, BoolTy, IntTy, VarTy, FunTy, ConsTy, no_types, more_types}
use Rattle.hol_types.specs.TyEq.{ty_eq}
use Rattle.hol_types.specs.TypeStore.{TypeStore, HasName, NamesApart, text_of, trees_at, type_tree}
use Rattle.hol_types.proofs.TypeLemmas.{eqb_sound, eqb_complete}
use Rattle.hol_types.specs.TypeSubst.{HasSubst, TypeSubst, subst_tree, instance_of, instances_of, variables_of, variables_of_all}
use Rattle.hol_types.specs.TypeMatch.{Extends, Gives, Matches, IsLeast, IsNone, NeverIs}
use Rattle.hol_types.proofs.TyEqLemmas.{text_eq_sound, text_eq_refl, ty_eq_sound, ty_eq_apart}
use Rattle.hol_types.proofs.MatchLemmas.{extends_trans, matches_kept, least_here}
use Rattle.hol_terms.specs.Term.{ty_of}
use Rattle.hol_terms.specs.TermStore.{TermStore, term_tree}
use Rattle.goal_text.specs.Scope.{AreTerms, terms_at}
use Rattle.goal_text.specs.Matching.{◌>>?◌, giving, match_ty, match_tys, match_parameters, is_instance, covers, are_none}

-- the least types with a property, or that none have it
abbrev pub IsOutcome : (TypeSubst → Type 0) → TypeSubst → Option TypeSubst → Type 0
IsOutcome P s None = IsNone P s
IsOutcome P s (Some r) = IsLeast P s r

outcome_second : (P Q R : TypeSubst → Type 0) → ((v w : TypeSubst) → Extends v w → P v → P w) → ((v : TypeSubst) → P v → Q v → R v) → ((v : TypeSubst) → R v → P v) → ((v : TypeSubst) → R v → Q v)
    → (s r : TypeSubst) (o : Option TypeSubst) → IsLeast P s r → IsOutcome Q r o → IsOutcome R s o
outcome_second P Q R kept both left right s r None first second = record { none = λ v e h. second.none v (first.least v e (left v h)) (right v h) }
outcome_second P Q R kept both left right s r (Some u) first second = record {
  extends = extends_trans first.extends second.extends;
  has = both u (kept r u second.extends first.has) second.has;
  least = λ v e h. second.least v (first.least v e (left v h)) (right v h);
}

-- one property after the other
outcome_both : (P Q R : TypeSubst → Type 0) → ((v w : TypeSubst) → Extends v w → P v → P w) → ((v : TypeSubst) → P v → Q v → R v) → ((v : TypeSubst) → R v → P v) → ((v : TypeSubst) → R v → Q v)
    → (s : TypeSubst) (o : Option TypeSubst) (f : TypeSubst → Option TypeSubst) → IsOutcome P s o → ((r : TypeSubst) → IsOutcome Q r (f r)) → IsOutcome R s (o >>? f)
outcome_both P Q R kept both left right s None f first second = record { none = λ v e h. first.none v e (left v h) }
outcome_both P Q R kept both left right s (Some r) f first second = outcome_second P Q R kept both left right s r (f r) first (second r)

-- the same property in other words
outcome_same : (P Q : TypeSubst → Type 0) → ((v : TypeSubst) → P v → Q v) → ((v : TypeSubst) → Q v → P v) → (s : TypeSubst) (o : Option TypeSubst) → IsOutcome P s o → IsOutcome Q s o
outcome_same P Q there back s None h = record { none = λ v e q. h.none v e (back v q) }
outcome_same P Q there back s (Some r) h = record { extends = h.extends; has = there r h.has; least = λ v e q. h.least v e (back v q) }

-- ---- lists of types

All_append : (P : List ℕ → Type 0) (xs ys : List (List ℕ)) → AllByRecursion P xs → AllByRecursion P ys → AllByRecursion P (xs ++ ys)
All_append P [] ys p q = q
All_append P (x ∷ xs) ys p q = (p.0, All_append P xs ys p.1 q)

All_left : (P : List ℕ → Type 0) (xs ys : List (List ℕ)) → AllByRecursion P (xs ++ ys) → AllByRecursion P xs
All_left P [] ys p = tt
All_left P (x ∷ xs) ys p = (p.0, All_left P xs ys p.1)

All_right : (P : List ℕ → Type 0) (xs ys : List (List ℕ)) → AllByRecursion P (xs ++ ys) → AllByRecursion P ys
All_right P [] ys p = p
All_right P (x ∷ xs) ys p = All_right P xs ys p.1

record MatchesAll (ps ts : Tys) (s : TypeSubst) : Type 0 where
  given : AllByRecursion (λ n. Gives s n) (variables_of_all ps)
  is : instances_of s ps ≡ ts

-- a pattern without arguments in it is one with it
matches_one : (p : Ty) (ps : Tys) (t : Ty) (ts : Tys) (v : TypeSubst) → MatchesAll (more_types p ps) (more_types t ts) v → Matches p t v
matches_one p ps t ts v m = let e = m.is in record { given = All_left (λ n. Gives v n) (variables_of p) (variables_of_all ps) m.given; is = cc }

matches_others : (p : Ty) (ps : Tys) (t : Ty) (ts : Tys) (v : TypeSubst) → MatchesAll (more_types p ps) (more_types t ts) v → MatchesAll ps ts v
matches_others p ps t ts v m = let e = m.is in record { given = All_right (λ n. Gives v n) (variables_of p) (variables_of_all ps) m.given; is = cc }

matches_more : (p : Ty) (ps : Tys) (t : Ty) (ts : Tys) (v : TypeSubst) → Matches p t v → MatchesAll ps ts v → MatchesAll (more_types p ps) (more_types t ts) v
matches_more p ps t ts v m n = record { given = All_append (λ x. Gives v x) (variables_of p) (variables_of_all ps) m.given n.given; is = ap₂ more_types m.is n.is }

matches_from : (a b c d : Ty) (v : TypeSubst) → Matches (FunTy a b) (FunTy c d) v → Matches a c v
matches_from a b c d v m = let e = m.is in record { given = All_left (λ n. Gives v n) (variables_of a) (variables_of b) m.given; is = cc }

matches_to : (a b c d : Ty) (v : TypeSubst) → Matches (FunTy a b) (FunTy c d) v → Matches b d v
matches_to a b c d v m = let e = m.is in record { given = All_right (λ n. Gives v n) (variables_of a) (variables_of b) m.given; is = cc }

matches_fun : (a b c d : Ty) (v : TypeSubst) → Matches a c v → Matches b d v → Matches (FunTy a b) (FunTy c d) v
matches_fun a b c d v m n = record { given = All_append (λ x. Gives v x) (variables_of a) (variables_of b) m.given n.given; is = ap₂ FunTy m.is n.is }

-- ---- one type

ground_outcome : (p t : Ty) → ((v : TypeSubst) → instance_of v p ≡ p) → variables_of p ≡ [] → (s : TypeSubst) (b : Bool) → ty_eq p t ≡ b → IsOutcome (Matches p t) s (if b then Some s else None)
ground_outcome p t fixed none s true e = least_here (record { given = subst (λ ns. AllByRecursion (λ n. Gives s n) ns) (sym none) tt; is = fixed s ∙ ty_eq_sound p t e })
ground_outcome p t fixed none s false e = record { none = λ v k m. ty_eq_apart p t e (sym (fixed v) ∙ m.is) }

variable_is : (n : List ℕ) (t : Ty) (v : TypeSubst) → lookup (bytes_eq n) v ≡ Some t → Matches (VarTy n) t v
variable_is n t v h = record { given = ((t, h), tt); is = ap (λ r. unwrap_or r (VarTy n)) h }

variable_given : (n : List ℕ) (t : Ty) (v : TypeSubst) → Matches (VarTy n) t v → lookup (bytes_eq n) v ≡ Some t
variable_given n t v m =
    let e = sym (ap (λ r. unwrap_or r (VarTy n)) m.given.0.1) ∙ m.is in
    m.given.0.1 ∙ ap Some e

-- a variable that is given a type for the first time
new_extends : (n : List ℕ) (t : Ty) (s : TypeSubst) → lookup (bytes_eq n) s ≡ None → (m : List ℕ) (u : Ty) → lookup (bytes_eq m) s ≡ Some u → (b : Bool) → bytes_eq m n ≡ b → cond b (Some t) (lookup (bytes_eq m) s) ≡ Some u
new_extends n t s none m u h true e = absurd (none-some u (sym none ∙ ap (λ k. lookup (bytes_eq k) s) (sym (text_eq_sound m n e)) ∙ h))
new_extends n t s none m u h false e = h

new_least : (n : List ℕ) (t : Ty) (s v : TypeSubst) → Extends s v → lookup (bytes_eq n) v ≡ Some t → (m : List ℕ) (u : Ty) (b : Bool) → bytes_eq m n ≡ b → cond b (Some t) (lookup (bytes_eq m) s) ≡ Some u → lookup (bytes_eq m) v ≡ Some u
new_least n t s v e here m u true same h = ap (λ k. lookup (bytes_eq k) v) (text_eq_sound m n same) ∙ here ∙ h
new_least n t s v e here m u false same h = e.same m u h

giving_outcome : (s : TypeSubst) (n : List ℕ) (t : Ty) (o : Option Ty) → lookup (bytes_eq n) s ≡ o → IsOutcome (Matches (VarTy n) t) s (giving o n t s)
giving_outcome s n t None h = record {
  extends = record { same = λ m u k. new_extends n t s h m u k (bytes_eq m n) refl };
  has = variable_is n t ((n, t) ∷ s) (ap (λ b. cond b (Some t) (lookup (bytes_eq n) s)) (text_eq_refl n));
  least = λ v e m. record { same = λ k u l. new_least n t s v e (variable_given n t v m) k u (bytes_eq k n) refl l };
}
giving_outcome s n t (Some u) h = by (ty_eq u t) refl
  where
    by : (b : Bool) → ty_eq u t ≡ b → IsOutcome (Matches (VarTy n) t) s (if b then Some s else None)
    by true e = least_here (variable_is n t s (h ∙ ap Some (ty_eq_sound u t e)))
    by false e = record { none = λ v k m. ty_eq_apart u t e (same_Some u t (sym (k.same n u h) ∙ variable_given n t v m)) }

-- ---- all types

cons_outcome : (s : TypeSubst) (n m : List ℕ) (ps ts : Tys) (b : Bool) → bytes_eq n m ≡ b → IsOutcome (MatchesAll ps ts) s (match_tys s ps ts)
    → IsOutcome (Matches (ConsTy n ps) (ConsTy m ts)) s ((if b then Some ts else None) >>? λ us. match_tys s ps us)
cons_outcome s n m ps ts true e h =
    let name = text_eq_sound n m e in
    outcome_same (MatchesAll ps ts) (Matches (ConsTy n ps) (ConsTy m ts)) (λ v k. record { given = k.given; is = ap₂ ConsTy name k.is }) (λ v k. let i = k.is in record { given = k.given; is = cc }) s (match_tys s ps ts) h
cons_outcome s n m ps ts false e h = record { none = λ v k i. let is = i.is in differ v is }
  where
    differ : (v : TypeSubst) → ConsTy n (instances_of v ps) ≡ ConsTy m ts → ⊥
    differ v is = let same : n ≡ m = cc in true≢false (sym (text_eq_refl m) ∙ ap (λ k. bytes_eq k m) (sym same) ∙ e)

mutual
  unfolding match_ty match_tys

  pub match_outcome : (s : TypeSubst) (p t : Ty) → IsOutcome (Matches p t) s (match_ty s p t)
  match_outcome s BoolTy t = ground_outcome BoolTy t (λ v. refl) refl s (ty_eq BoolTy t) refl
  match_outcome s IntTy t = ground_outcome IntTy t (λ v. refl) refl s (ty_eq IntTy t) refl
  match_outcome s (VarTy n) t = giving_outcome s n t (lookup (bytes_eq n) s) refl
  match_outcome s (FunTy a b) (FunTy c d) =
      outcome_both (Matches a c) (Matches b d) (Matches (FunTy a b) (FunTy c d)) (λ v w e m. matches_kept e m) (λ v m n. matches_fun a b c d v m n) (λ v m. matches_from a b c d v m) (λ v m. matches_to a b c d v m) s
      (match_ty s a c) (λ r. match_ty r b d) (match_outcome s a c) (λ r. match_outcome r b d)
  match_outcome s (FunTy a b) BoolTy = record { none = λ v k m. let e = m.is in cc }
  match_outcome s (FunTy a b) IntTy = record { none = λ v k m. let e = m.is in cc }
  match_outcome s (FunTy a b) (VarTy n) = record { none = λ v k m. let e = m.is in cc }
  match_outcome s (FunTy a b) (ConsTy n ts) = record { none = λ v k m. let e = m.is in cc }
  match_outcome s (ConsTy n ps) (ConsTy m ts) = cons_outcome s n m ps ts (bytes_eq n m) refl (match_all_outcome s ps ts)
  match_outcome s (ConsTy n ps) BoolTy = record { none = λ v k m. let e = m.is in cc }
  match_outcome s (ConsTy n ps) IntTy = record { none = λ v k m. let e = m.is in cc }
  match_outcome s (ConsTy n ps) (VarTy m) = record { none = λ v k m. let e = m.is in cc }
  match_outcome s (ConsTy n ps) (FunTy a b) = record { none = λ v k m. let e = m.is in cc }

  match_all_outcome : (s : TypeSubst) (ps ts : Tys) → IsOutcome (MatchesAll ps ts) s (match_tys s ps ts)
  match_all_outcome s no_types no_types = least_here (record { given = tt; is = refl })
  match_all_outcome s no_types (more_types t ts) = record { none = λ v k m. let e = m.is in cc }
  match_all_outcome s (more_types p ps) no_types = record { none = λ v k m. let e = m.is in cc }
  match_all_outcome s (more_types p ps) (more_types t ts) =
      outcome_both (Matches p t) (MatchesAll ps ts) (MatchesAll (more_types p ps) (more_types t ts)) (λ v w e m. matches_kept e m) (λ v m n. matches_more p ps t ts v m n) (λ v m. matches_one p ps t ts v m) (λ v m. matches_others p ps t ts v m) s
      (match_ty s p t) (λ r. match_tys r ps ts) (match_outcome s p t) (λ r. match_all_outcome r ps ts)

-- ---- what is found is what the definition gives

-- whether something is found
pub found_instance : {X : Type 0} (view : X → TypeSubst) (p t : Ty) (o : Option X) → IfSome o (λ u. IsLeast (Matches p t) [] (view u)) → (o ≡ None → NeverIs [] p t) → is_some o ≡ is_instance p t
found_instance {X = X} view p t o least never = by o (match_ty [] p t) least never (match_outcome [] p t)
  where
    by : (o : Option X) (r : Option TypeSubst) → IfSome o (λ u. IsLeast (Matches p t) [] (view u)) → (o ≡ None → NeverIs [] p t) → IsOutcome (Matches p t) [] r → is_some o ≡ is_some r
    by None None least never h = refl
    by None (Some r) least never h = absurd ((never refl).never r h.extends h.has.is)
    by (Some u) None least never h = absurd (h.none (view u) least.extends least.has)
    by (Some u) (Some r) least never h = refl

-- two that give the same types
pub record IsAlike (s u : TypeSubst) : Type 0 where
  pub there : Extends s u
  pub back : Extends u s

pub alike_same : (s u : TypeSubst) → IsAlike s u → (n : List ℕ) → lookup (bytes_eq n) s ≡ lookup (bytes_eq n) u
alike_same s u alike n = by (lookup (bytes_eq n) s) (lookup (bytes_eq n) u) refl refl
  where
    by : (a b : Option Ty) → lookup (bytes_eq n) s ≡ a → lookup (bytes_eq n) u ≡ b → lookup (bytes_eq n) s ≡ lookup (bytes_eq n) u
    by (Some t) b h k = h ∙ sym (alike.there.same n t h)
    by None (Some t) h k = alike.back.same n t k ∙ sym k
    by None None h k = h ∙ sym k

-- one more parameter is matched
pub match_step : (s u w : TypeSubst) (p t : Ty) → IsAlike s u → IsLeast (Matches p t) u w → (v : TypeSubst) × (match_ty s p t ≡ Some v) × IsAlike v w
match_step s u w p t alike least = by (match_ty s p t) refl (match_outcome s p t)
  where
    by : (o : Option TypeSubst) → match_ty s p t ≡ o → IsOutcome (Matches p t) s o → (v : TypeSubst) × (match_ty s p t ≡ Some v) × IsAlike v w
    by None e h = absurd (h.none w (extends_trans alike.there least.extends) least.has)
    by (Some v) e h = (v, e, record { there = h.least w (extends_trans alike.there least.extends) least.has; back = least.least v (extends_trans alike.back h.extends) h.has })

pub match_never : (s u : TypeSubst) (p t : Ty) → IsAlike s u → NeverIs u p t → match_ty s p t ≡ None
match_never s u p t alike never = by (match_ty s p t) refl (match_outcome s p t)
  where
    by : (o : Option TypeSubst) → match_ty s p t ≡ o → IsOutcome (Matches p t) s o → match_ty s p t ≡ None
    by None e h = e
    by (Some v) e h = absurd (never.never v (extends_trans alike.back h.extends) h.has.is)

-- the parameters of a type, one after the other
module _ (total : Option TypeSubst) (s : TypeSubst) (p a b t : Ty) (ts us : List Ty) (is : p ≡ FunTy a b) (split : ts ≡ t ∷ us) (so_far : total ≡ match_parameters s p ts) where
  pub parameters_step : (v : TypeSubst) → match_ty s a t ≡ Some v → total ≡ match_parameters v b us
  unfolding match_parameters
  parameters_step v h = so_far ∙ rw (is, split, h) refl

  pub parameters_stop : match_ty s a t ≡ None → total ≡ None
  unfolding match_parameters
  parameters_stop h = so_far ∙ rw (is, split, h) refl

pub parameters_done : (s : TypeSubst) (p : Ty) → match_parameters s p [] ≡ Some s
unfolding match_parameters
parameters_done s BoolTy = refl
parameters_done s IntTy = refl
parameters_done s (VarTy n) = refl
parameters_done s (FunTy a b) = refl
parameters_done s (ConsTy n ps) = refl

-- the same instances
mutual
  pub instance_alike : (s u : TypeSubst) → IsAlike s u → (p : Ty) → instance_of s p ≡ instance_of u p
  instance_alike s u e BoolTy = refl
  instance_alike s u e IntTy = refl
  instance_alike s u e (VarTy n) = ap (λ r. unwrap_or r (VarTy n)) (alike_same s u e n)
  instance_alike s u e (FunTy a b) = ap₂ FunTy (instance_alike s u e a) (instance_alike s u e b)
  instance_alike s u e (ConsTy n ps) = ap (ConsTy n) (instances_alike s u e ps)

  instances_alike : (s u : TypeSubst) → IsAlike s u → (ps : Tys) → instances_of s ps ≡ instances_of u ps
  instances_alike s u e no_types = refl
  instances_alike s u e (more_types p ps) = ap₂ more_types (instance_alike s u e p) (instances_alike s u e ps)

covers_names : (s u : TypeSubst) → IsAlike s u → (ns : List (List ℕ)) → list_all (λ n. is_some (lookup (bytes_eq n) s)) ns ≡ list_all (λ n. is_some (lookup (bytes_eq n) u)) ns
covers_names s u e [] = refl
covers_names s u e (n ∷ ns) = rw (alike_same s u e n, covers_names s u e ns) refl

pub covers_alike : (s u : TypeSubst) → IsAlike s u → (p : Ty) → covers s p ≡ covers u p
covers_alike s u e p = covers_names s u e (variables_of p)

-- ---- which type variables are given

list_all_append : (p : List ℕ → Bool) (xs ys : List (List ℕ)) → list_all p (xs ++ ys) ≡ (list_all p xs && list_all p ys)
list_all_append p [] ys = refl
list_all_append p (x ∷ xs) ys = by (p x) refl (list_all_append p xs ys)
  where
    by : (b : Bool) → p x ≡ b → list_all p (xs ++ ys) ≡ (list_all p xs && list_all p ys) → list_all p ((x ∷ xs) ++ ys) ≡ (list_all p (x ∷ xs) && list_all p ys)
    by true e r = rw e r
    by false e r = rw e refl

pub all_right : (p : List ℕ → Bool) (t a b : Ty) → t ≡ FunTy a b → list_all p (variables_of a) ≡ true → list_all p (variables_of b) ≡ list_all p (variables_of t)
all_right p t a b e h = sym (ap (λ u. list_all p (variables_of u)) e ∙ list_all_append p (variables_of a) (variables_of b) ∙ ap (λ c. c && list_all p (variables_of b)) h)

pub not_all_left : (p : List ℕ → Bool) (t a b : Ty) → t ≡ FunTy a b → list_all p (variables_of a) ≡ false → list_all p (variables_of t) ≡ false
not_all_left p t a b e h = ap (λ u. list_all p (variables_of u)) e ∙ list_all_append p (variables_of a) (variables_of b) ∙ ap (λ c. c && list_all p (variables_of b)) h

-- the next of a list of types
pub all_next : (p : List ℕ → Bool) (s : TypeStore) (ts : List ℕ) (i t : ℕ) → i < length ts → t ≡ get_or ts i t
    → list_all p (variables_of_all (trees_at s (drop i ts))) ≡ (list_all p (variables_of (type_tree s t)) && list_all p (variables_of_all (trees_at s (drop (i + 1) ts))))
all_next p s ts i t below is =
    let split : drop i ts ≡ t ∷ drop (i + 1) ts = drop_more ts i t below ∙ ap (λ u. u ∷ drop (i + 1) ts) (sym is) in
    ap (λ us. list_all p (variables_of_all (trees_at s us))) split ∙ list_all_append p (variables_of (type_tree s t)) (variables_of_all (trees_at s (drop (i + 1) ts)))

-- names are tested by their numbers
names_tested : (s : TypeStore) → NamesApart s → (n m : ℕ) → HasName s n → HasName s m → (b : Bool) → nat_eq m n ≡ b → bytes_eq (text_of s n) (text_of s m) ≡ b
names_tested s apart n m there here true e = ap (λ k. bytes_eq (text_of s n) (text_of s k)) (eqb_sound m n e) ∙ text_eq_refl (text_of s n)
names_tested s apart n m there here false e = by (bytes_eq (text_of s n) (text_of s m)) refl
  where
    by : (c : Bool) → bytes_eq (text_of s n) (text_of s m) ≡ c → bytes_eq (text_of s n) (text_of s m) ≡ false
    by false h = h
    by true h = absurd (eqb_complete m n e (sym (apart n m there here (text_eq_sound (text_of s n) (text_of s m) h))))

module _ (s : TypeStore) (ps : List (ℕ × ℕ)) (i : ℕ) (p : ℕ × ℕ) (below : i < length ps) (is : p ≡ get_or ps i p) (there : HasSubst s (drop i ps)) where
  pair_split : drop i ps ≡ p ∷ drop (i + 1) ps
  pair_split = drop_more ps i p below ∙ ap (λ q. q ∷ drop (i + 1) ps) (sym is)

  pair_there : HasSubst s (p ∷ drop (i + 1) ps)
  pair_there = subst (λ qs. HasSubst s qs) pair_split there

  pub subst_rest : HasSubst s (drop (i + 1) ps)
  subst_rest = pair_there.1

  pub given_next : (n : ℕ) → NamesApart s → HasName s n → (b : Bool) → nat_eq p.0 n ≡ b
      → is_some (lookup (bytes_eq (text_of s n)) (subst_tree s (drop i ps))) ≡ (if b then true else is_some (lookup (bytes_eq (text_of s n)) (subst_tree s (drop (i + 1) ps))))
  given_next n apart has b e = ap (λ qs. is_some (lookup (bytes_eq (text_of s n)) (subst_tree s qs))) pair_split ∙ by b (names_tested s apart n p.0 has pair_there.0.0 b e)
    where
      by : (c : Bool) → bytes_eq (text_of s n) (text_of s p.0) ≡ c
          → is_some (lookup (bytes_eq (text_of s n)) (subst_tree s (p ∷ drop (i + 1) ps))) ≡ (if c then true else is_some (lookup (bytes_eq (text_of s n)) (subst_tree s (drop (i + 1) ps))))
      by true h = rw h refl
      by false h = rw h refl

-- without types none is given
pub ground_covers : (ns : List (List ℕ)) → list_all (λ n. is_some {T = Ty} (lookup (bytes_eq n) [])) ns ≡ are_none ns
ground_covers [] = refl
ground_covers (n ∷ ns) = refl

-- the types of the terms from a place on
pub types_from : (s : TermStore) (ts : List ℕ) (i x : ℕ) (ty : Ty) → i < length ts → x ≡ get_or ts i x → ty ≡ ty_of (term_tree s x) → map ty_of (terms_at s (drop i ts)) ≡ ty ∷ map ty_of (terms_at s (drop (i + 1) ts))
types_from s ts i x ty below is type =
    let split : drop i ts ≡ x ∷ drop (i + 1) ts = drop_more ts i x below ∙ ap (λ y. y ∷ drop (i + 1) ts) (sym is) in
    ap (λ l. map ty_of (terms_at s l)) split ∙ ap (λ t. t ∷ map ty_of (terms_at s (drop (i + 1) ts))) (sym type)

pub terms_next : (s : TermStore) (ts : List ℕ) (i : ℕ) → AreTerms s (drop i ts) → AreTerms s (drop (i + 1) ts)
terms_next s [] zero all = tt
terms_next s [] (suc i) all = let e : suc i + 1 ≡ suc (i + 1) = omega arith in rw e tt
terms_next s (t ∷ ts) zero all = all.1
terms_next s (t ∷ ts) (suc i) all = let e : suc i + 1 ≡ suc (i + 1) = omega arith in rw e (terms_next s ts i all)
