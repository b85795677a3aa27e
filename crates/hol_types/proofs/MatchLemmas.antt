-- Matching of types: extensions, and the least that make a pattern a type.
use Rattle.std.proofs.Common.{◌≡◌, ℕ, zero, suc, ◌+◌, ◌<◌, List, [], ◌∷◌, ◌++◌, length, get_or, slice_get, Option, Some, None, cond, Bool as Truth, true, false, refl, sym, ap, ◌∙◌, subst, arith, unwrap_or, option_map, bytes_eq, nat_eq, ap₂}
use Rattle.std.specs.Prelude.{map}
use Rattle.std.specs.HashMap.{get_by}
use Rattle.std.specs.Map.{lookup}
use Rattle.std.specs.List.{AllByRecursion}
use Rattle.std.proofs.Math.Dec.{eqb}
use Rattle.std.proofs.lemmas.Option.{none-some, same_Some, slice_get-get_or}
use Rattle.hol_types.specs.Once.{Once, Absent}
use Rattle.hol_types.specs.Ty.{Ty, Tys, BoolTy, IntTy, VarTy, FunTy, ConsTy, no_types, more_types}
use Rattle.hol_types.specs.TypeStore.{TypeStore, IsTypeStore, HasName, HasType, TreesApart, type_tree, text_of, trees_at}
use Rattle.hol_types.specs.TypeSubst.{TypeSubst, HasSubst, NamesOnce, subst_tree, type_for, instance_of, instances_of, variables_of, variables_of_all}
use Rattle.hol_types.specs.TypeMatch.{Extends, Gives, Matches, IsLeast, IsNone, NeverIs}
use Rattle.hol_types.specs.Matching.{IsGiven, same, other, new, IsAnswer, found, refused, Done, IsTypePart, AllDone, MatchFirst}
use Rattle.hol_types.proofs.TypeLemmas.{trees_apart, eqb_sound, eqb_complete, lookup-left, lookup-right}
use Rattle.hol_types.proofs.Places.{Once-push}
use Rattle.hol_types.proofs.TyEqLemmas.{text_eq_sound, text_eq_refl}
use Rattle.hol_types.proofs.InstanceLemmas.{look_up, given_there}

-- ---- extensions

pub extends_refl : (s : TypeSubst) → Extends s s
extends_refl s = record { same = λ n t h. h }

pub extends_trans : {s u v : TypeSubst} → Extends s u → Extends u v → Extends s v
extends_trans e f = record { same = λ n t h. f.same n t (e.same n t h) }

All_append : (P : List ℕ → Type 0) (xs ys : List (List ℕ)) → AllByRecursion P xs → AllByRecursion P ys → AllByRecursion P (xs ++ ys)
All_append P [] ys p q = q
All_append P (x ∷ xs) ys p q = (p.0, All_append P xs ys p.1 q)

All_left : (P : List ℕ → Type 0) (xs ys : List (List ℕ)) → AllByRecursion P (xs ++ ys) → AllByRecursion P xs
All_left P [] ys p = tt
All_left P (x ∷ xs) ys p = (p.0, All_left P xs ys p.1)

All_right : (P : List ℕ → Type 0) (xs ys : List (List ℕ)) → AllByRecursion P (xs ++ ys) → AllByRecursion P ys
All_right P [] ys p = p
All_right P (x ∷ xs) ys p = All_right P xs ys p.1

given_kept : (s u : TypeSubst) → Extends s u → (ns : List (List ℕ)) → AllByRecursion (λ n. Gives s n) ns → AllByRecursion (λ n. Gives u n) ns
given_kept s u e [] all = tt
given_kept s u e (n ∷ ns) all = ((all.0.0, e.same n all.0.0 all.0.1), given_kept s u e ns all.1)

-- what is given decides the instance
mutual
  instance_kept : (s u : TypeSubst) → Extends s u → (p : Ty) → AllByRecursion (λ n. Gives s n) (variables_of p) → instance_of u p ≡ instance_of s p
  instance_kept s u e BoolTy all = refl
  instance_kept s u e IntTy all = refl
  instance_kept s u e (VarTy n) all = ap (λ r. unwrap_or r (VarTy n)) (e.same n all.0.0 all.0.1 ∙ sym all.0.1)
  instance_kept s u e (FunTy a b) all =
      ap₂ FunTy (instance_kept s u e a (All_left (λ n. Gives s n) (variables_of a) (variables_of b) all)) (instance_kept s u e b (All_right (λ n. Gives s n) (variables_of a) (variables_of b) all))
  instance_kept s u e (ConsTy n ps) all = ap (ConsTy n) (instances_kept s u e ps all)

  instances_kept : (s u : TypeSubst) → Extends s u → (ps : Tys) → AllByRecursion (λ n. Gives s n) (variables_of_all ps) → instances_of u ps ≡ instances_of s ps
  instances_kept s u e no_types all = refl
  instances_kept s u e (more_types p ps) all =
      ap₂ more_types (instance_kept s u e p (All_left (λ n. Gives s n) (variables_of p) (variables_of_all ps) all)) (instances_kept s u e ps (All_right (λ n. Gives s n) (variables_of p) (variables_of_all ps) all))

pub matches_kept : {s u : TypeSubst} {p t : Ty} → Extends s u → Matches p t s → Matches p t u
matches_kept {s} {u} {p} {t} e m = record { given = given_kept s u e (variables_of p) m.given; is = instance_kept s u e p m.given ∙ m.is }

pub done_kept : {s : TypeStore} {σ τ : TypeSubst} {m : Done} → Extends σ τ → AllDone s σ m → AllDone s τ m
done_kept e all = record { each = λ p t h. let is = all.each p t h in record { pattern = is.pattern; type = is.type; is = matches_kept e is.is } }

-- ---- least extensions with a property

pub least_here : {P : TypeSubst → Type 0} {s : TypeSubst} → P s → IsLeast P s s
least_here {P} {s} h = record { extends = extends_refl s; has = h; least = λ v e k. e }

-- one property after the other
least_both : (P Q R : TypeSubst → Type 0) → ((v w : TypeSubst) → Extends v w → P v → P w) → ((v : TypeSubst) → P v → Q v → R v) → ((v : TypeSubst) → R v → P v) → ((v : TypeSubst) → R v → Q v)
    → (s u v : TypeSubst) → IsLeast P s u → IsLeast Q u v → IsLeast R s v
least_both P Q R kept both left right s u v a b = record {
  extends = extends_trans a.extends b.extends;
  has = both v (kept u v b.extends a.has) b.has;
  least = λ w e r. b.least w (a.least w e (left w r)) (right w r);
}

-- ---- the parts of function types

fun_both : (a b c d : Ty) (v : TypeSubst) → Matches a c v → Matches b d v → Matches (FunTy a b) (FunTy c d) v
fun_both a b c d v m n = record { given = All_append (λ x. Gives v x) (variables_of a) (variables_of b) m.given n.given; is = ap₂ FunTy m.is n.is }

pub fun_left : (a b c d : Ty) (v : TypeSubst) → Matches (FunTy a b) (FunTy c d) v → Matches a c v
fun_left a b c d v m = let e = m.is in record { given = All_left (λ x. Gives v x) (variables_of a) (variables_of b) m.given; is = cc }

pub fun_right : (a b c d : Ty) (v : TypeSubst) → Matches (FunTy a b) (FunTy c d) v → Matches b d v
fun_right a b c d v m = let e = m.is in record { given = All_right (λ x. Gives v x) (variables_of a) (variables_of b) m.given; is = cc }

-- the two sides, one after the other
pub fun_answer : (p t a b c d : Ty) → p ≡ FunTy a b → t ≡ FunTy c d → (s u v : TypeSubst) (r : Truth) → IsLeast (Matches a c) s u → IsAnswer (Matches b d) u v r → IsAnswer (Matches p t) s v r
fun_answer p t a b c d e f s u v r first second =
    subst (λ q. IsAnswer (Matches q t) s v r) (sym e) (subst (λ q. IsAnswer (Matches (FunTy a b) q) s v r) (sym f) (by r second))
  where
    by : (r : Truth) → IsAnswer (Matches b d) u v r → IsAnswer (Matches (FunTy a b) (FunTy c d)) s v r
    by true (found least) = found (least_both (Matches a c) (Matches b d) (Matches (FunTy a b) (FunTy c d)) (λ w x k m. matches_kept k m) (λ w m n. fun_both a b c d w m n) (λ w m. fun_left a b c d w m) (λ w m. fun_right a b c d w m) s u v first least)
    by false (refused nothing) = refused (record { none = λ w k m. nothing.none w (first.least w k (fun_left a b c d w m)) (fun_right a b c d w m) })

pub fun_refused : (p t a b c d : Ty) → p ≡ FunTy a b → t ≡ FunTy c d → (s u v : TypeSubst) → IsAnswer (Matches a c) s u false → IsAnswer (Matches p t) s v false
fun_refused p t a b c d e f s u v (refused nothing) =
    subst (λ q. IsAnswer (Matches q t) s v false) (sym e) (subst (λ q. IsAnswer (Matches (FunTy a b) q) s v false) (sym f) (refused (record { none = λ w k m. nothing.none w k (fun_left a b c d w m) })))

pub fun_apart : (p t a b : Ty) → p ≡ FunTy a b → ((c d : Ty) → t ≡ FunTy c d → ⊥) → (s u : TypeSubst) → IsAnswer (Matches p t) s u false
fun_apart p t a b e differ s u = refused (record { none = λ w k m. differ (instance_of w a) (instance_of w b) (sym m.is ∙ ap (λ q. instance_of w q) e) })

-- what an answer that holds says
pub least_of : {P : TypeSubst → Type 0} {s u : TypeSubst} → IsAnswer P s u true → IsLeast P s u
least_of (found l) = l

pub none_of : {P : TypeSubst → Type 0} {s u : TypeSubst} → IsAnswer P s u false → IsNone P s
none_of (refused n) = n

-- ---- types without parts

-- a type without parts and variables is only itself
pub ground_answer : (s : TypeStore) → TreesApart s → (p t : ℕ) → HasType s p → HasType s t → ((v : TypeSubst) → instance_of v (type_tree s p) ≡ type_tree s p) → variables_of (type_tree s p) ≡ [] → (σ : TypeSubst) (r : Truth) → r ≡ eqb p t
    → IsAnswer (Matches (type_tree s p) (type_tree s t)) σ σ r
ground_answer s apart p t has_p has_t fixed none σ true e =
    found (least_here (record { given = subst (λ ns. AllByRecursion (λ n. Gives σ n) ns) (sym none) tt; is = fixed σ ∙ ap (λ x. type_tree s x) (eqb_sound p t (sym e)) }))
ground_answer s apart p t has_p has_t fixed none σ false e =
    refused (record { none = λ v k m. eqb_complete p t (sym e) (apart p t has_p has_t (sym (fixed v) ∙ m.is)) })

-- a part that is done already is that type and no other
pub known_answer : (s : TypeStore) → TreesApart s → (σ : TypeSubst) (p u t : ℕ) → IsTypePart s σ p u → HasType s t → (r : Truth) → r ≡ eqb u t → IsAnswer (Matches (type_tree s p) (type_tree s t)) σ σ r
known_answer s apart σ p u t is has_t true e = found (least_here (subst (λ x. Matches (type_tree s p) (type_tree s x) σ) (eqb_sound u t (sym e)) is.is))
known_answer s apart σ p u t is has_t false e =
    refused (record { none = λ v k m. eqb_complete u t (sym e) (apart u t is.type has_t (sym (matches_kept k is.is).is ∙ m.is)) })

-- ---- variables

subst_tree_append : (s : TypeStore) (ps qs : List (ℕ × ℕ)) → subst_tree s (ps ++ qs) ≡ subst_tree s ps ++ subst_tree s qs
subst_tree_append s [] qs = refl
subst_tree_append s (p ∷ ps) qs = ap (λ r. (text_of s p.0, type_tree s p.1) ∷ r) (subst_tree_append s ps qs)

pub has_subst_append : (s : TypeStore) (ps : List (ℕ × ℕ)) (p : ℕ × ℕ) → HasSubst s ps → HasName s p.0 → HasType s p.1 → HasSubst s (ps ++ p ∷ [])
has_subst_append s [] p all n t = ((n, t), tt)
has_subst_append s (q ∷ ps) p all n t = (all.0, has_subst_append s ps p all.1 n t)

names_append : (ps : List (ℕ × ℕ)) (p : ℕ × ℕ) → map (λ q. q.0) (ps ++ p ∷ []) ≡ map (λ q. q.0) ps ++ p.0 ∷ []
names_append [] p = refl
names_append (q ∷ ps) p = ap (λ r. q.0 ∷ r) (names_append ps p)

-- a name that is given nothing doesn't stand in the list
name_absent : (n : ℕ) (ps : List (ℕ × ℕ)) → lookup (nat_eq n) ps ≡ None → Absent (map (λ q. q.0) ps) n
name_absent n [] h i at = none-some n at
name_absent n (p ∷ ps) h i at = by (eqb n p.0) refl h (λ k. name_absent n ps k) i at
  where
    by : (b : Truth) → eqb n p.0 ≡ b → cond b (Some p.1) (lookup (eqb n) ps) ≡ None → (lookup (eqb n) ps ≡ None → Absent (map (λ q. q.0) ps) n) → (j : ℕ) → slice_get (p.0 ∷ map (λ q. q.0) ps) j ≡ Some n → ⊥
    by true e k rest j here = none-some p.1 (sym k)
    by false e k rest zero here = eqb_complete n p.0 e (sym (same_Some p.0 n here))
    by false e k rest (suc j) here = rest k j here

-- ---- one more variable

extends_push : (σ : TypeSubst) (x : List ℕ) (ty : Ty) → Extends σ (σ ++ (x, ty) ∷ [])
extends_push σ x ty = record { same = λ m u h. lookup-left (bytes_eq m) σ ((x, ty) ∷ []) u h }

push_given : (σ : TypeSubst) (x : List ℕ) (ty : Ty) → lookup (bytes_eq x) σ ≡ None → lookup (bytes_eq x) (σ ++ (x, ty) ∷ []) ≡ Some ty
push_given σ x ty none = lookup-right (bytes_eq x) σ ((x, ty) ∷ []) none ∙ ap (λ b. cond b (Some ty) None) (text_eq_refl x)

push_last : (v : TypeSubst) (x m : List ℕ) (ty u : Ty) → lookup (bytes_eq x) v ≡ Some ty → (b : Truth) → bytes_eq m x ≡ b → cond b (Some ty) None ≡ Some u → lookup (bytes_eq m) v ≡ Some u
push_last v x m ty u here true e k = subst (λ y. lookup (bytes_eq y) v ≡ Some u) (sym (text_eq_sound m x e)) (here ∙ k)
push_last v x m ty u here false e k = absurd (none-some u k)

push_case : (σ v : TypeSubst) (x m : List ℕ) (ty u : Ty) → Extends σ v → lookup (bytes_eq x) v ≡ Some ty → (r : Option Ty) → lookup (bytes_eq m) σ ≡ r → lookup (bytes_eq m) (σ ++ (x, ty) ∷ []) ≡ Some u → lookup (bytes_eq m) v ≡ Some u
push_case σ v x m ty u extends here (Some w) e h =
    let k = lookup-left (bytes_eq m) σ ((x, ty) ∷ []) w e in
    extends.same m u (e ∙ sym k ∙ h)
push_case σ v x m ty u extends here None e h =
    push_last v x m ty u here (bytes_eq m x) refl (sym (lookup-right (bytes_eq m) σ ((x, ty) ∷ []) e) ∙ h)

push_least : (σ v : TypeSubst) (x : List ℕ) (ty : Ty) → Extends σ v → lookup (bytes_eq x) v ≡ Some ty → Extends (σ ++ (x, ty) ∷ []) v
push_least σ v x ty extends here = record { same = λ m u h. push_case σ v x m ty u extends here (lookup (bytes_eq m) σ) refl h }

-- a variable that is given a type is that type
var_matches : (x : List ℕ) (ty : Ty) (v : TypeSubst) → lookup (bytes_eq x) v ≡ Some ty → Matches (VarTy x) ty v
var_matches x ty v h = record { given = ((ty, h), tt); is = ap (λ r. unwrap_or r (VarTy x)) h }

var_given : (x : List ℕ) (ty : Ty) (v : TypeSubst) → Matches (VarTy x) ty v → lookup (bytes_eq x) v ≡ Some ty
var_given x ty v m =
    let e = sym (ap (λ r. unwrap_or r (VarTy x)) m.given.0.1) ∙ m.is in
    m.given.0.1 ∙ ap Some e

var_new : (σ : TypeSubst) (x : List ℕ) (ty : Ty) → lookup (bytes_eq x) σ ≡ None → IsLeast (Matches (VarTy x) ty) σ (σ ++ (x, ty) ∷ [])
var_new σ x ty none = record {
  extends = extends_push σ x ty;
  has = var_matches x ty (σ ++ (x, ty) ∷ []) (push_given σ x ty none);
  least = λ v e m. push_least σ v x ty e (var_given x ty v m);
}

module _ (s : TypeStore) (is : IsTypeStore s) (n t : ℕ) (name : HasName s n) (there : HasType s t) (ps : List (ℕ × ℕ)) (all : HasSubst s ps) where
  at_tree : (r : Option ℕ) → lookup (eqb n) ps ≡ r → lookup (bytes_eq (text_of s n)) (subst_tree s ps) ≡ option_map (λ u. type_tree s u) r
  at_tree r h = look_up s is n name ps all ∙ ap (λ q. option_map (λ u. type_tree s u) q) h

  variable_here : (r : Truth) (qs : List (ℕ × ℕ)) → IsGiven n t ps r qs → IsAnswer (Matches (VarTy (text_of s n)) (type_tree s t)) (subst_tree s ps) (subst_tree s qs) r
  variable_here _ _ (same h) = found (least_here (var_matches (text_of s n) (type_tree s t) (subst_tree s ps) (at_tree (Some t) h)))
  variable_here _ _ (other u h differ) =
      refused (record { none = λ v k m. differ (trees_apart s is u t (given_there s n ps all u h) there (same_Some (type_tree s u) (type_tree s t) (sym (k.same (text_of s n) (type_tree s u) (at_tree (Some u) h)) ∙ var_given (text_of s n) (type_tree s t) v m))) })
  variable_here _ _ (new h) =
      subst (λ q. IsAnswer (Matches (VarTy (text_of s n)) (type_tree s t)) (subst_tree s ps) q true) (sym (subst_tree_append s ps ((n, t) ∷ []))) (found (var_new (subst_tree s ps) (text_of s n) (type_tree s t) (at_tree None h)))

  pub variable_answer : (p : Ty) → p ≡ VarTy (text_of s n) → (r : Truth) (qs : List (ℕ × ℕ)) → IsGiven n t ps r qs → IsAnswer (Matches p (type_tree s t)) (subst_tree s ps) (subst_tree s qs) r
  variable_answer p e r qs g = subst (λ q. IsAnswer (Matches q (type_tree s t)) (subst_tree s ps) (subst_tree s qs) r) (sym e) (variable_here r qs g)

  pub variable_found : (r : Truth) (qs : List (ℕ × ℕ)) → IsGiven n t ps r qs → HasSubst s qs
  variable_found _ _ (same h) = all
  variable_found _ _ (other u h differ) = all
  variable_found _ _ (new h) = has_subst_append s ps (n, t) all name there

  pub variable_extends : (r : Truth) (qs : List (ℕ × ℕ)) → IsGiven n t ps r qs → Extends (subst_tree s ps) (subst_tree s qs)
  variable_extends _ _ (same h) = extends_refl (subst_tree s ps)
  variable_extends _ _ (other u h differ) = extends_refl (subst_tree s ps)
  variable_extends _ _ (new h) = subst (λ q. Extends (subst_tree s ps) q) (sym (subst_tree_append s ps ((n, t) ∷ []))) (extends_push (subst_tree s ps) (text_of s n) (type_tree s t))

pub variable_once : (n t : ℕ) (ps : List (ℕ × ℕ)) (r : Truth) (qs : List (ℕ × ℕ)) → IsGiven n t ps r qs → NamesOnce ps → NamesOnce qs
variable_once n t ps _ _ (same h) once = once
variable_once n t ps _ _ (other u h differ) once = once
variable_once n t ps _ _ (new h) once = record { names = subst (λ ns. Once ns) (sym (names_append ps (n, t))) (Once-push (map (λ q. q.0) ps) n once.names (name_absent n ps h)) }

-- ---- one part after the other

pub first_none : (s : TypeStore) (ps ts : List ℕ) (σ : TypeSubst) → IsLeast (MatchFirst s ps ts 0) σ σ
first_none s ps ts σ = least_here (record { each = λ i h. absurd (omega arith) })

first_split : (s : TypeStore) (ps ts : List ℕ) (k : ℕ) (v : TypeSubst) → MatchFirst s ps ts k v → Matches (type_tree s (get_or ps k 0)) (type_tree s (get_or ts k 0)) v → MatchFirst s ps ts (k + 1) v
first_split s ps ts k v first here = record { each = λ i below. split_at i (eqb i k) refl below }
  where
    split_at : (i : ℕ) (b : Truth) → eqb i k ≡ b → i < k + 1 → Matches (type_tree s (get_or ps i 0)) (type_tree s (get_or ts i 0)) v
    split_at i true e below = subst (λ j. Matches (type_tree s (get_or ps j 0)) (type_tree s (get_or ts j 0)) v) (sym (eqb_sound i k e)) here
    split_at i false e below = let differ : i ≡ k → ⊥ = eqb_complete i k e in first.each i (omega arith)

pub first_more : (s : TypeStore) (ps ts : List ℕ) (k : ℕ) (σ u v : TypeSubst) → IsLeast (MatchFirst s ps ts k) σ u → IsLeast (Matches (type_tree s (get_or ps k 0)) (type_tree s (get_or ts k 0))) u v → IsLeast (MatchFirst s ps ts (k + 1)) σ v
first_more s ps ts k σ u v first here =
    least_both (MatchFirst s ps ts k) (Matches (type_tree s (get_or ps k 0)) (type_tree s (get_or ts k 0))) (MatchFirst s ps ts (k + 1))
    (λ w x e m. record { each = λ i h. matches_kept e (m.each i h) })
    (λ w m n. first_split s ps ts k w m n)
    (λ w m. record { each = λ i h. m.each i (omega arith) })
    (λ w m. m.each k (omega arith))
    σ u v first here

pub first_refused : (s : TypeStore) (ps ts : List ℕ) (k n : ℕ) (σ u v : TypeSubst) → k < n → IsLeast (MatchFirst s ps ts k) σ u → IsNone (Matches (type_tree s (get_or ps k 0)) (type_tree s (get_or ts k 0))) u → IsAnswer (MatchFirst s ps ts n) σ v false
first_refused s ps ts k n σ u v below first here =
    refused (record { none = λ w e m. here.none w (first.least w e (record { each = λ i h. m.each i (omega arith) })) (m.each k below) })

-- ---- the arguments of constructors

each_to : (s : TypeStore) (v : TypeSubst) (ps ts : List ℕ) → length ps ≡ length ts → MatchFirst s ps ts (length ps) v → AllByRecursion (λ n. Gives v n) (variables_of_all (trees_at s ps)) × (instances_of v (trees_at s ps) ≡ trees_at s ts)
each_to s v [] [] e m = (tt, refl)
each_to s v [] (t ∷ ts) e m = absurd (omega arith)
each_to s v (p ∷ ps) [] e m = absurd (omega arith)
each_to s v (p ∷ ps) (t ∷ ts) e m =
    let first : Matches (type_tree s p) (type_tree s t) v = m.each 0 (omega arith) in
    let tail : MatchFirst s ps ts (length ps) v = record { each = λ i h. m.each (suc i) (omega arith) } in
    let rest = each_to s v ps ts (omega arith) tail in
    (All_append (λ n. Gives v n) (variables_of (type_tree s p)) (variables_of_all (trees_at s ps)) first.given rest.0, ap₂ more_types first.is rest.1)

each_from : (s : TypeStore) (v : TypeSubst) (ps ts : List ℕ) → AllByRecursion (λ n. Gives v n) (variables_of_all (trees_at s ps)) → instances_of v (trees_at s ps) ≡ trees_at s ts → (i : ℕ) → i < length ps → Matches (type_tree s (get_or ps i 0)) (type_tree s (get_or ts i 0)) v
each_from s v [] ts all e i below = absurd (omega arith)
each_from s v (p ∷ ps) [] all e i below = cc
each_from s v (p ∷ ps) (t ∷ ts) all e zero below =
    record { given = All_left (λ n. Gives v n) (variables_of (type_tree s p)) (variables_of_all (trees_at s ps)) all; is = cc }
each_from s v (p ∷ ps) (t ∷ ts) all e (suc i) below =
    let rest : instances_of v (trees_at s ps) ≡ trees_at s ts = cc in
    each_from s v ps ts (All_right (λ n. Gives v n) (variables_of (type_tree s p)) (variables_of_all (trees_at s ps)) all) rest i (omega arith)

module _ (s : TypeStore) (x : List ℕ) (ps ts : List ℕ) (same_length : length ps ≡ length ts) where
  cons_to : (v : TypeSubst) → MatchFirst s ps ts (length ps) v → Matches (ConsTy x (trees_at s ps)) (ConsTy x (trees_at s ts)) v
  cons_to v m = let k = each_to s v ps ts same_length m in record { given = k.0; is = ap (ConsTy x) k.1 }

  cons_from : (v : TypeSubst) → Matches (ConsTy x (trees_at s ps)) (ConsTy x (trees_at s ts)) v → MatchFirst s ps ts (length ps) v
  cons_from v m =
      let e = m.is in
      let rest : instances_of v (trees_at s ps) ≡ trees_at s ts = cc in
      record { each = λ i h. each_from s v ps ts m.given rest i h }

  cons_here : (σ τ : TypeSubst) (r : Truth) → IsAnswer (MatchFirst s ps ts (length ps)) σ τ r → IsAnswer (Matches (ConsTy x (trees_at s ps)) (ConsTy x (trees_at s ts))) σ τ r
  cons_here σ τ _ (found l) = found (record { extends = l.extends; has = cons_to τ l.has; least = λ v e m. l.least v e (cons_from v m) })
  cons_here σ τ _ (refused nothing) = refused (record { none = λ v e m. nothing.none v e (cons_from v m) })

  -- a constructor's arguments, each matched
  pub cons_answer : (p t : Ty) → p ≡ ConsTy x (trees_at s ps) → t ≡ ConsTy x (trees_at s ts) → (σ τ : TypeSubst) (r : Truth) → IsAnswer (MatchFirst s ps ts (length ps)) σ τ r → IsAnswer (Matches p t) σ τ r
  cons_answer p t e f σ τ r a = subst (λ q. IsAnswer (Matches q t) σ τ r) (sym e) (subst (λ q. IsAnswer (Matches (ConsTy x (trees_at s ps)) q) σ τ r) (sym f) (cons_here σ τ r a))

pub cons_apart : (p t : Ty) (x : List ℕ) (ps : Tys) → p ≡ ConsTy x ps → ((ts : Tys) → t ≡ ConsTy x ts → ⊥) → (s u : TypeSubst) → IsAnswer (Matches p t) s u false
cons_apart p t x ps e differ s u = refused (record { none = λ w k m. differ (instances_of w ps) (sym m.is ∙ ap (λ q. instance_of w q) e) })

-- ---- without the types of some variables

-- each name with the variable itself
themselves : List (List ℕ) → TypeSubst
themselves ns = map (λ n. (n, VarTy n)) ns

gives_either : (v u : TypeSubst) (n : List ℕ) → Gives u n → (r : Option Ty) → lookup (bytes_eq n) v ≡ r → Gives (v ++ u) n
gives_either v u n g (Some t) e = (t, lookup-left (bytes_eq n) v u t e)
gives_either v u n g None e = (g.0, lookup-right (bytes_eq n) v u e ∙ g.1)

gives_more : (n m : List ℕ) (ns : List (List ℕ)) → (b : Truth) → bytes_eq n m ≡ b → Gives (themselves ns) n → Gives (themselves (m ∷ ns)) n
unfolding themselves
gives_more n m ns true e g = (VarTy m, ap (λ b. cond b (Some (VarTy m)) (lookup (bytes_eq n) (themselves ns))) e)
gives_more n m ns false e g = (g.0, ap (λ b. cond b (Some (VarTy m)) (lookup (bytes_eq n) (themselves ns))) e ∙ g.1)

gives_all_more : (m : List ℕ) (ns ks : List (List ℕ)) → AllByRecursion (λ n. Gives (themselves ns) n) ks → AllByRecursion (λ n. Gives (themselves (m ∷ ns)) n) ks
gives_all_more m ns [] all = tt
gives_all_more m ns (k ∷ ks) all = (gives_more k m ns (bytes_eq k m) refl all.0, gives_all_more m ns ks all.1)

gives_themselves : (ns : List (List ℕ)) → AllByRecursion (λ n. Gives (themselves ns) n) ns
unfolding themselves
gives_themselves [] = tt
gives_themselves (n ∷ ns) = ((VarTy n, ap (λ b. cond b (Some (VarTy n)) (lookup (bytes_eq n) (themselves ns))) (text_eq_refl n)), gives_all_more n ns ns (gives_themselves ns))

gives_completed : (v u : TypeSubst) (ns : List (List ℕ)) → AllByRecursion (λ n. Gives u n) ns → AllByRecursion (λ n. Gives (v ++ u) n) ns
gives_completed v u [] all = tt
gives_completed v u (n ∷ ns) all = (gives_either v u n all.0 (lookup (bytes_eq n) v) refl, gives_completed v u ns all.1)

themselves_for : (ns : List (List ℕ)) (n : List ℕ) → type_for (themselves ns) n ≡ VarTy n
unfolding themselves
themselves_for [] n = refl
themselves_for (m ∷ ns) n = by (bytes_eq n m) refl (themselves_for ns n)
  where
    by : (b : Truth) → bytes_eq n m ≡ b → unwrap_or (lookup (bytes_eq n) (themselves ns)) (VarTy n) ≡ VarTy n → unwrap_or (cond b (Some (VarTy m)) (lookup (bytes_eq n) (themselves ns))) (VarTy n) ≡ VarTy n
    by true e r = ap VarTy (sym (text_eq_sound n m e))
    by false e r = r

completed_for : (v : TypeSubst) (ns : List (List ℕ)) (n : List ℕ) (r : Option Ty) → lookup (bytes_eq n) v ≡ r → type_for (v ++ themselves ns) n ≡ type_for v n
completed_for v ns n (Some t) e = ap (λ r. unwrap_or r (VarTy n)) (lookup-left (bytes_eq n) v (themselves ns) t e ∙ sym e)
completed_for v ns n None e = ap (λ r. unwrap_or r (VarTy n)) (lookup-right (bytes_eq n) v (themselves ns) e) ∙ themselves_for ns n ∙ sym (ap (λ r. unwrap_or r (VarTy n)) e)

mutual
  instance_alike : (u v : TypeSubst) → ((n : List ℕ) → type_for u n ≡ type_for v n) → (p : Ty) → instance_of u p ≡ instance_of v p
  instance_alike u v e BoolTy = refl
  instance_alike u v e IntTy = refl
  instance_alike u v e (VarTy n) = e n
  instance_alike u v e (FunTy a b) = ap₂ FunTy (instance_alike u v e a) (instance_alike u v e b)
  instance_alike u v e (ConsTy n ps) = ap (ConsTy n) (instances_alike u v e ps)

  instances_alike : (u v : TypeSubst) → ((n : List ℕ) → type_for u n ≡ type_for v n) → (ps : Tys) → instances_of u ps ≡ instances_of v ps
  instances_alike u v e no_types = refl
  instances_alike u v e (more_types p ps) = ap₂ more_types (instance_alike u v e p) (instances_alike u v e ps)

-- where no extension that gives each type variable makes the pattern the type, none does
pub never_from_none : (s : TypeSubst) (p t : Ty) → IsNone (Matches p t) s → NeverIs s p t
never_from_none s p t nothing = record {
  never = λ v e is.
      let u = themselves (variables_of p) in
      nothing.none (v ++ u)
      (record { same = λ n ty h. lookup-left (bytes_eq n) v u ty (e.same n ty h) })
      (record {
        given = gives_completed v u (variables_of p) (gives_themselves (variables_of p));
        is = instance_alike (v ++ u) v (λ n. completed_for v (variables_of p) n (lookup (bytes_eq n) v) refl) p ∙ is;
      });
}

-- ---- what the calls answer

-- a variable that has a type already
pub given_before : (n t u : ℕ) (ps : List (ℕ × ℕ)) → lookup (nat_eq n) ps ≡ Some u → (r : Truth) → r ≡ eqb u t → IsGiven n t ps r ps
given_before n t u ps h true e = same (h ∙ ap Some (eqb_sound u t (sym e)))
given_before n t u ps h false e = other u h (eqb_complete u t (sym e))

-- one more part that is done
pub done_put : (s : TypeStore) (σ : TypeSubst) (m n : Done) (p t : ℕ) → AllDone s σ m → ((q : ℕ) → get_by (nat_eq q) n ≡ cond (nat_eq p q) (Some t) (get_by (nat_eq q) m)) → IsTypePart s σ p t → AllDone s σ n
done_put s σ m n p t old puts here = record { each = λ q u h. split_at q u (eqb p q) refl (sym (puts q) ∙ h) }
  where
    split_at : (q u : ℕ) (b : Truth) → eqb p q ≡ b → cond b (Some t) (get_by (nat_eq q) m) ≡ Some u → IsTypePart s σ q u
    split_at q u true e f = subst (λ z. IsTypePart s σ z u) (eqb_sound p q e) (subst (λ z. IsTypePart s σ p z) (same_Some t u f) here)
    split_at q u false e f = old.each q u f

-- an answer by its test
pub least_when : {P : TypeSubst → Type 0} {s u : TypeSubst} {r : Truth} → r ≡ true → IsAnswer P s u r → IsLeast P s u
least_when {P} {s} {u} {r} e a = least_of (subst (λ b. IsAnswer P s u b) e a)

pub refused_when : {P : TypeSubst → Type 0} {s u : TypeSubst} {r : Truth} → r ≡ false → IsAnswer P s u r → IsAnswer P s u false
refused_when {P} {s} {u} {r} e a = subst (λ b. IsAnswer P s u b) e a

pub answer_when : {P : TypeSubst → Type 0} {s u : TypeSubst} → IsLeast P s u → IsAnswer P s u true
answer_when l = found l

-- with the same number of arguments
pub same_count : (a b : ℕ) (r : Option ℕ) → r ≡ Some a → r ≡ Some b → a ≡ b
same_count a b r e f = same_Some a b (sym e ∙ f)

-- a type that is Bool or Int is only itself
pub bool_answer : (s : TypeStore) → TreesApart s → (p t : ℕ) → HasType s p → HasType s t → type_tree s p ≡ BoolTy → (σ : TypeSubst) (r : Truth) → r ≡ eqb p t → IsAnswer (Matches (type_tree s p) (type_tree s t)) σ σ r
bool_answer s apart p t has_p has_t e σ r test = ground_answer s apart p t has_p has_t (λ v. ap (λ x. instance_of v x) e ∙ sym e) (ap (λ x. variables_of x) e) σ r test

pub int_answer : (s : TypeStore) → TreesApart s → (p t : ℕ) → HasType s p → HasType s t → type_tree s p ≡ IntTy → (σ : TypeSubst) (r : Truth) → r ≡ eqb p t → IsAnswer (Matches (type_tree s p) (type_tree s t)) σ σ r
int_answer s apart p t has_p has_t e σ r test = ground_answer s apart p t has_p has_t (λ v. ap (λ x. instance_of v x) e ∙ sym e) (ap (λ x. variables_of x) e) σ r test

-- an item within a list is the same whatever stands for those past its end
get_or_any : (xs : List ℕ) (i d e : ℕ) → i < length xs → get_or xs i d ≡ get_or xs i e
get_or_any xs i d e below = same_Some (get_or xs i d) (get_or xs i e) (sym (slice_get-get_or xs i d below) ∙ slice_get-get_or xs i e below)

module _ (s : TypeStore) (ps ts : List ℕ) (k p t : ℕ) (below : k < length ps) (count : length ps ≡ length ts) (at_p : p ≡ get_or ps k p) (at_t : t ≡ get_or ts k t) where
  this_p : get_or ps k 0 ≡ p
  this_p = get_or_any ps k 0 p below ∙ sym at_p

  this_t : get_or ts k 0 ≡ t
  this_t = get_or_any ts k 0 t (omega arith) ∙ sym at_t

  -- the next argument
  pub first_step : (σ u v : TypeSubst) → IsLeast (MatchFirst s ps ts k) σ u → IsLeast (Matches (type_tree s p) (type_tree s t)) u v → IsLeast (MatchFirst s ps ts (k + 1)) σ v
  first_step σ u v first here =
      first_more s ps ts k σ u v first
      (subst (λ x. IsLeast (Matches (type_tree s x) (type_tree s (get_or ts k 0))) u v) (sym this_p) (subst (λ y. IsLeast (Matches (type_tree s p) (type_tree s y)) u v) (sym this_t) here))

  pub first_stop : (σ u v : TypeSubst) → IsLeast (MatchFirst s ps ts k) σ u → IsAnswer (Matches (type_tree s p) (type_tree s t)) u v false → IsAnswer (MatchFirst s ps ts (length ps)) σ v false
  first_stop σ u v first here =
      first_refused s ps ts k (length ps) σ u v below first
      (subst (λ x. IsNone (Matches (type_tree s x) (type_tree s (get_or ts k 0))) u) (sym this_p) (subst (λ y. IsNone (Matches (type_tree s p) (type_tree s y)) u) (sym this_t) (none_of here)))
