-- What instances need of a store that goes on.
use Rattle.std.proofs.Common.{◌≡◌, ℕ, ◌<◌, get_or, List, [], ◌∷◌, ◌++◌, length, Some, None, cond, Bool as Truth, true, false, refl, sym, ap, ◌∙◌, subst, arith, unwrap_or, option_map, nat_eq, length-append, zero, suc, bytes_eq}
use Rattle.std.specs.List.{AllByRecursion}
use Rattle.std.specs.Map.{lookup}
use Rattle.std.specs.HashMap.{get_by}
use Rattle.std.proofs.Math.Dec.{eqb}
use Rattle.std.proofs.lemmas.Bool.Decides.{same_from_decides, Decides-eqb}
use Rattle.std.proofs.lemmas.Slice.Eq.{bytes_eq-Decides}
use Rattle.std.proofs.lemmas.Option.{none-some, same_Some}
use Rattle.hol_types.specs.Ty.{Ty, Tys, VarTy, no_types, more_types}
use Rattle.hol_types.specs.TypeStore.{TypeStore, IsTypeStore, HasName, HasType, type_tree, text_of, trees_at}
use Rattle.hol_types.specs.KeepsTypes.{KeepsTypes}
use Rattle.hol_types.specs.TypeSubst.{TypeSubst, HasSubst, subst_tree, type_for, instance_of, instances_of}
use Rattle.hol_types.specs.Instance.{AreInstances, IsTypeInstance, AllTypeInstances, Made}
use Rattle.hol_types.proofs.TypeLemmas.{names_apart, eqb_sound}

-- a substitution stays, and stands for what it stood for
pub has_subst_kept : (s u : TypeStore) → KeepsTypes s u → (ps : List (ℕ × ℕ)) → HasSubst s ps → HasSubst u ps
has_subst_kept s u keeps [] all = tt
has_subst_kept s u keeps (p ∷ ps) all = ((keeps.names p.0 all.0.0, keeps.types p.1 all.0.1), has_subst_kept s u keeps ps all.1)

pub subst_tree_kept : (s u : TypeStore) → KeepsTypes s u → (ps : List (ℕ × ℕ)) → HasSubst s ps → subst_tree u ps ≡ subst_tree s ps
subst_tree_kept s u keeps [] all = refl
subst_tree_kept s u keeps (p ∷ ps) all =
    let e = keeps.texts p.0 all.0.0 in
    let f = keeps.trees p.1 all.0.1 in
    let r = subst_tree_kept s u keeps ps all.1 in
    λ i. (e i, f i) ∷ r i

pub given_there : (s : TypeStore) (n : ℕ) (ps : List (ℕ × ℕ)) → HasSubst s ps → (u : ℕ) → lookup (eqb n) ps ≡ Some u → HasType s u
given_there s n [] all u h = absurd (none-some u h)
given_there s n (p ∷ ps) all u h = by (eqb n p.0) h (given_there s n ps all.1 u)
  where
    by : (b : Truth) → cond b (Some p.1) (lookup (eqb n) ps) ≡ Some u → (lookup (eqb n) ps ≡ Some u → HasType s u) → HasType s u
    by true k rest = subst (λ v. HasType s v) (same_Some p.1 u k) all.0.1
    by false k rest = rest k

-- names are kept once: a text is another's exactly where the number is
same_test : (s : TypeStore) → IsTypeStore s → (n m : ℕ) → HasName s n → HasName s m → bytes_eq (text_of s n) (text_of s m) ≡ eqb n m
same_test s is n m here there =
    let texts = bytes_eq-Decides (text_of s n) (text_of s m) in
    let numbers = Decides-eqb n m in
    same_from_decides (bytes_eq (text_of s n) (text_of s m)) (eqb n m)
    (λ h. names_apart s is n m here there (texts.0 h), λ e. texts.1 (ap (λ k. text_of s k) e))
    numbers

-- so looking up by text is looking up by number
pub look_up : (s : TypeStore) → IsTypeStore s → (n : ℕ) → HasName s n → (ps : List (ℕ × ℕ)) → HasSubst s ps → lookup (bytes_eq (text_of s n)) (subst_tree s ps) ≡ option_map (λ t. type_tree s t) (lookup (eqb n) ps)
look_up s is n here [] all = refl
look_up s is n here (p ∷ ps) all = ap (λ b. cond b (Some (type_tree s p.1)) (lookup (bytes_eq (text_of s n)) (subst_tree s ps))) (same_test s is n p.0 here all.0.0) ∙ by (eqb n p.0) (look_up s is n here ps all.1)
  where
    by : (b : Truth) → lookup (bytes_eq (text_of s n)) (subst_tree s ps) ≡ option_map (λ t. type_tree s t) (lookup (eqb n) ps)
        → cond b (Some (type_tree s p.1)) (lookup (bytes_eq (text_of s n)) (subst_tree s ps)) ≡ option_map (λ t. type_tree s t) (cond b (Some p.1) (lookup (eqb n) ps))
    by true r = refl
    by false r = r

-- what is given for a name
pub given_tree : (s : TypeStore) → IsTypeStore s → (n : ℕ) → HasName s n → (ps : List (ℕ × ℕ)) → HasSubst s ps → (u : ℕ) → lookup (eqb n) ps ≡ Some u → type_for (subst_tree s ps) (text_of s n) ≡ type_tree s u
given_tree s is n here ps all u h = ap (λ r. unwrap_or r (VarTy (text_of s n))) (look_up s is n here ps all ∙ ap (λ r. option_map (λ t. type_tree s t) r) h)

pub not_given_tree : (s : TypeStore) → IsTypeStore s → (n : ℕ) → HasName s n → (ps : List (ℕ × ℕ)) → HasSubst s ps → lookup (eqb n) ps ≡ None → type_for (subst_tree s ps) (text_of s n) ≡ VarTy (text_of s n)
not_given_tree s is n here ps all h = ap (λ r. unwrap_or r (VarTy (text_of s n))) (look_up s is n here ps all ∙ ap (λ r. option_map (λ t. type_tree s t) r) h)

push : Tys → Ty → Tys
push no_types t = more_types t no_types
push (more_types x xs) t = more_types x (push xs t)

trees_at-push : (s : TypeStore) (us : List ℕ) (u : ℕ) → trees_at s (us ++ u ∷ []) ≡ push (trees_at s us) (type_tree s u)
unfolding push
trees_at-push s [] u = refl
trees_at-push s (x ∷ us) u = ap (λ r. more_types (type_tree s x) r) (trees_at-push s us u)

instances_of-push : (σ : TypeSubst) (ts : Tys) (t : Ty) → instances_of σ (push ts t) ≡ push (instances_of σ ts) (instance_of σ t)
unfolding push
instances_of-push σ no_types t = refl
instances_of-push σ (more_types x ts) t = ap (λ r. more_types (instance_of σ x) r) (instances_of-push σ ts t)

trees_at-kept : (s u : TypeStore) → KeepsTypes s u → (ts : List ℕ) → AllByRecursion (λ t. HasType s t) ts → trees_at u ts ≡ trees_at s ts
trees_at-kept s u keeps [] all = refl
trees_at-kept s u keeps (t ∷ ts) all = let e = keeps.trees t all.0 in let r = trees_at-kept s u keeps ts all.1 in cc

All-kept : (s u : TypeStore) → KeepsTypes s u → (ts : List ℕ) → AllByRecursion (λ t. HasType s t) ts → AllByRecursion (λ t. HasType u t) ts
All-kept s u keeps [] all = tt
All-kept s u keeps (t ∷ ts) all = (keeps.types t all.0, All-kept s u keeps ts all.1)

All-push : (s : TypeStore) (us : List ℕ) (u : ℕ) → AllByRecursion (λ t. HasType s t) us → HasType s u → AllByRecursion (λ t. HasType s t) (us ++ u ∷ [])
All-push s [] u all h = (h, tt)
All-push s (x ∷ us) u all h = (all.0, All-push s us u all.1 h)

pub one_more : (σ : TypeSubst) (old now new : TypeStore) (done us : List ℕ) (t u : ℕ) → KeepsTypes old now → KeepsTypes now new → HasType old t → AreInstances σ old now done us → HasType new u
    → type_tree new u ≡ instance_of σ (type_tree now t) → AreInstances σ old new (done ++ t ∷ []) (us ++ u ∷ [])
one_more σ old now new done us t u before after has_t is there tree =
    let e = trees_at-kept now new after us is.there ∙ is.trees in
    let f = tree ∙ ap (λ x. instance_of σ x) (before.trees t has_t) in
    record {
      there = All-push new us u (All-kept now new after us is.there) there;
      count = omega (arith, is.count, length-append us (u ∷ []), length-append done (t ∷ []));
      trees = trees_at-push new us u ∙ (λ i. push (e i) (f i)) ∙ sym (ap (λ x. instances_of σ x) (trees_at-push old done t) ∙ instances_of-push σ (trees_at old done) (type_tree old t));
    }

pub all_at : (P : ℕ → Type 0) (ts : List ℕ) → AllByRecursion P ts → (i d : ℕ) → i < length ts → P (get_or ts i d)
all_at P [] all i d below = absurd (omega arith)
all_at P (t ∷ ts) all zero d below = all.0
all_at P (t ∷ ts) all (suc i) d below = all_at P ts all.1 i d (omega arith)

-- ---- what is remembered

pub type_instances_kept : {s u : TypeStore} {ps : List (ℕ × ℕ)} {m : Made} → KeepsTypes s u → HasSubst s ps → AllTypeInstances s ps m → AllTypeInstances u ps m
type_instances_kept {s} {u} {ps} {m} keeps subst all = record {
  each = λ t r h.
      let is = all.each t r h in
      let same = subst_tree_kept s u keeps ps subst in
      record {
        there = keeps.types t is.there;
        made = keeps.types r is.made;
        tree = keeps.trees r is.made ∙ is.tree ∙ (λ i. instance_of (sym same i) (sym (keeps.trees t is.there) i));
      };
}

-- one more
pub type_instances_put : (s : TypeStore) (ps : List (ℕ × ℕ)) (m n : Made) (t r : ℕ) → AllTypeInstances s ps m → ((q : ℕ) → get_by (nat_eq q) n ≡ cond (nat_eq t q) (Some r) (get_by (nat_eq q) m)) → IsTypeInstance s ps t r → AllTypeInstances s ps n
type_instances_put s ps m n t r old puts here = record { each = λ q u h. by q u (eqb t q) refl (sym (puts q) ∙ h) }
  where
    by : (q u : ℕ) (b : Truth) → eqb t q ≡ b → cond b (Some r) (get_by (nat_eq q) m) ≡ Some u → IsTypeInstance s ps q u
    by q u true e f = subst (λ z. IsTypeInstance s ps z u) (eqb_sound t q e) (subst (λ z. IsTypeInstance s ps t z) (same_Some r u f) here)
    by q u false e f = old.each q u f
