-- Which type variables are given types, and the instance of a constant that its arguments give.
use Rattle.std.proofs.Common.{◌≡◌, Result, ap₂, ℕ, zero, suc, ◌+◌, ◌<◌, List, [], ◌∷◌, Some, None, Ok, Bool, true, false, ◌&&◌, is_some, drop, get_or, length, map, refl, sym, ap, subst, ◌∙◌, arith}
use Rattle.std.specs.Prelude.{bytes_eq}
use Rattle.std.specs.Map.{lookup}
use Rattle.std.specs.List.{AllByRecursion, list_all}
use Rattle.hol_types.specs.Ty.{Ty, Tys, BoolTy, IntTy, VarTy, FunTy, ConsTy}
use Rattle.hol_types.specs.TypeStore.{TypeStore, tree_of, trees_at, type_tree}
use Rattle.hol_types.specs.TypeSubst.{TypeSubst, instance_of, variables_of, variables_of_all}
use Rattle.hol_types.specs.TypeMatch.{Extends}
use Rattle.hol_types.specs.declared.node.TypeNode.{TypeNode}
use Rattle.hol_types.specs.declared.node.TypeNode.TheVariants as nodes
use Rattle.hol_terms.specs.Term.{Term, ConstTm, ty_of}
use Rattle.goal_text.specs.declared.fault.GoalKind.TheVariants.{IllTyped, FreeTypeVariable}
use Rattle.goal_text.specs.declared.fault.GoalFailure.{GoalFailure}
use Rattle.goal_text.specs.Read.{Read, Gives, faulty, wanting}
use Rattle.goal_text.specs.Forms.{Instance}
use Rattle.goal_text.specs.Terms.{apply_all, built}
use Rattle.goal_text.proofs.ReadLemmas.{gives_same}
use Rattle.goal_text.specs.Matching.{covers, instance_by, instance_for, match_parameters}
use Rattle.goal_text.proofs.MatchLemmas.{IsAlike, all_next, covers_alike, instance_alike}

-- ---- one type, by its parts

pub covers_none : (s : TypeSubst) (t u : Ty) → t ≡ u → variables_of u ≡ [] → covers s t ≡ true
covers_none s t u e none = ap (covers s) e ∙ ap (list_all (λ n. is_some (lookup (bytes_eq n) s))) none

pub covers_variable : (s : TypeSubst) (t : Ty) (n : List ℕ) → t ≡ VarTy n → covers s t ≡ is_some (lookup (bytes_eq n) s)
covers_variable s t n e = ap (covers s) e ∙ by (is_some (lookup (bytes_eq n) s)) refl
  where
    by : (b : Bool) → is_some (lookup (bytes_eq n) s) ≡ b → covers s (VarTy n) ≡ is_some (lookup (bytes_eq n) s)
    by true h = rw h refl
    by false h = rw h refl

pub covers_args : (s : TypeSubst) (t : Ty) (n : List ℕ) (ts : Tys) → t ≡ ConsTy n ts → covers s t ≡ list_all (λ m. is_some (lookup (bytes_eq m) s)) (variables_of_all ts)
covers_args s t n ts e = ap (covers s) e

-- the next of a list of types is given, or isn't
pub rest_given : (p : List ℕ → Bool) (s : TypeStore) (ts : List ℕ) (i t : ℕ) → i < length ts → t ≡ get_or ts i t → list_all p (variables_of (type_tree s t)) ≡ true
    → list_all p (variables_of_all (trees_at s (drop (i + 1) ts))) ≡ list_all p (variables_of_all (trees_at s (drop i ts)))
rest_given p s ts i t below is h = sym (all_next p s ts i t below is ∙ ap (λ b. b && list_all p (variables_of_all (trees_at s (drop (i + 1) ts)))) h)

pub not_given : (p : List ℕ → Bool) (s : TypeStore) (ts : List ℕ) (i t : ℕ) → i < length ts → t ≡ get_or ts i t → list_all p (variables_of (type_tree s t)) ≡ false
    → list_all p (variables_of_all (trees_at s (drop i ts))) ≡ false
not_given p s ts i t below is h = all_next p s ts i t below is ∙ ap (λ b. b && list_all p (variables_of_all (trees_at s (drop (i + 1) ts)))) h

-- a type in a list of smaller numbers
pub below_at : (top : ℕ) (ts : List ℕ) (i t : ℕ) → AllByRecursion (λ u. u < top) ts → i < length ts → t ≡ get_or ts i t → t < top
below_at top [] i t all h is = absurd (omega arith)
below_at top (u ∷ us) zero t all h is = subst (λ v. v < top) (sym is) all.0
below_at top (u ∷ us) (suc i) t all h is = below_at top us i t all.1 (omega arith) is

-- ---- the instance that arguments give

pub instance_none : (at head : ℕ) (name : List ℕ) (type : Ty) (ts : List Ty) → match_parameters [] type ts ≡ None → instance_for at head name type ts ≡ faulty IllTyped at
unfolding instance_for
instance_none at head name type ts h = ap (λ o. instance_by o at head name type) h

module _ (at head : ℕ) (name : List ℕ) (type : Ty) (ts : List Ty) (u s : TypeSubst) (found : match_parameters [] type ts ≡ Some u) (there : Extends u s) (back : Extends s u) where
  alike : IsAlike u s
  alike = record { there = there; back = back }

  pub instance_open : covers s type ≡ false → instance_for at head name type ts ≡ faulty FreeTypeVariable head
  unfolding instance_for
  instance_open h = ap (λ o. instance_by o at head name type) found ∙ ap (λ b. wanting b FreeTypeVariable head (Ok (ConstTm name (instance_of u type)))) (covers_alike u s alike type ∙ h)

  pub instance_found : covers s type ≡ true → instance_for at head name type ts ≡ Ok (ConstTm name (instance_of s type))
  unfolding instance_for
  instance_found h =
      ap (λ o. instance_by o at head name type) found ∙ ap (λ b. wanting b FreeTypeVariable head (Ok (ConstTm name (instance_of u type)))) (covers_alike u s alike type ∙ h)
      ∙ ap (λ t. Ok (ConstTm name t)) (instance_alike u s alike type)

-- ---- where the parameters end

parameters_end : (s : TypeSubst) (p : Ty) (ts : List Ty) → ((a b : Ty) → p ≡ FunTy a b → ⊥) → match_parameters s p ts ≡ Some s
unfolding match_parameters
parameters_end s BoolTy ts other = refl
parameters_end s IntTy ts other = refl
parameters_end s (VarTy n) ts other = refl
parameters_end s (FunTy a b) ts other = absurd (other a b refl)
parameters_end s (ConsTy n us) ts other = refl

node_other : (st : TypeStore) (n : TypeNode) → ((a b : ℕ) → n ≡ nodes.Fun a b → ⊥) → (a b : Ty) → tree_of st n ≡ FunTy a b → ⊥
node_other st (nodes.Fun x y) other a b h = other x y refl
node_other st nodes.Bool other a b h = cc
node_other st nodes.Int other a b h = cc
node_other st (nodes.Var m) other a b h = cc
node_other st (nodes.Cons m ts) other a b h = cc

pub no_parameters : (st : TypeStore) (n : TypeNode) (s : TypeSubst) (p : Ty) (ts : List Ty) → p ≡ tree_of st n → ((a b : ℕ) → n ≡ nodes.Fun a b → ⊥) → match_parameters s p ts ≡ Some s
no_parameters st n s p ts e other = parameters_end s p ts (λ a b h. node_other st n other a b (sym e ∙ h))

-- the constant at the instance, made from numbers
pub instance_given : {X : Type 0} (view : X → Term) (r : Result X GoalFailure) (at head : ℕ) (name late : List ℕ) (type made : Ty) (ts : List Ty) (u s : TypeSubst) → match_parameters [] type ts ≡ Some u → Extends u s → Extends s u → covers s type ≡ true
    → late ≡ name → made ≡ instance_of s type → Gives view r (Ok (ConstTm late made)) → Gives view r (instance_for at head name type ts)
instance_given view r at head name late type made ts u s found there back test same is h =
    let one : ◌≡◌ {A = Read Term} (Ok (ConstTm late made)) (Ok (ConstTm name (instance_of s type))) = ap₂ (λ n t. Ok (ConstTm n t)) same is in
    gives_same view r _ _ (one ∙ sym (instance_found at head name type ts u s found there back test)) h

-- the constant applied to its arguments
pub built_instance : (at head : ℕ) (name : List ℕ) (type : Ty) (xs : List Term) (f : Term) → instance_for at head name type (map ty_of xs) ≡ Ok f → built at (Instance head name type) xs ≡ apply_all at f xs
unfolding built
built_instance at head name type xs f h = rw h refl
