-- Applications, and bodies under variables.
use Rattle.std.proofs.Common.{◌≡◌, ℕ, zero, suc, ◌+◌, ◌<◌, List, [], ◌∷◌, Ok, Err, Bool, true, false, ◌&&◌, map, drop, take, get_or, length, refl, sym, ap, subst, ◌∙◌, arith}
use Rattle.hol_types.specs.Exact.{both_true}
use Rattle.hol_types.specs.Ty.{Ty, BoolTy, IntTy, VarTy, FunTy, ConsTy}
use Rattle.hol_types.specs.TyEq.{ty_eq}
use Rattle.hol_types.specs.TypeStore.{HasType, type_tree}
use Rattle.hol_types.proofs.TyEqLemmas.{ty_eq_sound, ty_eq_refl}
use Rattle.hol_terms.specs.Term.{Term, AppTm, ConstTm, LamTm, BoundsFit, Typed, ty_of, result_ty}
use Rattle.hol_terms.specs.TermStore.{TermStore, Applies, HasTerm, Keeps, term_tree}
use Rattle.goal_text.specs.declared.fault.GoalFault.{GoalFault}
use Rattle.goal_text.specs.declared.fault.GoalFailure.{GoalFailure}
use Rattle.goal_text.specs.declared.fault.GoalFailure.TheVariants as failures
use Rattle.goal_text.specs.declared.fault.GoalKind.TheVariants.{IllTyped}
use Rattle.goal_text.specs.declared.word.Binder.{Binder}
use Rattle.goal_text.specs.declared.word.Binder.TheVariants as binders
use Rattle.goal_text.specs.Read.{Read, Fails, faulty, wanting}
use Rattle.goal_text.specs.Names.{Binders}
use Rattle.goal_text.specs.Bounds.{FitsAll}
use Rattle.goal_text.specs.Operations.{fits_body, under, under_all}
use Rattle.goal_text.specs.Terms.{applied, apply_all, takes_all}
use Rattle.goal_text.specs.Scope.{AreBound, AreTerms, HasTyped, terms_at, binders_in}
use Rattle.goal_text.proofs.OperationLemmas.{fits_one, number_typed, same_item, terms_from, typed_kept}
use Rattle.goal_text.proofs.FitLemmas.{fits_under}
use Rattle.goal_text.proofs.KeptLemmas.{same_Ok}

-- ---- one application

takes_one : (t u : Ty) → takes_all t (u ∷ []) ≡ true → t ≡ FunTy u (result_ty t)
takes_one (FunTy a b) u h = let same = ty_eq_sound a u (both_true (ty_eq a u) true h).0 in ap (λ x. FunTy x b) same
takes_one BoolTy u h = absurd (no h)
  where
    no : false ≡ true → ⊥
    no e = cc
takes_one IntTy u h = absurd (no h)
  where
    no : false ≡ true → ⊥
    no e = cc
takes_one (VarTy n) u h = absurd (no h)
  where
    no : false ≡ true → ⊥
    no e = cc
takes_one (ConsTy n ts) u h = absurd (no h)
  where
    no : false ≡ true → ⊥
    no e = cc

does_take : (t u : Ty) → t ≡ FunTy u (result_ty t) → takes_all t (u ∷ []) ≡ true
does_take t u e = rw e (rw (ty_eq_refl u) refl)

pub apply_fits : (at : ℕ) (f x : Term) → ty_of f ≡ FunTy (ty_of x) (result_ty (ty_of f)) → apply_all at f (x ∷ []) ≡ Ok (AppTm f x)
unfolding apply_all
apply_fits at f x h = rw (does_take (ty_of f) (ty_of x) h) refl

pub apply_not : (at : ℕ) (f x : Term) → Typed f → Typed x → (Typed (AppTm f x) → ⊥) → apply_all at f (x ∷ []) ≡ faulty IllTyped at
unfolding apply_all
apply_not at f x g y h = by (takes_all (ty_of f) (ty_of x ∷ [])) refl
  where
    by : (b : Bool) → takes_all (ty_of f) (ty_of x ∷ []) ≡ b → wanting (takes_all (ty_of f) (ty_of x ∷ [])) IllTyped at (Ok (AppTm f x)) ≡ faulty IllTyped at
    by true e = absurd (h (g, y, takes_one (ty_of f) (ty_of x) e))
    by false e = rw e refl

-- ---- one after the other

takes_more : (t u : Ty) (us : List Ty) → takes_all t (u ∷ us) ≡ (takes_all t (u ∷ []) && takes_all (result_ty t) us)
takes_more (FunTy a b) u us = by (ty_eq a u)
  where
    by : (c : Bool) → (c && takes_all b us) ≡ ((c && true) && takes_all b us)
    by true = refl
    by false = refl
takes_more BoolTy u us = refl
takes_more IntTy u us = refl
takes_more (VarTy n) u us = refl
takes_more (ConsTy n ts) u us = refl

apply_step : (at : ℕ) (f g x : Term) (xs : List Term) → apply_all at f (x ∷ []) ≡ Ok g → apply_all at f (x ∷ xs) ≡ apply_all at g xs
unfolding apply_all
apply_step at f g x xs h = by (takes_all (ty_of f) (ty_of x ∷ [])) refl h
  where
    by : (b : Bool) → takes_all (ty_of f) (ty_of x ∷ []) ≡ b → wanting (takes_all (ty_of f) (ty_of x ∷ [])) IllTyped at (Ok (AppTm f x)) ≡ Ok g
        → wanting (takes_all (ty_of f) (ty_of x ∷ map ty_of xs)) IllTyped at (Ok (applied (AppTm f x) xs)) ≡ wanting (takes_all (ty_of g) (map ty_of xs)) IllTyped at (Ok (applied g xs))
    by true e k =
        let made : ◌≡◌ {A = Read Term} (Ok (AppTm f x)) (Ok g) = ap (λ b. wanting b IllTyped at (Ok (AppTm f x))) (sym e) ∙ k in
        let is = same_Ok (AppTm f x) g made in
        let more : takes_all (ty_of f) (ty_of x ∷ map ty_of xs) ≡ takes_all (result_ty (ty_of f)) (map ty_of xs) = takes_more (ty_of f) (ty_of x) (map ty_of xs) ∙ ap (λ b. b && takes_all (result_ty (ty_of f)) (map ty_of xs)) e in
        ap (λ b. wanting b IllTyped at (Ok (applied (AppTm f x) xs))) more ∙ ap (λ t. wanting (takes_all (ty_of t) (map ty_of xs)) IllTyped at (Ok (applied t xs))) is
    by false e k = absurd (bad (ap (λ b. wanting b IllTyped at (Ok (AppTm f x))) (sym e) ∙ k))
      where
        bad : ◌≡◌ {A = Read Term} (faulty IllTyped at) (Ok g) → ⊥
        bad i = cc

apply_stop : (at : ℕ) (f x : Term) (xs : List Term) (r : GoalFault) → apply_all at f (x ∷ []) ≡ Err r → apply_all at f (x ∷ xs) ≡ Err r
unfolding apply_all
apply_stop at f x xs r h = by (takes_all (ty_of f) (ty_of x ∷ [])) refl h
  where
    by : (b : Bool) → takes_all (ty_of f) (ty_of x ∷ []) ≡ b → wanting (takes_all (ty_of f) (ty_of x ∷ [])) IllTyped at (Ok (AppTm f x)) ≡ Err r
        → wanting (takes_all (ty_of f) (ty_of x ∷ map ty_of xs)) IllTyped at (Ok (applied (AppTm f x) xs)) ≡ Err r
    by true e k = absurd (bad (ap (λ b. wanting b IllTyped at (Ok (AppTm f x))) (sym e) ∙ k))
      where
        bad : ◌≡◌ {A = Read Term} (Ok (AppTm f x)) (Err r) → ⊥
        bad i = cc
    by false e k =
        let none : takes_all (ty_of f) (ty_of x ∷ map ty_of xs) ≡ false = takes_more (ty_of f) (ty_of x) (map ty_of xs) ∙ ap (λ b. b && takes_all (result_ty (ty_of f)) (map ty_of xs)) e in
        let fault : ◌≡◌ {A = Read Term} (faulty IllTyped at) (Err r) = ap (λ b. wanting b IllTyped at (Ok (AppTm f x))) (sym e) ∙ k in
        ap (λ b. wanting b IllTyped at (Ok (applied (AppTm f x) xs))) none ∙ fault

module _ (s now : TermStore) (k : Keeps s now) (at f : ℕ) (function : HasTerm s f) (ts : List ℕ) (all : AreTerms s ts) (total : Read Term) (t i x : ℕ) (below : i < length ts) (is : x ≡ get_or ts i x)
    (so_far : apply_all at (term_tree now t) (terms_at s (drop i ts)) ≡ total) where
  next_is : apply_all at (term_tree now t) (term_tree now x ∷ terms_at s (drop (i + 1) ts)) ≡ total
  next_is = ap (λ y. apply_all at (term_tree now t) (y ∷ terms_at s (drop (i + 1) ts))) (same_item s now now k f function ts all i x below is) ∙ ap (apply_all at (term_tree now t)) (sym (terms_from s ts i below)) ∙ so_far

  pub apply_next : (g : Term) → apply_all at (term_tree now t) (term_tree now x ∷ []) ≡ Ok g → apply_all at g (terms_at s (drop (i + 1) ts)) ≡ total
  apply_next g h = sym (apply_step at (term_tree now t) g (term_tree now x) (terms_at s (drop (i + 1) ts)) h) ∙ next_is

  pub apply_fails : (e : GoalFailure) → Fails e (apply_all at (term_tree now t) (term_tree now x ∷ [])) → Fails e total
  apply_fails failures.Memory h = tt
  apply_fails (failures.Refused r) h = sym next_is ∙ apply_stop at (term_tree now t) (term_tree now x) (terms_at s (drop (i + 1) ts)) r h

pub apply_done : (at : ℕ) (f : Term) → apply_all at f [] ≡ Ok f
unfolding apply_all
apply_done at f = refl

-- ---- bodies under variables

pub body_fits : (binder : Binder) (ty : Ty) (b : Term) → fits_body binder (ty_of b) ≡ true → fits_body binder (ty_of (under binder ty b)) ≡ true
body_fits binders.Forall ty b h = ty_eq_refl BoolTy
body_fits binders.Exists ty b h = ty_eq_refl BoolTy
body_fits binders.Lambda ty b h = refl

pub bounds_left : (own : Binders) (b : List ℕ × Ty) (binder : Binder) (p : Term) → FitsAll (b ∷ own) p 0 → FitsAll own (under binder b.1 p) 0
bounds_left own b binder p h = fits_under (b ∷ []) own binder p h

-- the innermost variable leaves
module _ (s : TermStore) (bs cs : List (List ℕ × ℕ)) (name : List ℕ) (ty left m : ℕ) (is : bs ≡ (name, ty) ∷ cs) (next : left ≡ m + 1) where
  one_less : left ≡ suc m
  one_less = omega (arith, next)

  pub variable_leaves : binders_in s (take left bs) ≡ (name, type_tree s.types ty) ∷ binders_in s (take m cs)
  variable_leaves = ap (λ n. binders_in s (take n bs)) one_less ∙ ap (λ l. binders_in s (take (suc m) l)) is

  pub outer_left : drop left bs ≡ drop m cs
  outer_left = ap (λ n. drop n bs) one_less ∙ ap (drop (suc m)) is

  pub variable_there : AreBound s bs → HasType s.types ty
  variable_there all = (subst (λ l. AreBound s l) is all).0

  pub others_there : AreBound s bs → AreBound s cs
  others_there all = (subst (λ l. AreBound s l) is all).1

  module _ (now : TermStore) (k : Keeps s now) (there : AreBound s bs) (binder : Binder) (p : Term) where
    pub innermost_fits : FitsAll (binders_in s (take left bs)) p 0 → BoundsFit p 0 (type_tree now.types ty)
    innermost_fits h =
        let here : BoundsFit p 0 (type_tree s.types ty) = (subst (λ l. FitsAll l p 0) variable_leaves h).0 in
        subst (λ t. BoundsFit p 0 t) (sym (k.type_trees ty (variable_there there))) here

    pub others_fit : FitsAll (binders_in s (take left bs)) p 0 → FitsAll (binders_in s (take m cs)) (under binder (type_tree now.types ty) p) 0
    others_fit h =
        let here : FitsAll (binders_in s (take m cs)) (under binder (type_tree s.types ty) p) 0 = bounds_left (binders_in s (take m cs)) (name, type_tree s.types ty) binder p (subst (λ l. FitsAll l p 0) variable_leaves h) in
        subst (λ t. FitsAll (binders_in s (take m cs)) (under binder t p) 0) (sym (k.type_trees ty (variable_there there))) here

    pub under_next : (total : Term) → under_all binder (binders_in s (take left bs)) p ≡ total → under_all binder (binders_in s (take m cs)) (under binder (type_tree now.types ty) p) ≡ total
    under_next total h =
        ap (λ t. under_all binder (binders_in s (take m cs)) (under binder t p)) (k.type_trees ty (variable_there there)) ∙ sym (ap (λ l. under_all binder l p) variable_leaves) ∙ h

-- ---- quantifiers

pub predicate_typed : (s two : TermStore) (ty body lambda : ℕ) → Keeps s two → HasType s.types ty → ty_eq BoolTy (ty_of (term_tree s body)) ≡ true → HasTerm two lambda → term_tree two lambda ≡ LamTm (type_tree s.types ty) (term_tree s body)
    → HasTyped two (FunTy (type_tree two.types ty) BoolTy) lambda
predicate_typed s two ty body lambda k there test has tree = record {
  there = has;
  type = ap ty_of tree ∙ ap (λ t. FunTy t (ty_of (term_tree s body))) (sym (k.type_trees ty there)) ∙ ap (FunTy (type_tree two.types ty)) (sym (ty_eq_sound BoolTy (ty_of (term_tree s body)) test));
}

pub quantifier_applies : (two three : TermStore) (name : List ℕ) (ty f lambda : ℕ) → Keeps two three → HasTyped two (FunTy (type_tree two.types ty) BoolTy) lambda → HasTerm three f
    → term_tree three f ≡ ConstTm name (FunTy (FunTy (type_tree two.types ty) BoolTy) BoolTy) → Applies three f lambda
quantifier_applies two three name ty f lambda k h there tree =
    fits_one three f lambda (FunTy (type_tree two.types ty) BoolTy) BoolTy (number_typed three f (ConstTm name (FunTy (FunTy (type_tree two.types ty) BoolTy) BoolTy)) there tree) (typed_kept k h)

pub nothing_left : (n : ℕ) (bs : List (List ℕ × ℕ)) → bs ≡ [] → drop n bs ≡ []
nothing_left zero bs e = e
nothing_left (suc n) bs e = ap (drop (suc n)) e
