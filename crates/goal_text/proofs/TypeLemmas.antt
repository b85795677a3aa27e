-- Types made of types, and the reading of lists one part after the other.
use Rattle.std.proofs.Common.{◌≡◌, ℕ, List, [], ◌∷◌, ◌++◌, Ok, Err, refl, sym, ap, ◌∙◌}
use Rattle.hol_types.specs.Ty.{Ty, Tys, FunTy, no_types, more_types}
use Rattle.hol_types.specs.TypeStore.{HasType, type_tree, trees_at}
use Rattle.hol_terms.specs.TermStore.{TermStore, Keeps}
use Rattle.sexp.specs.Tree.{Tree, Trees, ListTree, no_trees, more_trees}
use Rattle.goal_text.specs.declared.fault.GoalFailure.{GoalFailure}
use Rattle.goal_text.specs.declared.fault.GoalFailure.TheVariants as failures
use Rattle.goal_text.specs.Read.{Read, ◌>>=◌, Fails}
use Rattle.goal_text.specs.Names.{Constructors}
use Rattle.goal_text.specs.Types.{TypeForm, Arrows, arrows, type_built, type_form, type_of, types_behind, types_of}
use Rattle.goal_text.specs.Scope.{AreTypes}

-- ---- numbers of types

pub types_same : {s u : TermStore} (ts : List ℕ) → Keeps s u → AreTypes s ts → trees_at u.types ts ≡ trees_at s.types ts
types_same [] k all = refl
types_same (t ∷ ts) k all = let e = k.type_trees t all.0 in let f = types_same ts k all.1 in rw (e, f) refl

pub types_kept : {s u : TermStore} (ts : List ℕ) → Keeps s u → AreTypes s ts → AreTypes u ts
types_kept [] k all = tt
types_kept (t ∷ ts) k all = (k.types t all.0, types_kept ts k all.1)

pub types_pushed : (s : TermStore) (ts : List ℕ) (t : ℕ) → AreTypes s ts → HasType s.types t → AreTypes s (ts ++ t ∷ [])
types_pushed s [] t all h = (h, tt)
types_pushed s (u ∷ us) t all h = (all.0, types_pushed s us t all.1 h)

pub types_split : (s : TermStore) (ts : List ℕ) (t : ℕ) → AreTypes s (ts ++ t ∷ []) → AreTypes s ts × HasType s.types t
types_split s [] t all = (tt, all.0)
types_split s (u ∷ us) t all = let more = types_split s us t all.1 in ((all.0, more.0), more.1)

-- ---- functions

-- functions from each of the types onto the last
abbrev pub onto : Tys → Ty → Ty
onto no_types t = t
onto (more_types u us) t = FunTy u (onto us t)

arrows_last : (s : TermStore) (u : Ty) (ts : List ℕ) (c : ℕ) → arrows u (trees_at s.types (ts ++ c ∷ [])) ≡ FunTy u (onto (trees_at s.types ts) (type_tree s.types c))
arrows_last s u [] c = refl
arrows_last s u (t ∷ ts) c = ap (FunTy u) (arrows_last s (type_tree s.types t) ts c)

pub built_last : (s : TermStore) (ts : List ℕ) (c : ℕ) → type_built Arrows (trees_at s.types (ts ++ c ∷ [])) ≡ onto (trees_at s.types ts) (type_tree s.types c)
unfolding type_built
built_last s [] c = refl
built_last s (t ∷ ts) c = arrows_last s (type_tree s.types t) ts c

pub onto_last : (s : TermStore) (ts : List ℕ) (a : ℕ) (x : Ty) → onto (trees_at s.types (ts ++ a ∷ [])) x ≡ onto (trees_at s.types ts) (FunTy (type_tree s.types a) x)
onto_last s [] a x = refl
onto_last s (t ∷ ts) a x = ap (FunTy (type_tree s.types t)) (onto_last s ts a x)

-- the last source, moved over
pub onto_step : (s u : TermStore) (total : Ty) (ts : List ℕ) (a c t : ℕ) → Keeps s u → AreTypes s ts → total ≡ onto (trees_at s.types (ts ++ a ∷ [])) (type_tree s.types c)
    → FunTy (type_tree s.types a) (type_tree s.types c) ≡ type_tree u.types t → total ≡ onto (trees_at u.types ts) (type_tree u.types t)
onto_step s u total ts a c t k all so_far made =
    so_far ∙ onto_last s ts a (type_tree s.types c) ∙ ap (onto (trees_at s.types ts)) made ∙ ap (λ us. onto us (type_tree u.types t)) (sym (types_same ts k all))

-- ---- reading

pub same_Ok : {A : Type 0} (x y : A) → ◌≡◌ {A = Read A} (Ok x) (Ok y) → x ≡ y
same_Ok x y h = cc

-- types and then others
abbrev pub joined : Tys → Tys → Tys
joined no_types us = us
joined (more_types t ts) us = more_types t (joined ts us)

joined_last : (s : TermStore) (ts : List ℕ) (t : ℕ) (us : Tys) → joined (trees_at s.types (ts ++ t ∷ [])) us ≡ joined (trees_at s.types ts) (more_types (type_tree s.types t) us)
joined_last s [] t us = refl
joined_last s (u ∷ ts) t us = ap (more_types (type_tree s.types u)) (joined_last s ts t us)

joined_none : (ts : Tys) → joined ts no_types ≡ ts
joined_none no_types = refl
joined_none (more_types t ts) = ap (more_types t) (joined_none ts)

-- the types read so far, and those still to read
abbrev pub with_types : Tys → Read Tys → Read Tys
with_types front read = read >>= λ us. Ok (joined front us)

regroup : (s : TermStore) (ts : List ℕ) (t : ℕ) (read : Read Tys) → with_types (trees_at s.types ts) (read >>= λ us. Ok (more_types (type_tree s.types t) us)) ≡ with_types (trees_at s.types (ts ++ t ∷ [])) read
regroup s ts t (Ok us) = ap Ok (sym (joined_last s ts t us))
regroup s ts t (Err e) = refl

module _ (cs : Constructors) (trees : Trees) (total : Read Tys) where
  pub types_step : (s u : TermStore) (ts : List ℕ) (tree : Tree) (rest : Trees) (t : ℕ) → Keeps s u → AreTypes s ts → with_types (trees_at s.types ts) (types_of cs trees) ≡ total
      → trees ≡ more_trees tree rest → type_of cs tree ≡ Ok (type_tree u.types t) → with_types (trees_at u.types (ts ++ t ∷ [])) (types_of cs rest) ≡ total
  unfolding types_of
  types_step s u ts tree rest t k all so_far e h =
      let one : with_types (trees_at u.types ts) (types_of cs (more_trees tree rest)) ≡ with_types (trees_at u.types (ts ++ t ∷ [])) (types_of cs rest) = rw h (regroup u ts t (types_of cs rest)) in
      sym one ∙ ap (λ l. with_types (trees_at u.types ts) (types_of cs l)) (sym e) ∙ ap (λ l. with_types l (types_of cs trees)) (types_same ts k all) ∙ so_far

  pub types_fail : (s : TermStore) (ts : List ℕ) (x : GoalFailure) (tree : Tree) (rest : Trees) → with_types (trees_at s.types ts) (types_of cs trees) ≡ total
      → trees ≡ more_trees tree rest → Fails x (type_of cs tree) → Fails x total
  unfolding types_of
  types_fail s ts failures.Memory tree rest so_far e h = tt
  types_fail s ts (failures.Refused f) tree rest so_far e h =
      let none : with_types (trees_at s.types ts) (types_of cs (more_trees tree rest)) ≡ Err f = rw h refl in
      sym so_far ∙ ap (λ l. with_types (trees_at s.types ts) (types_of cs l)) e ∙ none

  pub types_done : (s : TermStore) (ts : List ℕ) → with_types (trees_at s.types ts) (types_of cs trees) ≡ total → trees ≡ no_trees → total ≡ Ok (trees_at s.types ts)
  unfolding types_of
  types_done s ts so_far e = sym so_far ∙ ap (λ l. with_types (trees_at s.types ts) (types_of cs l)) e ∙ ap Ok (joined_none (trees_at s.types ts))

-- a list, entered and its types read
module _ (cs : Constructors) (tree : Tree) (at : ℕ) (parts rest : Trees) (is : tree ≡ ListTree at parts) where
  pub list_refused : (x : GoalFailure) → Fails x (type_form cs at parts) → Fails x (type_of cs tree)
  unfolding type_of
  list_refused failures.Memory h = tt
  list_refused (failures.Refused f) h = rw (is, h) refl

  module _ (form : TypeForm) (entered : type_form cs at parts ≡ Ok form) (behind : types_behind cs parts ≡ types_of cs rest) where
    pub parts_refused : (x : GoalFailure) → Fails x (types_of cs rest) → Fails x (type_of cs tree)
    unfolding type_of
    parts_refused failures.Memory h = tt
    parts_refused (failures.Refused f) h = rw (is, entered, behind, h) refl

    pub list_read : (ts : Tys) → types_of cs rest ≡ Ok ts → type_of cs tree ≡ Ok (type_built form ts)
    unfolding type_of
    list_read ts h = rw (is, entered, behind, h) refl
