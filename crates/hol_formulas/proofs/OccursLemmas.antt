-- A variable that none of a list of formulas speaks of.
use Rattle.std.proofs.Common.{◌≡◌, ◌∙◌, ◌<◌, ◌+◌, ◌++◌, ◌∷◌, [], ⊎_elim, refl, ap, sym, subst, ℕ, List, Bool, true, false, cond, length, get_or, below_more}
use Rattle.std.proofs.lemmas.Grind.{get_or_default_zero}
use Rattle.hol_terms.specs.Term.{Term, FreeTm, BoundTm, ConstTm, NumTm, AppTm, LamTm}
use Rattle.hol_terms.specs.TermStore.{TermStore, term_tree}
use Rattle.hol_terms.specs.Substitution.{free_variables, IsClosed, IsFreeVariable}
use Rattle.hol_terms.specs.TermEq.{term_eq}
use Rattle.hol_terms.specs.Formula.{In, NotFreeIn, NotFreeInAny, without}
use Rattle.hol_terms.proofs.SetLemmas.{in_append_left, in_append_right, in_append_either, in_without, in_without_or}
use Rattle.hol_terms.proofs.QuantifierRules.{free_in_none, free_in_none_but, free_in_each}
use Rattle.hol_formulas.specs.Formulas.{trees}
use Rattle.hol_formulas.proofs.ListLemmas.{In-from_Contains, Contains-from_In}
use Rattle.hol_formulas.proofs.TreesLemmas.{in_trees, from_trees}

module _ (s : TermStore) (v : Term) (ts : List ℕ) where
  -- each place of the list was looked at
  pub absent_from : ((k : ℕ) → k < length ts → NotFreeIn v (term_tree s (get_or ts k 0))) → NotFreeInAny v (trees s ts)
  absent_from each = free_in_none v (trees s ts) none
    where
      none : (g : Term) → In g (trees s ts) → NotFreeIn v g
      none g h =
          let p = from_trees s g ts h in
          let q = Contains-from_In ts p.0 p.1 in
          let same : get_or ts q.0 0 ≡ p.0 = sym (get_or_default_zero ts q.0 p.0 q.1) ∙ q.2 in
          subst (λ w. NotFreeIn v w) (sym p.2) (subst (λ (t : ℕ). NotFreeIn v (term_tree s t)) same (each q.0 q.1))

  -- one of them speaks of it
  pub present_at : (k t : ℕ) → k < length ts → t ≡ get_or ts k t → In v (free_variables (term_tree s t)) → NotFreeInAny v (trees s ts) → ⊥
  present_at k t below is free none = free_in_each v (trees s ts) none (term_tree s t) (in_trees s t ts (In-from_Contains ts t (k, below, sym is))) free

-- two lists
pub absent_both : (v : Term) (G H : List Term) → NotFreeInAny v G → NotFreeInAny v H → NotFreeInAny v (G ++ H)
absent_both v G H left right = free_in_none v (G ++ H) (λ g h. ⊎_elim (λ (i : In g G). free_in_each v G left g i) (λ (i : In g H). free_in_each v H right g i) (in_append_either g G H h))

pub absent_left : (v : Term) (G H : List Term) → NotFreeInAny v (G ++ H) → NotFreeInAny v G
absent_left v G H all = free_in_none v G (λ g h. free_in_each v (G ++ H) all g (in_append_left g G H h))

pub absent_right : (v : Term) (G H : List Term) → NotFreeInAny v (G ++ H) → NotFreeInAny v H
absent_right v G H all = free_in_none v H (λ g h. free_in_each v (G ++ H) all g (in_append_right g G H h))

-- one place more was looked at
pub absent_more : (s : TermStore) (v : Term) (ts : List ℕ) (i t : ℕ) → i < length ts → t ≡ get_or ts i t → NotFreeIn v (term_tree s t)
    → ((k : ℕ) → k < i → NotFreeIn v (term_tree s (get_or ts k 0))) → (k : ℕ) → k < i + 1 → NotFreeIn v (term_tree s (get_or ts k 0))
absent_more s v ts i t below is absent before =
    let same : get_or ts i 0 ≡ t = sym (get_or_default_zero ts i t below) ∙ sym is in
    below_more (λ k. NotFreeIn v (term_tree s (get_or ts k 0))) i before (subst (λ u. NotFreeIn v (term_tree s u)) (sym same) absent)

-- ---- all but one formula

module _ (s : TermStore) (v u : Term) (ts : List ℕ) where
  -- each place of the list was looked at, but where the formula stands
  pub absent_but : ((k : ℕ) → k < length ts → (term_tree s (get_or ts k 0) ≡ u → ⊥) → NotFreeIn v (term_tree s (get_or ts k 0))) → NotFreeInAny v (without u (trees s ts))
  absent_but each = free_in_none_but v u (trees s ts) none
    where
      none : (g : Term) → In g (trees s ts) → (g ≡ u → ⊥) → NotFreeIn v g
      none g h other =
          let p = from_trees s g ts h in
          let q = Contains-from_In ts p.0 p.1 in
          let same : get_or ts q.0 0 ≡ p.0 = sym (get_or_default_zero ts q.0 p.0 q.1) ∙ q.2 in
          let is : term_tree s (get_or ts q.0 0) ≡ g = ap (λ (t : ℕ). term_tree s t) same ∙ sym p.2 in
          subst (λ w. NotFreeIn v w) is (each q.0 q.1 (λ e. other (sym is ∙ e)))

  -- one of the others speaks of it
  pub present_but : (k t : ℕ) → k < length ts → t ≡ get_or ts k t → (term_tree s t ≡ u → ⊥) → In v (free_variables (term_tree s t)) → NotFreeInAny v (without u (trees s ts)) → ⊥
  present_but k t below is other free none =
      let there = in_trees s t ts (In-from_Contains ts t (k, below, sym is)) in
      ⊎_elim other (λ (i : In (term_tree s t) (without u (trees s ts))). free_in_each v (without u (trees s ts)) none (term_tree s t) i free) (in_without_or u (term_tree s t) (trees s ts) there)

  -- one place more was looked at
  pub absent_but_more : (i t : ℕ) → i < length ts → t ≡ get_or ts i t → ((term_tree s t ≡ u → ⊥) → NotFreeIn v (term_tree s t))
      → ((k : ℕ) → k < i → (term_tree s (get_or ts k 0) ≡ u → ⊥) → NotFreeIn v (term_tree s (get_or ts k 0)))
      → (k : ℕ) → k < i + 1 → (term_tree s (get_or ts k 0) ≡ u → ⊥) → NotFreeIn v (term_tree s (get_or ts k 0))
  absent_but_more i t below is absent before =
      let same : get_or ts i 0 ≡ t = sym (get_or_default_zero ts i t below) ∙ sym is in
      below_more (λ k. (term_tree s (get_or ts k 0) ≡ u → ⊥) → NotFreeIn v (term_tree s (get_or ts k 0))) i before
      (subst (λ w. (term_tree s w ≡ u → ⊥) → NotFreeIn v (term_tree s w)) (sym same) absent)

-- fewer formulas
pub absent_but_one : (v u : Term) (G : List Term) → NotFreeInAny v G → NotFreeInAny v (without u G)
absent_but_one v u G all = free_in_none v (without u G) (λ g h. free_in_each v G all g (in_without u g G h))

-- a formula less of two lists
pub without_append : (t : Term) (G H : List Term) → without t (G ++ H) ≡ without t G ++ without t H
unfolding without
without_append t [] H = refl
without_append t (u ∷ G) H = by (without_append t G H) (term_eq u t)
  where
    by : without t (G ++ H) ≡ without t G ++ without t H → (b : Bool) → cond b (without t (G ++ H)) (u ∷ without t (G ++ H)) ≡ cond b (without t G) (u ∷ without t G) ++ without t H
    by rest true = rest
    by rest false = ap (λ K. u ∷ K) rest

module _ (v t : Term) (G H : List Term) where
  pub absent_both_but : NotFreeInAny v (without t G) → NotFreeInAny v (without t H) → NotFreeInAny v (without t (G ++ H))
  absent_both_but left right = subst (λ K. NotFreeInAny v K) (sym (without_append t G H)) (absent_both v (without t G) (without t H) left right)

  pub absent_left_but : NotFreeInAny v (without t (G ++ H)) → NotFreeInAny v (without t G)
  absent_left_but all = absent_left v (without t G) (without t H) (subst (λ K. NotFreeInAny v K) (without_append t G H) all)

  pub absent_right_but : NotFreeInAny v (without t (G ++ H)) → NotFreeInAny v (without t H)
  absent_right_but all = absent_right v (without t G) (without t H) (subst (λ K. NotFreeInAny v K) (without_append t G H) all)

-- ---- variables

-- a free variable has no loose Bound
pub variable_closed : (v : Term) → IsFreeVariable v → IsClosed v
variable_closed (FreeTm k n ty) is = tt
variable_closed (BoundTm i ty) is = absurd is
variable_closed (ConstTm n ty) is = tt
variable_closed (NumTm z) is = tt
variable_closed (AppTm f x) is = absurd is
variable_closed (LamTm ty b) is = absurd is
