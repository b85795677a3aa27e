-- Type variables that a substitution of types leaves as they are.
use Rattle.std.proofs.Common.{◌≡◌, ◌∙◌, ◌<◌, ◌+◌, ◌++◌, ◌∷◌, [], ap, ap₂, sym, subst, ℕ, List, length, get_or, below_more, ⊎_elim}
use Rattle.std.proofs.lemmas.Grind.{get_or_default_zero}
use Rattle.hol_types.specs.Ty.{Ty}
use Rattle.hol_types.specs.TypeStore.{TypeStore, HasType, TreesApart, type_tree}
use Rattle.hol_types.specs.TypeSubst.{TypeSubst, HasSubst, subst_tree, instance_of}
use Rattle.hol_terms.specs.Term.{Term}
use Rattle.hol_terms.specs.TermStore.{TermStore, Keeps}
use Rattle.hol_terms.specs.Substitution.{type_variables}
use Rattle.hol_terms.specs.Formula.{In, ChangesNone}
use Rattle.hol_terms.proofs.KeepsLemmas.{subst_same}
use Rattle.hol_terms.proofs.SetLemmas.{in_append_left, in_append_right, in_append_either}
use Rattle.hol_formulas.specs.Formulas.{trees, HasFormulas}
use Rattle.hol_formulas.specs.FoundTypes.{type_variables_in, IsVariableOf, HasVariable, AreTypeVariables, LeavesEach}
use Rattle.hol_formulas.proofs.ListLemmas.{In-from_Contains, Contains-from_In}
use Rattle.hol_formulas.proofs.GrowthLemmas.{trees_keep}

-- the types leave the tree of a number as it is
abbrev pub TypeStays : TypeStore → List (ℕ × ℕ) → ℕ → Type 0
TypeStays s ps t = instance_of (subst_tree s ps) (type_tree s t) ≡ type_tree s t

-- what was made of a type is that type exactly where it stays
pub type_stays_is : (s u : TermStore) → Keeps s u → TreesApart u.types → (ps : List (ℕ × ℕ)) (t r : ℕ) → HasType s.types t → HasType u.types r → type_tree u.types r ≡ instance_of (subst_tree s.types ps) (type_tree s.types t)
    → (r ≡ t → TypeStays s.types ps t) × (TypeStays s.types ps t → r ≡ t)
type_stays_is s u keeps apart ps t r there made tree =
    (λ e. sym tree ∙ ap (λ w. type_tree u.types w) e ∙ keeps.type_trees t there, λ same. apart r t made (keeps.types t there) (tree ∙ same ∙ sym (keeps.type_trees t there)))

-- in a store that went on
module _ {s u : TermStore} (keeps : Keeps s u) (ps : List (ℕ × ℕ)) (all : HasSubst s.types ps) (t : ℕ) (there : HasType s.types t) where
  both : instance_of (subst_tree u.types ps) (type_tree u.types t) ≡ instance_of (subst_tree s.types ps) (type_tree s.types t)
  both = ap₂ instance_of (subst_same keeps ps all) (keeps.type_trees t there)

  pub type_stayed_before : TypeStays u.types ps t → TypeStays s.types ps t
  type_stayed_before e = sym both ∙ e ∙ keeps.type_trees t there

  pub type_stays_after : TypeStays s.types ps t → TypeStays u.types ps t
  type_stays_after e = both ∙ e ∙ sym (keeps.type_trees t there)

module _ (s : TypeStore) (ps : List (ℕ × ℕ)) (ts : List ℕ) where
  -- each place of the list was looked at
  pub all_left : ((k : ℕ) → k < length ts → TypeStays s ps (get_or ts k 0)) → (names : List (List ℕ)) → AreTypeVariables s ts names → LeavesEach (subst_tree s ps) names
  all_left each names are n h =
      let v = are.each n h in
      let q = Contains-from_In ts v.type v.among in
      let place : get_or ts q.0 0 ≡ v.type = sym (get_or_default_zero ts q.0 v.type q.1) ∙ q.2 in
      let stays : TypeStays s ps v.type = subst (λ w. TypeStays s ps w) place (each q.0 q.1) in
      subst (λ (w : Ty). instance_of (subst_tree s ps) w ≡ w) v.is stays

  -- one of them is changed
  pub one_not_left : (k t : ℕ) → k < length ts → t ≡ get_or ts k t → (TypeStays s ps t → ⊥) → (names : List (List ℕ)) → AreTypeVariables s ts names → LeavesEach (subst_tree s ps) names → ⊥
  one_not_left k t below is changed names are leaves =
      let v = are.only t (In-from_Contains ts t (k, below, sym is)) in
      changed (subst (λ (w : Ty). instance_of (subst_tree s ps) w ≡ w) (sym v.is) (leaves v.name v.among))

  -- one place more was looked at
  pub left_more : (i t : ℕ) → i < length ts → t ≡ get_or ts i t → TypeStays s ps t → ((k : ℕ) → k < i → TypeStays s ps (get_or ts k 0)) → (k : ℕ) → k < i + 1 → TypeStays s ps (get_or ts k 0)
  left_more i t below is same before =
      let place : get_or ts i 0 ≡ t = sym (get_or_default_zero ts i t below) ∙ sym is in
      below_more (λ k. TypeStays s ps (get_or ts k 0)) i before (subst (λ w. TypeStays s ps w) (sym place) same)

-- ---- lists of formulas

pub changes_none_from : (σ : TypeSubst) (G : List Term) → LeavesEach σ (type_variables_in G) → ChangesNone σ G
changes_none_from σ [] h = tt
changes_none_from σ (g ∷ G) h = (λ n i. h n (in_append_left n (type_variables g) (type_variables_in G) i), changes_none_from σ G (λ n i. h n (in_append_right n (type_variables g) (type_variables_in G) i)))

pub leaves_from : (σ : TypeSubst) (G : List Term) → ChangesNone σ G → LeavesEach σ (type_variables_in G)
leaves_from σ [] h n i = absurd i
leaves_from σ (g ∷ G) h n i = ⊎_elim (λ (j : In n (type_variables g)). h.0 n j) (λ (j : In n (type_variables_in G)). leaves_from σ G h.1 n j) (in_append_either n (type_variables g) (type_variables_in G) i)

pub changes_none_both : (σ : TypeSubst) (G H : List Term) → ChangesNone σ G → ChangesNone σ H → ChangesNone σ (G ++ H)
changes_none_both σ [] H left right = right
changes_none_both σ (g ∷ G) H left right = (left.0, changes_none_both σ G H left.1 right)

pub changes_none_left : (σ : TypeSubst) (G H : List Term) → ChangesNone σ (G ++ H) → ChangesNone σ G
changes_none_left σ [] H all = tt
changes_none_left σ (g ∷ G) H all = (all.0, changes_none_left σ G H all.1)

pub changes_none_right : (σ : TypeSubst) (G H : List Term) → ChangesNone σ (G ++ H) → ChangesNone σ H
changes_none_right σ [] H all = all
changes_none_right σ (g ∷ G) H all = changes_none_right σ G H all.1

-- in a store that goes on
pub type_variables_keep : (s u : TermStore) → Keeps s u → (found ts : List ℕ) → HasFormulas s ts → AreTypeVariables s.types found (type_variables_in (trees s ts)) → AreTypeVariables u.types found (type_variables_in (trees u ts))
type_variables_keep s u keeps found ts all are = rw (trees_keep s u keeps ts all) (record { only = only; each = each })
  where
    names : List (List ℕ)
    names = type_variables_in (trees s ts)

    only : (t : ℕ) → In t found → IsVariableOf u.types (type_variables_in (trees s ts)) t
    only t h = let v = are.only t h in record { there = keeps.types t v.there; name = v.name; among = v.among; is = keeps.type_trees t v.there ∙ v.is }

    each : (n : List ℕ) → In n (type_variables_in (trees s ts)) → HasVariable u.types found n
    each n h = let v = are.each n h in record { type = v.type; among = v.among; is = keeps.type_trees v.type (are.only v.type v.among).there ∙ v.is }
