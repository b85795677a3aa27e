-- Terms and formulas that types for type variables leave as they are.
use Rattle.std.proofs.Common.{◌≡◌, ◌∙◌, ◌<◌, ◌+◌, ◌++◌, ap, ap₂, sym, subst, ℕ, List, length, get_or, below_more, ⊎_elim}
use Rattle.std.proofs.lemmas.Grind.{get_or_default_zero}
use Rattle.hol_types.specs.TypeSubst.{TypeSubst, HasSubst, subst_tree}
use Rattle.hol_terms.specs.Term.{Term}
use Rattle.hol_terms.specs.Substitution.{subst_types}
use Rattle.hol_terms.specs.TermStore.{TermStore, HasTerm, TermsApart, Keeps, term_tree}
use Rattle.hol_terms.specs.Formula.{In, ChangesNone}
use Rattle.hol_terms.proofs.KeepsLemmas.{subst_same}
use Rattle.hol_terms.proofs.UnchangedTypes.{changes_none, each_unchanged}
use Rattle.hol_terms.proofs.SetLemmas.{in_append_either}
use Rattle.hol_formulas.specs.Formulas.{trees, HasFormulas}
use Rattle.hol_formulas.proofs.ListLemmas.{In-from_Contains, Contains-from_In}
use Rattle.hol_formulas.proofs.TreesLemmas.{in_trees, from_trees}

-- the types leave the tree of a number as it is
abbrev pub Stays : TermStore → List (ℕ × ℕ) → ℕ → Type 0
Stays s ps t = subst_types (subst_tree s.types ps) (term_tree s t) ≡ term_tree s t

-- in a store that went on
module _ {s u : TermStore} (keeps : Keeps s u) (ps : List (ℕ × ℕ)) (all : HasSubst s.types ps) (t : ℕ) (there : HasTerm s t) where
  both : subst_types (subst_tree u.types ps) (term_tree u t) ≡ subst_types (subst_tree s.types ps) (term_tree s t)
  both = ap₂ subst_types (subst_same keeps ps all) (keeps.trees t there)

  pub stayed_before : Stays u ps t → Stays s ps t
  stayed_before e = sym both ∙ e ∙ keeps.trees t there

  pub stays_after : Stays s ps t → Stays u ps t
  stays_after e = both ∙ e ∙ sym (keeps.trees t there)

module _ (s : TermStore) (ps : List (ℕ × ℕ)) (ts : List ℕ) where
  abbrev changes : TypeSubst
  changes = subst_tree s.types ps

  -- each place of the list was looked at
  pub none_changed : ((k : ℕ) → k < length ts → Stays s ps (get_or ts k 0)) → ChangesNone changes (trees s ts)
  none_changed each = changes_none changes (trees s ts) same
    where
      same : (g : Term) → In g (trees s ts) → subst_types changes g ≡ g
      same g h =
          let p = from_trees s g ts h in
          let q = Contains-from_In ts p.0 p.1 in
          let place : get_or ts q.0 0 ≡ p.0 = sym (get_or_default_zero ts q.0 p.0 q.1) ∙ q.2 in
          subst (λ w. subst_types changes w ≡ w) (ap (λ (t : ℕ). term_tree s t) place ∙ sym p.2) (each q.0 q.1)

  -- one of them is changed
  pub one_changed : (k t : ℕ) → k < length ts → t ≡ get_or ts k t → (Stays s ps t → ⊥) → ChangesNone changes (trees s ts) → ⊥
  one_changed k t below is changed none = changed (each_unchanged changes (trees s ts) none (term_tree s t) (in_trees s t ts (In-from_Contains ts t (k, below, sym is))))

  -- one place more was looked at
  pub unchanged_more : (i t : ℕ) → i < length ts → t ≡ get_or ts i t → Stays s ps t → ((k : ℕ) → k < i → Stays s ps (get_or ts k 0)) → (k : ℕ) → k < i + 1 → Stays s ps (get_or ts k 0)
  unchanged_more i t below is same before =
      let place : get_or ts i 0 ≡ t = sym (get_or_default_zero ts i t below) ∙ sym is in
      below_more (λ k. Stays s ps (get_or ts k 0)) i before (subst (λ w. Stays s ps w) (sym place) same)

-- two lists of formulas
pub formulas_append : (s : TermStore) (xs ys : List ℕ) → HasFormulas s xs → HasFormulas s ys → HasFormulas s (xs ++ ys)
formulas_append s xs ys left right = record { each = λ t h. ⊎_elim (λ (i : In t xs). left.each t i) (λ (i : In t ys). right.each t i) (in_append_either t xs ys h) }
