-- A walk that finds the free variables of terms.
use Rattle.std.proofs.Common.{◌≡◌, ◌∙◌, ◌++◌, ◌∷◌, [], ◌⊎◌, ⊎_elim, ◌<◌, ◌+◌, refl, ap, sym, subst, ℕ, List, Bool, true, false, cond, inl, inr, length, get_or, below_more}
use Rattle.std.specs.Prelude.{nat_eq}
use Rattle.std.specs.HashSet.{HashSet, contains}
use Rattle.std.specs.declared.hash.FoldHasher.{FoldHasher}
use Rattle.std.specs.declared.hash.BuildHasherDefault.{BuildHasherDefault}
use Rattle.std.proofs.Math.Dec.{eqb}
use Rattle.std.proofs.lemmas.List.{append-nil, append_assoc}
use Rattle.std.proofs.lemmas.Grind.{get_or_default_zero}
use Rattle.hol_types.specs.Ty.{Ty}
use Rattle.hol_types.proofs.TypeLemmas.{eqb_sound}
use Rattle.hol_terms.specs.declared.node.FreeKind.{FreeKind}
use Rattle.hol_terms.specs.Term.{Term, FreeTm, AppTm, LamTm}
use Rattle.hol_terms.specs.TermStore.{TermStore, HasTerm, Keeps, TermsApart, term_tree}
use Rattle.hol_terms.specs.Substitution.{free_variables}
use Rattle.hol_terms.specs.Deep.{IsPartOf}
use Rattle.hol_terms.specs.Formula.{In, NotFreeIn, NotFreeInAny}
use Rattle.hol_terms.proofs.DeepLemmas.{free_in_part}
use Rattle.hol_terms.proofs.SetLemmas.{in_append_left, in_append_right, in_append_either}
use Rattle.hol_formulas.specs.Formulas.{trees, HasFormulas}
use Rattle.hol_formulas.specs.Found.{variables_in, AreAmong, AreVariables, Finds, AllFound, Adds}
use Rattle.hol_formulas.proofs.ListLemmas.{Contains-from_In}
use Rattle.hol_terms.proofs.QuantifierRules.{free_in_none, free_in_each}
use Rattle.hol_formulas.proofs.TreesLemmas.{in_trees, from_trees, trees_within}
use Rattle.hol_formulas.proofs.GrowthLemmas.{trees_keep}

module _ (s : TermStore) where
  -- what was found stays found
  pub finds_kept : (old new : List ℕ) (t u : Term) → Adds s old new u → Finds s old t → Finds s new t
  finds_kept old new t u adds finds = record { each = λ v h. subst (λ vs. In v (trees s vs)) (sym adds.is) (trees_within s old (old ++ adds.added) (λ n i. in_append_left n old adds.added i) v (finds.each v h)) }

  pub all_found_kept : (old new : List ℕ) (u : Term) (parts : HashSet ℕ (BuildHasherDefault FoldHasher)) → Adds s old new u → AllFound s old parts → AllFound s new parts
  all_found_kept old new u parts adds all = record { each = λ t h. finds_kept old new (term_tree s t) u adds (all.each t h) }

  -- nothing is added
  pub adds_none : (old : List ℕ) (t : Term) → Adds s old old t
  adds_none old t = record { added = []; is = sym (append-nil old); there = λ v h. absurd h; only = λ v h. absurd h }

  -- one part more
  pub found_put : (vars : List ℕ) (m n : HashSet ℕ (BuildHasherDefault FoldHasher)) (t : ℕ) → AllFound s vars m → ((q : ℕ) → contains nat_eq n q ≡ cond (nat_eq t q) true (contains nat_eq m q)) → Finds s vars (term_tree s t) → AllFound s vars n
  found_put vars m n t old puts here = record { each = λ q h. by q (eqb t q) refl (sym (puts q) ∙ h) }
    where
      by : (q : ℕ) (b : Bool) → eqb t q ≡ b → cond b true (contains nat_eq m q) ≡ true → Finds s vars (term_tree s q)
      by q true e f = subst (λ z. Finds s vars (term_tree s z)) (eqb_sound t q e) here
      by q false e f = old.each q f

  -- a term without free variables
  pub finds_nothing : (vars : List ℕ) (t : Term) → free_variables t ≡ [] → Finds s vars t
  finds_nothing vars t none = record { each = λ u h. absurd (subst (λ us. In u us) none h) }

  -- a free variable
  module _ (old new : List ℕ) (t : ℕ) (k : FreeKind) (n : List ℕ) (ty : Ty) (is : term_tree s t ≡ FreeTm k n ty) (grown : new ≡ old ++ t ∷ []) where
    alone : free_variables (term_tree s t) ≡ term_tree s t ∷ []
    alone = ap (λ w. free_variables w) is ∙ ap (λ w. w ∷ []) (sym is)

    pub finds_free : Finds s new (term_tree s t)
    finds_free = record { each = λ u h. ⊎_elim (λ (e : u ≡ term_tree s t). subst (λ w. In w (trees s new)) (sym e) here) (λ i. absurd i) (subst (λ us. In u us) alone h) }
      where
        here : In (term_tree s t) (trees s new)
        here = in_trees s t new (subst (λ vs. In t vs) (sym grown) (in_append_right t old (t ∷ []) (inl refl)))

    pub adds_free : HasTerm s t → Adds s old new (term_tree s t)
    adds_free there = record {
      added = t ∷ [];
      is = grown;
      there = λ v h. ⊎_elim (λ (e : v ≡ t). subst (λ w. HasTerm s w) (sym e) there) (λ i. absurd i) h;
      only = λ v h. ⊎_elim (λ (e : v ≡ t). subst (λ w. In (term_tree s w) (free_variables (term_tree s t))) (sym e) (subst (λ us. In (term_tree s t) us) (sym alone) (inl refl))) (λ i. absurd i) h;
    }

  -- an application
  module _ (old mid new : List ℕ) (f x : Term) where
    pub finds_app : Adds s mid new x → Finds s mid f → Finds s new x → Finds s new (AppTm f x)
    finds_app adds left right = record { each = λ u h. ⊎_elim (λ (i : In u (free_variables f)). (finds_kept mid new f x adds left).each u i) (λ (i : In u (free_variables x)). right.each u i) (in_append_either u (free_variables f) (free_variables x) h) }

    pub adds_app : Adds s old mid f → Adds s mid new x → Adds s old new (AppTm f x)
    adds_app a b = record {
      added = a.added ++ b.added;
      is = b.is ∙ ap (λ vs. vs ++ b.added) a.is ∙ append_assoc old a.added b.added;
      there = λ v h. ⊎_elim (λ (i : In v a.added). a.there v i) (λ (i : In v b.added). b.there v i) (in_append_either v a.added b.added h);
      only = λ v h. ⊎_elim (λ (i : In v a.added). in_append_left (term_tree s v) (free_variables f) (free_variables x) (a.only v i)) (λ (i : In v b.added). in_append_right (term_tree s v) (free_variables f) (free_variables x) (b.only v i)) (in_append_either v a.added b.added h);
    }

  -- a lambda
  pub finds_lam : (vars : List ℕ) (ty : Ty) (b : Term) → Finds s vars b → Finds s vars (LamTm ty b)
  finds_lam vars ty b finds = record { each = finds.each }

  pub adds_lam : (old new : List ℕ) (ty : Ty) (b : Term) → Adds s old new b → Adds s old new (LamTm ty b)
  adds_lam old new ty b a = record { added = a.added; is = a.is; there = a.there; only = a.only }

-- what was added by a part, and then by more
module _ (s : TermStore) where
  pub adds_part : (old new : List ℕ) (whole t : Term) → IsPartOf whole t → Adds s old new t → Adds s old new whole
  adds_part old new whole t part a = record { added = a.added; is = a.is; there = a.there; only = λ v h. free_in_part (term_tree s v) whole t part (a.only v h) }

  pub adds_both : (old mid new : List ℕ) (t : Term) → Adds s old mid t → Adds s mid new t → Adds s old new t
  adds_both old mid new t a b = record {
    added = a.added ++ b.added;
    is = b.is ∙ ap (λ vs. vs ++ b.added) a.is ∙ append_assoc old a.added b.added;
    there = λ v h. ⊎_elim (λ (i : In v a.added). a.there v i) (λ (i : In v b.added). b.there v i) (in_append_either v a.added b.added h);
    only = λ v h. ⊎_elim (λ (i : In v a.added). a.only v i) (λ (i : In v b.added). b.only v i) (in_append_either v a.added b.added h);
  }

-- ---- lists of terms

pub in_variables : (G : List Term) (g u : Term) → In g G → In u (free_variables g) → In u (variables_in G)
in_variables [] g u h i = absurd h
in_variables (f ∷ G) g u (inl e) i = in_append_left u (free_variables f) (variables_in G) (subst (λ w. In u (free_variables w)) e i)
in_variables (f ∷ G) g u (inr h) i = in_append_right u (free_variables f) (variables_in G) (in_variables G g u h i)

pub from_variables : (G : List Term) (u : Term) → In u (variables_in G) → (g : Term) × In g G × In u (free_variables g)
from_variables [] u h = absurd h
from_variables (f ∷ G) u h = by (λ i. from_variables G u i) (in_append_either u (free_variables f) (variables_in G) h)
  where
    by : (In u (variables_in G) → (g : Term) × In g G × In u (free_variables g)) → In u (free_variables f) ⊎ In u (variables_in G) → (g : Term) × In g (f ∷ G) × In u (free_variables g)
    by rest (inl i) = (f, inl refl, i)
    by rest (inr i) = let p = rest i in (p.0, inr p.1, p.2)

module _ (s : TermStore) (G : List Term) where
  -- none so far
  pub among_none : AreAmong s [] G
  among_none = record { there = λ v h. absurd h; only = λ v h. absurd h }

  -- those of one term more
  pub among_more : (old new : List ℕ) (g : Term) → In g G → AreAmong s old G → Adds s old new g → AreAmong s new G
  among_more old new g there among adds = record {
    there = λ v h. ⊎_elim (λ (i : In v old). among.there v i) (λ (i : In v adds.added). adds.there v i) (either v h);
    only = λ v h. ⊎_elim (λ (i : In v old). among.only v i) (λ (i : In v adds.added). in_variables G g (term_tree s v) there (adds.only v i)) (either v h);
  }
    where
      either : (v : ℕ) → In v new → In v old ⊎ In v adds.added
      either v h = in_append_either v old adds.added (subst (λ vs. In v vs) adds.is h)

module _ (s : TermStore) (ts : List ℕ) where
  -- each place of the list was walked
  pub variables_found : (vars : List ℕ) → AreAmong s vars (trees s ts) → ((k : ℕ) → k < length ts → Finds s vars (term_tree s (get_or ts k 0))) → AreVariables s vars (trees s ts)
  variables_found vars among each = record { among = among; each = all }
    where
      all : (u : Term) → In u (variables_in (trees s ts)) → In u (trees s vars)
      all u h =
          let p = from_variables (trees s ts) u h in
          let q = from_trees s p.0 ts p.1 in
          let r = Contains-from_In ts q.0 q.1 in
          let same : get_or ts r.0 0 ≡ q.0 = sym (get_or_default_zero ts r.0 q.0 r.1) ∙ r.2 in
          let is : p.0 ≡ term_tree s (get_or ts r.0 0) = q.2 ∙ ap (λ (t : ℕ). term_tree s t) (sym same) in
          (each r.0 r.1).each u (subst (λ w. In u (free_variables w)) is p.2)

  -- one place more was walked
  pub found_more : (old new : List ℕ) (i t : ℕ) → i < length ts → t ≡ get_or ts i t → Adds s old new (term_tree s t) → Finds s new (term_tree s t)
      → ((k : ℕ) → k < i → Finds s old (term_tree s (get_or ts k 0))) → (k : ℕ) → k < i + 1 → Finds s new (term_tree s (get_or ts k 0))
  found_more old new i t below is adds finds before =
      let same : get_or ts i 0 ≡ t = sym (get_or_default_zero ts i t below) ∙ sym is in
      below_more (λ k. Finds s new (term_tree s (get_or ts k 0))) i (λ k h. finds_kept s old new (term_tree s (get_or ts k 0)) (term_tree s t) adds (before k h)) (subst (λ w. Finds s new (term_tree s w)) (sym same) finds)

-- the same numbers in another order
pub same_variables : (s : TermStore) (vars c : List ℕ) (G : List Term) → ((v : ℕ) → In v c → In v vars) → ((v : ℕ) → In v vars → In v c) → AreVariables s vars G → AreVariables s c G
same_variables s vars c G to from are = record {
  among = record { there = λ v h. are.among.there v (to v h); only = λ v h. are.among.only v (to v h) };
  each = λ u h. trees_within s vars c from u (are.each u h);
}

-- in a store that goes on
pub variables_keep : (s u : TermStore) → Keeps s u → (vars ts : List ℕ) → HasFormulas s ts → AreVariables s vars (trees s ts) → AreVariables u vars (trees u ts)
variables_keep s u keeps vars ts all are = record {
  among = record { there = λ v h. keeps.terms v (are.among.there v h); only = only };
  each = each;
}
  where
    same : trees u ts ≡ trees s ts
    same = trees_keep s u keeps ts all

    only : (v : ℕ) → In v vars → In (term_tree u v) (variables_in (trees u ts))
    only v h = rw (same, keeps.trees v (are.among.there v h)) (are.among.only v h)

    each : (w : Term) → In w (variables_in (trees u ts)) → In w (trees u vars)
    each w h =
        let p = from_trees s w vars (are.each w (subst (λ G. In w (variables_in G)) same h)) in
        subst (λ x. In x (trees u vars)) (sym (p.2 ∙ sym (keeps.trees p.0 (are.among.there p.0 p.1)))) (in_trees u p.0 vars p.1)

-- ---- what is among the variables

module _ (s : TermStore) (apart : TermsApart s) (vars : List ℕ) (G : List Term) (are : AreVariables s vars G) (v : ℕ) (there : HasTerm s v) where
  -- a variable that isn't among them is free in none of the terms
  pub absent_outside : (In v vars → ⊥) → NotFreeInAny (term_tree s v) G
  absent_outside out = free_in_none (term_tree s v) G none
    where
      none : (g : Term) → In g G → NotFreeIn (term_tree s v) g
      none g h free =
          let p = from_trees s (term_tree s v) vars (are.each (term_tree s v) (in_variables G g (term_tree s v) h free)) in
          out (subst (λ w. In w vars) (sym (apart v p.0 there (are.among.there p.0 p.1) p.2)) p.1)

  -- one that is among them is free in one of them
  pub present_among : In v vars → NotFreeInAny (term_tree s v) G → ⊥
  present_among h none =
      let p = from_variables G (term_tree s v) (are.among.only v h) in
      free_in_each (term_tree s v) G none p.0 p.1 p.2
