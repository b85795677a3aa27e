-- A walk that finds the type variables of terms.
use Rattle.std.proofs.Common.{◌≡◌, ◌∙◌, ◌++◌, ◌∷◌, [], ◌⊎◌, ⊎_elim, ◌<◌, ◌+◌, refl, ap, sym, subst, ℕ, List, Bool, true, false, cond, inl, inr, length, get_or, below_more, append_assoc}
use Rattle.std.specs.Prelude.{nat_eq}
use Rattle.std.specs.HashSet.{HashSet, contains}
use Rattle.std.specs.declared.hash.FoldHasher.{FoldHasher}
use Rattle.std.specs.declared.hash.BuildHasherDefault.{BuildHasherDefault}
use Rattle.std.proofs.Math.Dec.{eqb}
use Rattle.std.proofs.lemmas.List.{append-nil}
use Rattle.std.proofs.lemmas.Grind.{get_or_default_zero}
use Rattle.hol_types.specs.Ty.{Ty, VarTy}
use Rattle.hol_types.specs.TypeStore.{TypeStore, HasType, type_tree, trees_of}
use Rattle.hol_types.specs.TypeSubst.{variables_of, variables_of_all}
use Rattle.hol_types.proofs.TypeLemmas.{eqb_sound}
use Rattle.hol_terms.specs.Term.{Term}
use Rattle.hol_terms.specs.TermStore.{TermStore, term_tree}
use Rattle.hol_terms.specs.Substitution.{type_variables}
use Rattle.hol_terms.specs.Formula.{In}
use Rattle.hol_terms.proofs.SetLemmas.{in_append_left, in_append_right, in_append_either}
use Rattle.hol_formulas.specs.Formulas.{trees}
use Rattle.hol_formulas.specs.FoundTypes.{type_variables_in, IsVariableOf, HasVariable, AreTypeVariables, FindsTypes, AddsTypes, AllTypesFound, AllTermsFound}
use Rattle.hol_formulas.proofs.ListLemmas.{Contains-from_In}
use Rattle.hol_formulas.proofs.TreesLemmas.{from_trees}

abbrev Names : Type 0
Names = List (List ℕ)

abbrev Numbers : Type 0
Numbers = HashSet ℕ (BuildHasherDefault FoldHasher)

module _ (s : TypeStore) where
  -- what was found stays found
  pub found_kept : (old new : List ℕ) (W V : Names) → AddsTypes s old new V → FindsTypes s old W → FindsTypes s new W
  found_kept old new W V adds finds = record { each = each }
    where
      each : (n : List ℕ) → In n W → HasVariable s new n
      each n h =
          let v = finds.each n h in
          record { type = v.type; among = subst (λ ts. In v.type ts) (sym adds.is) (in_append_left v.type old adds.added v.among); is = v.is }

  pub types_kept : (old new : List ℕ) (V : Names) (parts : Numbers) → AddsTypes s old new V → AllTypesFound s old parts → AllTypesFound s new parts
  types_kept old new V parts adds all = record { each = λ t h. found_kept old new (variables_of (type_tree s t)) V adds (all.each t h) }

  -- nothing is added, and nothing is to be found
  pub adds_none : (old : List ℕ) (W : Names) → AddsTypes s old old W
  adds_none old W = record { added = []; is = sym (append-nil old); only = λ t h. absurd h }

  pub finds_none : (found : List ℕ) → FindsTypes s found []
  finds_none found = record { each = λ n h. absurd h }

  -- one part more
  pub types_put : (found : List ℕ) (m n : Numbers) (t : ℕ) → AllTypesFound s found m → ((q : ℕ) → contains nat_eq n q ≡ cond (nat_eq t q) true (contains nat_eq m q)) → FindsTypes s found (variables_of (type_tree s t)) → AllTypesFound s found n
  types_put found m n t old puts here = record { each = λ q h. by q (eqb t q) refl (sym (puts q) ∙ h) }
    where
      by : (q : ℕ) (b : Bool) → eqb t q ≡ b → cond b true (contains nat_eq m q) ≡ true → FindsTypes s found (variables_of (type_tree s q))
      by q true e f = subst (λ z. FindsTypes s found (variables_of (type_tree s z))) (eqb_sound t q e) here
      by q false e f = old.each q f

  -- a variable
  module _ (old new : List ℕ) (t : ℕ) (n : List ℕ) (is : type_tree s t ≡ VarTy n) (grown : new ≡ old ++ t ∷ []) where
    pub finds_variable : FindsTypes s new (n ∷ [])
    finds_variable = record { each = λ m h. ⊎_elim (λ (e : m ≡ n). subst (λ k. HasVariable s new k) (sym e) here) (λ i. absurd i) h }
      where
        here : HasVariable s new n
        here = record { type = t; among = subst (λ ts. In t ts) (sym grown) (in_append_right t old (t ∷ []) (inl refl)); is = is }

    pub adds_variable : HasType s t → AddsTypes s old new (n ∷ [])
    adds_variable there = record {
      added = t ∷ [];
      is = grown;
      only = λ u h. ⊎_elim (λ (e : u ≡ t). subst (λ w. IsVariableOf s (n ∷ []) w) (sym e) (record { there = there; name = n; among = inl refl; is = is })) (λ i. absurd i) h;
    }

  -- of more names
  more : (W V : Names) (t : ℕ) → ((n : List ℕ) → In n W → In n V) → IsVariableOf s W t → IsVariableOf s V t
  more W V t within v = record { there = v.there; name = v.name; among = within v.name v.among; is = v.is }

  pub adds_then : (old mid new : List ℕ) (W V U : Names) → ((n : List ℕ) → In n W → In n U) → ((n : List ℕ) → In n V → In n U) → AddsTypes s old mid W → AddsTypes s mid new V → AddsTypes s old new U
  adds_then old mid new W V U left right a b = record {
    added = a.added ++ b.added;
    is = b.is ∙ ap (λ ts. ts ++ b.added) a.is ∙ append_assoc old a.added b.added;
    only = λ t h. ⊎_elim (λ (i : In t a.added). more W U t left (a.only t i)) (λ (i : In t b.added). more V U t right (b.only t i)) (in_append_either t a.added b.added h);
  }

  -- two parts
  module _ (old mid new : List ℕ) (W V : Names) where
    pub finds_both : AddsTypes s mid new V → FindsTypes s mid W → FindsTypes s new V → FindsTypes s new (W ++ V)
    finds_both adds left right = record { each = λ n h. ⊎_elim (λ (i : In n W). (found_kept mid new W V adds left).each n i) (λ (i : In n V). right.each n i) (in_append_either n W V h) }

    pub adds_both : AddsTypes s old mid W → AddsTypes s mid new V → AddsTypes s old new (W ++ V)
    adds_both a b = adds_then old mid new W V (W ++ V) (λ n i. in_append_left n W V i) (λ n i. in_append_right n W V i) a b

-- ---- lists of types

module _ (f : ℕ → Ty) where
  pub in_all : (ts : List ℕ) (t : ℕ) (n : List ℕ) → In t ts → In n (variables_of (f t)) → In n (variables_of_all (trees_of f ts))
  in_all [] t n h i = absurd h
  in_all (u ∷ ts) t n (inl e) i = in_append_left n (variables_of (f u)) (variables_of_all (trees_of f ts)) (subst (λ w. In n (variables_of (f w))) e i)
  in_all (u ∷ ts) t n (inr h) i = in_append_right n (variables_of (f u)) (variables_of_all (trees_of f ts)) (in_all ts t n h i)

  pub from_all : (ts : List ℕ) (n : List ℕ) → In n (variables_of_all (trees_of f ts)) → (t : ℕ) × In t ts × In n (variables_of (f t))
  from_all [] n h = absurd h
  from_all (u ∷ ts) n h = by (λ i. from_all ts n i) (in_append_either n (variables_of (f u)) (variables_of_all (trees_of f ts)) h)
    where
      by : (In n (variables_of_all (trees_of f ts)) → (t : ℕ) × In t ts × In n (variables_of (f t))) → In n (variables_of (f u)) ⊎ In n (variables_of_all (trees_of f ts)) → (t : ℕ) × In t (u ∷ ts) × In n (variables_of (f t))
      by rest (inl i) = (u, inl refl, i)
      by rest (inr i) = let p = rest i in (p.0, inr p.1, p.2)

-- ---- what is found at each place of a list

module _ (s : TypeStore) (ts : List ℕ) (wanted : ℕ → Names) where
  -- one place more was walked
  pub found_more : (old new : List ℕ) (i t : ℕ) → i < length ts → t ≡ get_or ts i t → AddsTypes s old new (wanted t) → FindsTypes s new (wanted t)
      → ((k : ℕ) → k < i → FindsTypes s old (wanted (get_or ts k 0))) → (k : ℕ) → k < i + 1 → FindsTypes s new (wanted (get_or ts k 0))
  found_more old new i t below is adds finds before =
      let same : get_or ts i 0 ≡ t = sym (get_or_default_zero ts i t below) ∙ sym is in
      below_more (λ k. FindsTypes s new (wanted (get_or ts k 0))) i (λ k h. found_kept s old new (wanted (get_or ts k 0)) (wanted t) adds (before k h)) (subst (λ w. FindsTypes s new (wanted w)) (sym same) finds)

  -- each place was walked
  pub found_all : (found : List ℕ) (W : Names) → ((n : List ℕ) → In n W → (t : ℕ) × In t ts × In n (wanted t)) → ((k : ℕ) → k < length ts → FindsTypes s found (wanted (get_or ts k 0))) → FindsTypes s found W
  found_all found W from each = record { each = all }
    where
      all : (n : List ℕ) → In n W → HasVariable s found n
      all n h =
          let p = from n h in
          let r = Contains-from_In ts p.0 p.1 in
          let same : get_or ts r.0 0 ≡ p.0 = sym (get_or_default_zero ts r.0 p.0 r.1) ∙ r.2 in
          (each r.0 r.1).each n (subst (λ w. In n (wanted w)) (sym same) p.2)

-- ---- terms

module _ (s : TermStore) where
  pub terms_kept : (old new : List ℕ) (V : Names) (parts : Numbers) → AddsTypes s.types old new V → AllTermsFound s old parts → AllTermsFound s new parts
  terms_kept old new V parts adds all = record { each = λ t h. found_kept s.types old new (type_variables (term_tree s t)) V adds (all.each t h) }

  pub terms_put : (found : List ℕ) (m n : Numbers) (t : ℕ) → AllTermsFound s found m → ((q : ℕ) → contains nat_eq n q ≡ cond (nat_eq t q) true (contains nat_eq m q)) → FindsTypes s.types found (type_variables (term_tree s t)) → AllTermsFound s found n
  terms_put found m n t old puts here = record { each = λ q h. by q (eqb t q) refl (sym (puts q) ∙ h) }
    where
      by : (q : ℕ) (b : Bool) → eqb t q ≡ b → cond b true (contains nat_eq m q) ≡ true → FindsTypes s.types found (type_variables (term_tree s q))
      by q true e f = subst (λ z. FindsTypes s.types found (type_variables (term_tree s z))) (eqb_sound t q e) here
      by q false e f = old.each q f

pub in_type_variables : (G : List Term) (g : Term) (n : List ℕ) → In g G → In n (type_variables g) → In n (type_variables_in G)
in_type_variables [] g n h i = absurd h
in_type_variables (f ∷ G) g n (inl e) i = in_append_left n (type_variables f) (type_variables_in G) (subst (λ w. In n (type_variables w)) e i)
in_type_variables (f ∷ G) g n (inr h) i = in_append_right n (type_variables f) (type_variables_in G) (in_type_variables G g n h i)

pub from_type_variables : (G : List Term) (n : List ℕ) → In n (type_variables_in G) → (g : Term) × In g G × In n (type_variables g)
from_type_variables [] n h = absurd h
from_type_variables (f ∷ G) n h = by (λ i. from_type_variables G n i) (in_append_either n (type_variables f) (type_variables_in G) h)
  where
    by : (In n (type_variables_in G) → (g : Term) × In g G × In n (type_variables g)) → In n (type_variables f) ⊎ In n (type_variables_in G) → (g : Term) × In g (f ∷ G) × In n (type_variables g)
    by rest (inl i) = (f, inl refl, i)
    by rest (inr i) = let p = rest i in (p.0, inr p.1, p.2)

-- by number
pub from_type_variables_at : (s : TermStore) (ts : List ℕ) (n : List ℕ) → In n (type_variables_in (trees s ts)) → (t : ℕ) × In t ts × In n (type_variables (term_tree s t))
from_type_variables_at s ts n h =
    let p = from_type_variables (trees s ts) n h in
    let q = from_trees s p.0 ts p.1 in
    (q.0, q.1, subst (λ w. In n (type_variables w)) q.2 p.2)

-- what was added to nothing is all
pub are_type_variables : (s : TypeStore) (found : List ℕ) (W : Names) → AddsTypes s [] found W → FindsTypes s found W → AreTypeVariables s found W
are_type_variables s found W adds finds = record { only = λ t h. adds.only t (subst (λ ts. In t ts) adds.is h); each = finds.each }
