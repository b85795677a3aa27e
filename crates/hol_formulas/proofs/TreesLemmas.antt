-- The trees of numbers, by what stands in them.
use Rattle.std.proofs.Common.{◌≡◌, ◌++◌, sym, subst, ◌⊎◌, ℕ, List, inl, inr}
use Rattle.hol_terms.specs.Term.{Term}
use Rattle.hol_terms.specs.TermStore.{TermStore, term_tree}
use Rattle.hol_terms.specs.Formula.{In, IsFormula, AllFormulas}
use Rattle.hol_terms.proofs.SetLemmas.{in_append_left, in_append_right, in_append_either, in_map, in_map_from}
use Rattle.hol_formulas.specs.Formulas.{trees, HasFormulas}

-- the trees of numbers
module _ (s : TermStore) where
  pub in_trees : (t : ℕ) (ts : List ℕ) → In t ts → In (term_tree s t) (trees s ts)
  in_trees t ts h = in_map (λ u. term_tree s u) t ts h

  pub from_trees : (u : Term) (ts : List ℕ) → In u (trees s ts) → (t : ℕ) × In t ts × (u ≡ term_tree s t)
  from_trees u ts h = in_map_from (λ t. term_tree s t) u ts h

  pub all_formulas : (ts : List ℕ) → HasFormulas s ts → AllFormulas (trees s ts)
  all_formulas ts all = record { each = each }
    where
      each : (u : Term) → In u (trees s ts) → IsFormula u
      each u h = let p = from_trees u ts h in subst (λ v. IsFormula v) (sym p.2) (all.each p.0 p.1).formula

  -- from numbers to trees, where each number of the one list is in the other
  pub trees_within : (xs ys : List ℕ) → ((t : ℕ) → In t xs → In t ys) → (u : Term) → In u (trees s xs) → In u (trees s ys)
  trees_within xs ys inside u h = let p = from_trees u xs h in subst (λ v. In v (trees s ys)) (sym p.2) (in_trees p.0 ys (inside p.0 p.1))

  pub from_append : (xs ys : List ℕ) (u : Term) → In u (trees s (xs ++ ys)) → In u (trees s xs ++ trees s ys)
  from_append xs ys u h = let p = from_trees u (xs ++ ys) h in by p.0 p.2 (in_append_either p.0 xs ys p.1)
    where
      by : (t : ℕ) → u ≡ term_tree s t → In t xs ⊎ In t ys → In u (trees s xs ++ trees s ys)
      by t e (inl k) = in_append_left u (trees s xs) (trees s ys) (subst (λ v. In v (trees s xs)) (sym e) (in_trees t xs k))
      by t e (inr k) = in_append_right u (trees s xs) (trees s ys) (subst (λ v. In v (trees s ys)) (sym e) (in_trees t ys k))

  pub to_append : (xs ys : List ℕ) (u : Term) → In u (trees s xs ++ trees s ys) → In u (trees s (xs ++ ys))
  to_append xs ys u h = by (in_append_either u (trees s xs) (trees s ys) h)
    where
      by : In u (trees s xs) ⊎ In u (trees s ys) → In u (trees s (xs ++ ys))
      by (inl k) = trees_within xs (xs ++ ys) (λ t l. in_append_left t xs ys l) u k
      by (inr k) = trees_within ys (xs ++ ys) (λ t l. in_append_right t xs ys l) u k
