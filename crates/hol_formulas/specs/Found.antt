-- What a walk over terms finds: their free variables, by number.
use Rattle.std.specs.Prelude.{◌≡◌, ℕ, List, [], ◌∷◌, ◌++◌, true, nat_eq}
use Rattle.std.specs.HashSet.{HashSet, contains}
use Rattle.std.specs.declared.hash.FoldHasher.{FoldHasher}
use Rattle.std.specs.declared.hash.BuildHasherDefault.{BuildHasherDefault}
use Rattle.hol_terms.specs.Term.{Term}
use Rattle.hol_terms.specs.Substitution.{free_variables}
use Rattle.hol_terms.specs.TermStore.{TermStore, HasTerm, term_tree}
use Rattle.hol_terms.specs.Formula.{In}
use Rattle.hol_formulas.specs.Formulas.{trees}

-- the free variables of terms, each as often as it occurs
abbrev pub variables_in : List Term → List Term
variables_in [] = []
variables_in (g ∷ G) = free_variables g ++ variables_in G

-- the numbers are those of free variables of the terms
pub record AreAmong (s : TermStore) (vars : List ℕ) (G : List Term) : Type 0 where
  pub there : (v : ℕ) → In v vars → HasTerm s v
  pub only : (v : ℕ) → In v vars → In (term_tree s v) (variables_in G)

-- and of all of them
pub record AreVariables (s : TermStore) (vars : List ℕ) (G : List Term) : Type 0 where
  pub among : AreAmong s vars G
  pub each : (u : Term) → In u (variables_in G) → In u (trees s vars)

-- ---- as the walk goes on

-- each free variable of the term has its number in the list
pub record Finds (s : TermStore) (vars : List ℕ) (t : Term) : Type 0 where
  pub each : (u : Term) → In u (free_variables t) → In u (trees s vars)

-- and so for each of the parts
pub record AllFound (s : TermStore) (vars : List ℕ) (parts : HashSet ℕ (BuildHasherDefault FoldHasher)) : Type 0 where
  pub each : (t : ℕ) → contains nat_eq parts t ≡ true → Finds s vars (term_tree s t)

-- the list has grown by numbers of free variables of the term
pub record Adds (s : TermStore) (old new : List ℕ) (t : Term) : Type 0 where
  pub added : List ℕ
  pub is : new ≡ old ++ added
  pub there : (v : ℕ) → In v added → HasTerm s v
  pub only : (v : ℕ) → In v added → In (term_tree s v) (free_variables t)
