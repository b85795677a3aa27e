-- Terms for variables, as a list of numbers and as trees.
use Rattle.std.specs.Prelude.{ℕ, List, map, unwrap_or}
use Rattle.std.specs.Map.{lookup}
use Rattle.std.specs.List.{AllByRecursion}
use Rattle.hol_terms.specs.Term.{Term}
use Rattle.hol_terms.specs.TermEq.{term_eq}
use Rattle.hol_terms.specs.TermStore.{TermStore, HasTerm, term_tree}
use Rattle.hol_match.specs.Instance.{Substitutable}

-- variables with their terms
abbrev pub Pairs : Type 0
Pairs = List (Term × Term)

-- the trees of variables of one store and of their terms in another
abbrev pub inst_tree : TermStore → TermStore → List (ℕ × ℕ) → Pairs
inst_tree p s qs = map (λ q. (term_tree p q.0, term_tree s q.1)) qs

-- the variables of pairs
abbrev pub inst_variables : Pairs → List Term
inst_variables qs = map (λ q. q.0) qs

-- the term for a variable, of which the first counts, or the variable itself
abbrev pub term_for : Pairs → Term → Term
term_for qs v = unwrap_or (lookup (term_eq v) qs) v

-- each pair is there, and its term may stand for its variable
pub record HasInst (p s : TermStore) (qs : List (ℕ × ℕ)) : Type 0 where
  pub there : AllByRecursion (λ q. HasTerm p q.0 × HasTerm s q.1) qs
  pub stand : AllByRecursion (λ q. Substitutable (term_tree p q.0) (term_tree s q.1)) qs
