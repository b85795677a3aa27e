-- Sentences: formulas without free variables.
use Rattle.std.specs.Prelude.{◌≡◌, ℕ, List, []}
use Rattle.std.specs.List.{AllByRecursion}
use Rattle.hol_terms.specs.Term.{Term}
use Rattle.hol_terms.specs.TermStore.{TermStore, HasTerm, term_tree}
use Rattle.hol_terms.specs.Substitution.{free_variables}
use Rattle.hol_terms.specs.Formula.{IsFormula}

-- a formula without free variables
pub record IsSentence (t : Term) : Type 0 where
  pub formula : IsFormula t
  pub variables : free_variables t ≡ []

-- the number of a sentence
pub record HasSentence (s : TermStore) (t : ℕ) : Type 0 where
  pub there : HasTerm s t
  pub sentence : IsSentence (term_tree s t)

-- numbers of sentences
abbrev pub HaveSentences : TermStore → List ℕ → Type 0
HaveSentences s ts = AllByRecursion (HasSentence s) ts
