-- What the numbers of a lexicon stand for.
use Rattle.std.specs.Prelude.{◌≡◌, ℕ, List, Option, Some, map, if◌then◌else◌, bytes_eq, codes}
use Rattle.std.specs.List.{AllByRecursion}
use Rattle.std.specs.Map.{lookup}
use Rattle.hol_types.specs.Ty.{BoolTy}
use Rattle.hol_terms.specs.Term.{Term, ConstTm}
use Rattle.hol_terms.specs.TermStore.{TermStore, HasTerm, term_tree}
use Rattle.hol_terms.specs.Constants.{false_tm, not_tm, imp_tm}
use Rattle.first_form.specs.declared.lexicon.Lexicon.{Lexicon}
use Rattle.first_form.specs.Formulas.{spelled}

-- the number of a term
pub record IsNumberOf (s : TermStore) (t : ℕ) (is : Term) : Type 0 where
  pub there : HasTerm s t
  pub tree : term_tree s t ≡ is

-- the names of constants
abbrev pub names_of : List (List ℕ × ℕ) → List (List ℕ)
names_of constants = map (λ c. c.0) constants

-- each number is that of the constant of its name
abbrev pub AreConstants : TermStore → List (List ℕ × ℕ) → Type 0
AreConstants s constants = AllByRecursion (λ c. IsNumberOf s c.1 (ConstTm c.0 BoolTy)) constants

-- the numbers are those of the lexicon's constants
pub record IsLexicon (s : TermStore) (lexicon : Lexicon) : Type 0 where
  pub falsity : IsNumberOf s lexicon.falsity false_tm
  pub negation : IsNumberOf s lexicon.negation not_tm
  pub implication : IsNumberOf s lexicon.implication imp_tm
  pub constants : AreConstants s lexicon.constants

-- the number of the constant that is so written
abbrev pub number_of : List (List ℕ × ℕ) → List ℕ → Option ℕ
number_of constants text = lookup (λ name. bytes_eq text (spelled name)) constants

-- the number of the term that an atom is read as
abbrev pub atom_number : Lexicon → List ℕ → Option ℕ
atom_number lexicon text = if bytes_eq text (codes "false") then Some lexicon.falsity else number_of lexicon.constants text
