-- What is known while terms are matched.
use Rattle.std.specs.Prelude.{◌≡◌, ℕ, List, fold, Some, ◌<◌, Bool, true, false, nat_eq, slice_index_or}
use Rattle.std.specs.List.{AllByRecursion}
use Rattle.std.specs.HashMap.{HashMap, get_by}
use Rattle.std.specs.declared.hash.FoldHasher.{FoldHasher}
use Rattle.std.specs.declared.hash.BuildHasherDefault.{BuildHasherDefault}
use Rattle.hol_types.specs.TypeStore.{TypeStore, HasType, type_tree}
use Rattle.hol_terms.specs.Term.{Term}
use Rattle.hol_terms.specs.TermStore.{TermStore, HasTerm, term_tree}
use Rattle.hol_terms.specs.Formula.{In}
use Rattle.hol_match.specs.declared.matching.Progress.{Progress}
use Rattle.hol_match.specs.Instance.{IsInstantiation, instance_by, schematic_variables, with_new}
use Rattle.hol_match.specs.Inst.{Pairs, inst_tree, inst_variables, HasInst}

-- each variable has its term
abbrev pub Agrees : (Term → Term) → Pairs → Type 0
Agrees σ qs = AllByRecursion (λ q. σ q.0 ≡ q.1) qs

-- terms for variables agree with the new pairs exactly where they agree with the old ones and the pattern is the term with them
pub record Matched (pattern term : Term) (old new : Pairs) : Type 0 where
  pub to : (σ : Term → Term) → IsInstantiation σ → Agrees σ old → instance_by σ pattern ≡ term → Agrees σ new
  pub back : (σ : Term → Term) → IsInstantiation σ → Agrees σ new → Agrees σ old
  pub is : (σ : Term → Term) → IsInstantiation σ → Agrees σ new → instance_by σ pattern ≡ term
  pub variables : inst_variables new ≡ fold with_new (inst_variables old) (schematic_variables pattern)

-- with no terms for variables that agree with the pairs is the pattern the term
pub record NoMatch (pattern term : Term) (old : Pairs) : Type 0 where
  pub never : (σ : Term → Term) → IsInstantiation σ → Agrees σ old → instance_by σ pattern ≡ term → ⊥

-- the answer for a pattern and a term
pub data IsMatch (pattern term : Term) (old new : Pairs) : Bool → Type 0 where
  matched : Matched pattern term old new → IsMatch pattern term old new true
  refused : NoMatch pattern term old → IsMatch pattern term old new false

-- the terms, or types, that parts of the pattern are
abbrev pub Known : Type 0
Known = HashMap ℕ ℕ (BuildHasherDefault FoldHasher)

-- a part of the pattern is the term with all terms for variables that agree with the pairs, which have its variables
pub record IsPart (p s : TermStore) (qs : Pairs) (a t : ℕ) : Type 0 where
  pub pattern : HasTerm p a
  pub term : HasTerm s t
  pub is : (σ : Term → Term) → IsInstantiation σ → Agrees σ qs → instance_by σ (term_tree p a) ≡ term_tree s t
  pub given : (v : Term) → In v (schematic_variables (term_tree p a)) → In v (inst_variables qs)

-- so is each that is known
pub record AllParts (p s : TermStore) (qs : Pairs) (m : Known) : Type 0 where
  pub each : (a t : ℕ) → get_by (nat_eq a) m ≡ Some t → IsPart p s qs a t

-- a type of one store is a type of another
pub record IsSameType (p s : TypeStore) (a t : ℕ) : Type 0 where
  pub pattern : HasType p a
  pub type : HasType s t
  pub is : type_tree p a ≡ type_tree s t

-- so is each that is known
pub record AllSame (p s : TypeStore) (m : Known) : Type 0 where
  pub each : (a t : ℕ) → get_by (nat_eq a) m ≡ Some t → IsSameType p s a t

-- the first types of the two lists are the same
pub record FirstSame (p s : TypeStore) (ps ts : List ℕ) (k : ℕ) : Type 0 where
  pub each : (i : ℕ) → i < k → type_tree p (slice_index_or ps i 0) ≡ type_tree s (slice_index_or ts i 0)

-- what is known is right
pub record IsProgress (p s : TermStore) (g : Progress) : Type 0 where
  pub types : AllSame p.types s.types g.types
  pub parts : AllParts p s (inst_tree p s g.found) g.parts
  pub found : HasInst p s g.found
