-- What a walk over the parts of terms still meets.
use Rattle.std.specs.Prelude.{◌≡◌, ◌⊎◌, ◌<◌, ◌≤◌, ◌+◌, ℕ, List, [], ◌∷◌, ◌++◌, map, fold}
use Rattle.std.specs.List.{AllByRecursion}
use Rattle.hol_terms.specs.Term.{Term}
use Rattle.hol_terms.specs.TermStore.{TermStore, HasTerm, term_tree}
use Rattle.hol_terms.specs.Formula.{In}
use Rattle.part_numbers.specs.Parts.{met_in, met_at_head, with_part, with_parts_of}

-- the terms of numbers
abbrev pub terms_at : TermStore → List ℕ → List Term
terms_at s ts = map (λ t. term_tree s t) ts

-- what is met in the terms of a stack, the last one first
unfoldable pub ahead : TermStore → List ℕ → List Term
ahead s [] = []
ahead s (t ∷ ts) = ahead s ts ++ met_in (term_tree s t)

-- the stack is the old one with terms below a number on it
pub record Pushes (s : TermStore) (top : ℕ) (old new : List ℕ) (met : List Term) : Type 0 where
  pub pushed : List ℕ
  pub stack : new ≡ old ++ pushed
  pub below : AllByRecursion (λ t. t < top) pushed
  pub there : AllByRecursion (HasTerm s) pushed
  pub meets : ahead s pushed ≡ met

-- what is met in a part is among the parts, or comes
abbrev pub IsCovered : TermStore → List ℕ → List Term → ℕ → Type 0
IsCovered s parts coming p = (x : Term) → In x (met_in (term_tree s p)) → In x (terms_at s parts) ⊎ In x coming

-- what is met in each part is among the parts, or comes
abbrev pub AreCovered : TermStore → List ℕ → List Term → Type 0
AreCovered s parts coming = (p : ℕ) → In p parts → IsCovered s parts coming p

-- for each term of the stack, what is met in a part not above it is among the parts, or comes before it
abbrev pub AreReady : TermStore → List ℕ → List ℕ → Type 0
AreReady s parts [] = Unit {0}
AreReady s parts (t ∷ ts) = ((p : ℕ) → In p parts → p ≤ t → IsCovered s parts (ahead s ts) p) × AreReady s parts ts

-- on the way to the head of an application, from t: what is met at it is what is met at the head, and then on the stack
pub record IsPassed (s : TermStore) (t : ℕ) (old new : List ℕ) (head : ℕ) : Type 0 where
  pub there : HasTerm s head
  pub below : head ≤ t
  pub met : List Term
  pub pushes : Pushes s (t + 1) old new met
  pub meets : met_at_head (term_tree s head) ++ met ≡ met_at_head (term_tree s t)

-- the parts so far of a term that is added to others, and the terms that are still to be gone through
pub record IsWalk (s : TermStore) (old : List ℕ) (t : ℕ) (parts stack : List ℕ) : Type 0 where
  pub parts_there : AllByRecursion (HasTerm s) parts
  pub stack_there : AllByRecursion (HasTerm s) stack
  pub covered : AreCovered s parts (ahead s stack)
  pub ready : AreReady s parts stack
  pub read : fold with_part (terms_at s parts) (ahead s stack) ≡ with_parts_of (terms_at s old) (term_tree s t)
