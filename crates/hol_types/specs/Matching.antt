-- What is known while types are matched.
use Rattle.std.specs.Prelude.{◌≡◌, ℕ, ◌<◌, List, [], ◌∷◌, ◌++◌, Some, None, Bool, true, false, nat_eq, slice_index_or}
use Rattle.std.specs.Map.{lookup}
use Rattle.std.specs.HashMap.{HashMap, get_by}
use Rattle.std.specs.declared.hash.FoldHasher.{FoldHasher}
use Rattle.std.specs.declared.hash.BuildHasherDefault.{BuildHasherDefault}
use Rattle.hol_types.specs.TypeStore.{TypeStore, HasType, type_tree}
use Rattle.hol_types.specs.TypeSubst.{TypeSubst}
use Rattle.hol_types.specs.TypeMatch.{Matches, IsLeast, IsNone}

-- the answer for a variable, and the types that are given then: it has the type already, or another, or it has it now
pub data IsGiven (n t : ℕ) (ps : List (ℕ × ℕ)) : Bool → List (ℕ × ℕ) → Type 0 where
  same : lookup (nat_eq n) ps ≡ Some t → IsGiven n t ps true ps
  other : (u : ℕ) → lookup (nat_eq n) ps ≡ Some u → (u ≡ t → ⊥) → IsGiven n t ps false ps
  new : lookup (nat_eq n) ps ≡ None → IsGiven n t ps true (ps ++ (n, t) ∷ [])

-- the answer for a property: the least extension of s that has it, or that there is none
pub data IsAnswer (P : TypeSubst → Type 0) (s u : TypeSubst) : Bool → Type 0 where
  found : IsLeast P s u → IsAnswer P s u true
  refused : IsNone P s → IsAnswer P s u false

-- the types that parts of the pattern are to be
abbrev pub Done : Type 0
Done = HashMap ℕ ℕ (BuildHasherDefault FoldHasher)

-- a part of the pattern is the type
pub record IsTypePart (s : TypeStore) (σ : TypeSubst) (p t : ℕ) : Type 0 where
  pub pattern : HasType s p
  pub type : HasType s t
  pub is : Matches (type_tree s p) (type_tree s t) σ

-- so is each that is done
pub record AllDone (s : TypeStore) (σ : TypeSubst) (m : Done) : Type 0 where
  pub each : (p t : ℕ) → get_by (nat_eq p) m ≡ Some t → IsTypePart s σ p t

-- the first patterns are the first types
pub record MatchFirst (s : TypeStore) (ps ts : List ℕ) (k : ℕ) (σ : TypeSubst) : Type 0 where
  pub each : (i : ℕ) → i < k → Matches (type_tree s (slice_index_or ps i 0)) (type_tree s (slice_index_or ts i 0)) σ
