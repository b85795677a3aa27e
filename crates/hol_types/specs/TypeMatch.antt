-- Matching of types, on trees: the least types for the type variables of a pattern that make it a type.
use Rattle.std.specs.Prelude.{◌≡◌, ℕ, List, Some, bytes_eq}
use Rattle.std.specs.Map.{lookup}
use Rattle.std.specs.List.{AllByRecursion}
use Rattle.hol_types.specs.Ty.{Ty}
use Rattle.hol_types.specs.TypeSubst.{TypeSubst, instance_of, variables_of}

-- what the one gives a type, the other gives the same type
pub record Extends (s u : TypeSubst) : Type 0 where
  pub same : (n : List ℕ) (t : Ty) → lookup (bytes_eq n) s ≡ Some t → lookup (bytes_eq n) u ≡ Some t

-- the type variable is given a type
abbrev pub Gives : TypeSubst → List ℕ → Type 0
Gives s n = (t : Ty) × (lookup (bytes_eq n) s ≡ Some t)

-- each type variable of the pattern is given a type, and with these the pattern is the type
pub record Matches (pattern type : Ty) (s : TypeSubst) : Type 0 where
  pub given : AllByRecursion (λ n. Gives s n) (variables_of pattern)
  pub is : instance_of s pattern ≡ type

-- u is the least extension of s with the property: each other one extends it
pub record IsLeast (P : TypeSubst → Type 0) (s u : TypeSubst) : Type 0 where
  pub extends : Extends s u
  pub has : P u
  pub least : (v : TypeSubst) → Extends s v → P v → Extends u v

-- no extension of s has the property
pub record IsNone (P : TypeSubst → Type 0) (s : TypeSubst) : Type 0 where
  pub none : (v : TypeSubst) → Extends s v → P v → ⊥

-- under no extension of s is the pattern the type, whether or not each type variable is given
pub record NeverIs (s : TypeSubst) (pattern type : Ty) : Type 0 where
  pub never : (v : TypeSubst) → Extends s v → instance_of v pattern ≡ type → ⊥
