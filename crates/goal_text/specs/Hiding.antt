-- Bound variables by number: the innermost of each name.
use Rattle.std.specs.Prelude.{◌≡◌, ℕ, ◌+◌, List, [], ◌∷◌, length, Option, Some, None, if◌then◌else◌, bytes_eq}
use Rattle.std.specs.Map.{lookup}
use Rattle.goal_text.specs.declared.binders.Bound.{Bound}
use Rattle.goal_text.specs.declared.binders.Spot.{Spot}

-- a variable with its type
abbrev pub bound_in : Bound → List ℕ × ℕ
bound_in b = (b.name.items, b.ty)

abbrev pub one_further : Option (ℕ × ℕ) → Option (ℕ × ℕ)
one_further None = None
one_further (Some b) = Some (b.0 + 1, b.1)

-- the innermost variable of a name: how many stand within it, and the number of its type
unfoldable pub innermost : List (List ℕ × ℕ) → List ℕ → Option (ℕ × ℕ)
innermost [] name = None
innermost (b ∷ outer) name = if bytes_eq name b.0 then Some (0, b.1) else one_further (innermost outer name)

-- where the innermost variable of a name stands; the innermost stand first
unfoldable pub spot_of : List Bound → List ℕ → Option Spot
spot_of [] name = None
spot_of (b ∷ outer) name = if bytes_eq name b.name.items then Some (record { place = length outer; ty = b.ty }) else spot_of outer name

-- each variable has the one that it hides
abbrev pub Hide : List Bound → Type 0
Hide [] = Unit {0}
Hide (b ∷ outer) = (b.hidden ≡ spot_of outer b.name.items) × Hide outer

abbrev pub newest_by : Option (Option Spot) → Option Spot
newest_by None = None
newest_by (Some spot) = spot

-- the innermost variable of each name
abbrev pub IsNewest : List (List ℕ × Option Spot) → List Bound → Type 0
IsNewest newest bound = (name : List ℕ) → newest_by (lookup (bytes_eq name) newest) ≡ spot_of bound name
