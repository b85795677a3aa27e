-- What names stand for.
use Rattle.std.specs.Prelude.{ℕ, ◌+◌, List, [], ◌∷◌, Option, Some, None, Bool, true, false, if◌then◌else◌, bytes_eq}
use Rattle.hol_types.specs.Ty.{Ty}

-- the declared type constructors, each with its number of arguments
abbrev pub Constructors : Type 0
Constructors = List (List ℕ × ℕ)

-- the declared constants, each with its type
abbrev pub Constants : Type 0
Constants = List (List ℕ × Ty)

-- bound variables with their types, the innermost first
abbrev pub Binders : Type 0
Binders = List (List ℕ × Ty)

-- what names stand for at a place of the text
pub record Env : Type 0 where
  pub types : Constructors
  pub consts : Constants
  pub binders : Binders

abbrev pub one_further : Option (ℕ × Ty) → Option (ℕ × Ty)
one_further None = None
one_further (Some b) = Some (b.0 + 1, b.1)

-- the innermost binder of a name: how many stand within it, and its type
unfoldable pub bound_to : Binders → List ℕ → Option (ℕ × Ty)
bound_to [] name = None
bound_to (b ∷ outer) name = if bytes_eq name b.0 then Some (0, b.1) else one_further (bound_to outer name)

-- there is nothing
abbrev pub is_nothing : {A : Type 0} → Option A → Bool
is_nothing None = true
is_nothing (Some x) = false
