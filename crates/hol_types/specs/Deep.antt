-- The parts of a type, which a walk goes through first where the type is deep.
use Rattle.std.specs.Prelude.{◌≡◌, ◌⊎◌, ℕ, List}
use Rattle.hol_types.specs.Ty.{Ty, Tys, FunTy, ConsTy, no_types, more_types}
use Rattle.hol_types.specs.TypeStore.{TypeStore, HasType, type_tree}

-- the type is one of these
abbrev pub IsAmong : Ty → Tys → Type 0
IsAmong t no_types = ⊥
IsAmong t (more_types first others) = (t ≡ first) ⊎ IsAmong t others

-- a type stands in the whole
pub data IsTypePartOf (whole : Ty) : Ty → Type 0 where
  itself : IsTypePartOf whole whole
  parameter : {a b : Ty} → IsTypePartOf whole (FunTy a b) → IsTypePartOf whole a
  result : {a b : Ty} → IsTypePartOf whole (FunTy a b) → IsTypePartOf whole b
  argument : {n : List ℕ} → {ts : Tys} → {t : Ty} → IsTypePartOf whole (ConsTy n ts) → IsAmong t ts → IsTypePartOf whole t

-- a number of the store stands for a part of the whole
pub record IsTypePart (s : TypeStore) (whole : Ty) (t : ℕ) : Type 0 where
  pub there : HasType s t
  pub part : IsTypePartOf whole (type_tree s t)
