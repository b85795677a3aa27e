-- A store that goes on: each number given before stays, and stands for what it stood for.
use Rattle.std.specs.Prelude.{◌≡◌, ℕ, Some}
use Rattle.hol_types.specs.TypeStore.{TypeStore, HasName, HasType, text_of, type_tree, arity_of}
use Rattle.hol_types.specs.TypeMark.{FitsMark, cut}
use Rattle.hol_types.specs.declared.tables.TypeMark.{TypeMark as Mark}

pub record KeepsTypes (old new : TypeStore) : Type 0 where
  -- each name is still there
  pub names : (n : ℕ) → HasName old n → HasName new n
  -- and has its text
  pub texts : (n : ℕ) → HasName old n → text_of new n ≡ text_of old n
  -- each type is still there
  pub types : (t : ℕ) → HasType old t → HasType new t
  -- and stands for its tree
  pub trees : (t : ℕ) → HasType old t → type_tree new t ≡ type_tree old t
  -- each declared constructor has its number of arguments
  pub arities : (n a : ℕ) → arity_of old n ≡ Some a → arity_of new n ≡ Some a
  -- what was held at a mark is held there still
  pub back : (m : Mark) → FitsMark m old → cut m new ≡ cut m old
