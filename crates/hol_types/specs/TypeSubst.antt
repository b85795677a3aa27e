-- Types for type variables, on trees (simple type theory). A name is its bytes.
use Rattle.std.specs.Prelude.{ℕ, List, [], ◌∷◌, ◌++◌, bytes_eq, unwrap_or, map}
use Rattle.std.specs.Map.{lookup}
use Rattle.std.specs.List.{AllByRecursion}
use Rattle.hol_types.specs.Once.{Once}
use Rattle.hol_types.specs.Ty.{Ty, Tys, BoolTy, IntTy, VarTy, FunTy, ConsTy, no_types, more_types}
use Rattle.hol_types.specs.TypeStore.{TypeStore, HasName, HasType, text_of, type_tree}

-- types for type variables: a list of names and types, of which the first of a name counts
abbrev pub TypeSubst : Type 0
TypeSubst = List (List ℕ × Ty)

-- the type given for a name, or the variable itself
abbrev pub type_for : TypeSubst → List ℕ → Ty
type_for s n = unwrap_or (lookup (bytes_eq n) s) (VarTy n)

abbrev mutual
  -- the type with the types given for its variables
  pub instance_of : TypeSubst → Ty → Ty
  instance_of s BoolTy = BoolTy
  instance_of s IntTy = IntTy
  instance_of s (VarTy n) = type_for s n
  instance_of s (FunTy a b) = FunTy (instance_of s a) (instance_of s b)
  instance_of s (ConsTy n ts) = ConsTy n (instances_of s ts)

  -- each type of a list with the types given for its variables
  pub instances_of : TypeSubst → Tys → Tys
  instances_of s no_types = no_types
  instances_of s (more_types t ts) = more_types (instance_of s t) (instances_of s ts)

abbrev mutual
  -- the type variables of a type, from left to right
  pub variables_of : Ty → List (List ℕ)
  variables_of BoolTy = []
  variables_of IntTy = []
  variables_of (VarTy n) = n ∷ []
  variables_of (FunTy a b) = variables_of a ++ variables_of b
  variables_of (ConsTy n ts) = variables_of_all ts

  -- the type variables of the types of a list
  pub variables_of_all : Tys → List (List ℕ)
  variables_of_all no_types = []
  variables_of_all (more_types t ts) = variables_of t ++ variables_of_all ts

-- ---- by numbers

-- each name and each type of the list is in the store
abbrev pub HasSubst : TypeStore → List (ℕ × ℕ) → Type 0
HasSubst s ps = AllByRecursion (λ p. HasName s p.0 × HasType s p.1) ps

-- each name stands once in the list
pub record NamesOnce (ps : List (ℕ × ℕ)) : Type 0 where
  pub names : Once (map (λ p. p.0) ps)

-- the texts and the trees that a list of numbers stands for
abbrev pub subst_tree : TypeStore → List (ℕ × ℕ) → TypeSubst
subst_tree s ps = map (λ p. (text_of s p.0, type_tree s p.1)) ps
