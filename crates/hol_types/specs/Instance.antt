-- What is known while types are put for type variables.
use Rattle.std.specs.Prelude.{◌≡◌, ℕ, List, length, Some, nat_eq}
use Rattle.std.specs.List.{AllByRecursion}
use Rattle.std.specs.HashMap.{HashMap, get_by}
use Rattle.std.specs.declared.hash.FoldHasher.{FoldHasher}
use Rattle.std.specs.declared.hash.BuildHasherDefault.{BuildHasherDefault}
use Rattle.hol_types.specs.TypeStore.{TypeStore, HasType, type_tree, trees_at}
use Rattle.hol_types.specs.TypeSubst.{TypeSubst, subst_tree, instance_of, instances_of}

-- the second list has the instances of the first
pub record AreInstances (s : TypeSubst) (old new : TypeStore) (ts us : List ℕ) : Type 0 where
  pub there : AllByRecursion (λ u. HasType new u) us
  pub count : length us ≡ length ts
  pub trees : trees_at new us ≡ instances_of s (trees_at old ts)

-- what was made of parts
abbrev pub Made : Type 0
Made = HashMap ℕ ℕ (BuildHasherDefault FoldHasher)

-- the second type is the first, with the types given for its variables
pub record IsTypeInstance (s : TypeStore) (ps : List (ℕ × ℕ)) (t r : ℕ) : Type 0 where
  pub there : HasType s t
  pub made : HasType s r
  pub tree : type_tree s r ≡ instance_of (subst_tree s ps) (type_tree s t)

-- so is each that is remembered
pub record AllTypeInstances (s : TypeStore) (ps : List (ℕ × ℕ)) (m : Made) : Type 0 where
  pub each : (t r : ℕ) → get_by (nat_eq t) m ≡ Some r → IsTypeInstance s ps t r
