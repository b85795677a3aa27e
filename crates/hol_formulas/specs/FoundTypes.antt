-- The type variables of terms, by the numbers of the types that they are, and what a walk finds of them.
use Rattle.std.specs.Prelude.{◌≡◌, ℕ, List, [], ◌∷◌, ◌++◌, true, nat_eq}
use Rattle.std.specs.HashSet.{HashSet, contains}
use Rattle.std.specs.declared.hash.FoldHasher.{FoldHasher}
use Rattle.std.specs.declared.hash.BuildHasherDefault.{BuildHasherDefault}
use Rattle.hol_types.specs.Ty.{VarTy}
use Rattle.hol_types.specs.TypeStore.{TypeStore, HasType, type_tree}
use Rattle.hol_types.specs.TypeSubst.{TypeSubst, type_for, variables_of}
use Rattle.hol_terms.specs.Term.{Term}
use Rattle.hol_terms.specs.Substitution.{type_variables}
use Rattle.hol_terms.specs.TermStore.{TermStore, term_tree}
use Rattle.hol_terms.specs.Formula.{In}

-- the names of the type variables of terms, each as often as it occurs
abbrev pub type_variables_in : List Term → List (List ℕ)
type_variables_in [] = []
type_variables_in (g ∷ G) = type_variables g ++ type_variables_in G

-- the type is a variable of one of the names
pub record IsVariableOf (s : TypeStore) (names : List (List ℕ)) (t : ℕ) : Type 0 where
  pub there : HasType s t
  pub name : List ℕ
  pub among : In name names
  pub is : type_tree s t ≡ VarTy name

-- a number of the list is that of the variable of the name
pub record HasVariable (s : TypeStore) (found : List ℕ) (name : List ℕ) : Type 0 where
  pub type : ℕ
  pub among : In type found
  pub is : type_tree s type ≡ VarTy name

-- the numbers are those of the variables of the names: of each, and of nothing else
pub record AreTypeVariables (s : TypeStore) (found : List ℕ) (names : List (List ℕ)) : Type 0 where
  pub only : (t : ℕ) → In t found → IsVariableOf s names t
  pub each : (n : List ℕ) → In n names → HasVariable s found n

-- the substitution leaves each of the type variables as it is
abbrev pub LeavesEach : TypeSubst → List (List ℕ) → Type 0
LeavesEach s names = (n : List ℕ) → In n names → type_for s n ≡ VarTy n

-- ---- as the walk goes on

-- the variable of each of the names has its number in the list
pub record FindsTypes (s : TypeStore) (found : List ℕ) (names : List (List ℕ)) : Type 0 where
  pub each : (n : List ℕ) → In n names → HasVariable s found n

-- the list has grown by numbers of variables of the names
pub record AddsTypes (s : TypeStore) (old new : List ℕ) (names : List (List ℕ)) : Type 0 where
  pub added : List ℕ
  pub is : new ≡ old ++ added
  pub only : (t : ℕ) → In t added → IsVariableOf s names t

-- the type variables of each of the types are found
pub record AllTypesFound (s : TypeStore) (found : List ℕ) (parts : HashSet ℕ (BuildHasherDefault FoldHasher)) : Type 0 where
  pub each : (t : ℕ) → contains nat_eq parts t ≡ true → FindsTypes s found (variables_of (type_tree s t))

-- the type variables of each of the terms are found
pub record AllTermsFound (s : TermStore) (found : List ℕ) (parts : HashSet ℕ (BuildHasherDefault FoldHasher)) : Type 0 where
  pub each : (t : ℕ) → contains nat_eq parts t ≡ true → FindsTypes s.types found (type_variables (term_tree s t))
