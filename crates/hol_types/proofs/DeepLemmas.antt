-- The parts of a type are parts of what it is a part of.
use Rattle.std.proofs.Common.{◌≡◌, ◌<◌, ℕ, List, [], ◌∷◌, inl, inr, refl, subst, arith}
use Rattle.std.specs.List.{AllByRecursion}
use Rattle.hol_types.specs.Ty.{Ty, Tys, FunTy, ConsTy}
use Rattle.hol_types.specs.TypeStore.{TypeStore, HasType, text_of, trees_at, type_tree}
use Rattle.hol_types.specs.Deep.{IsAmong, IsTypePart, IsTypePartOf, itself, parameter, result, argument}

-- a type is a part of itself
pub part_itself : (s : TypeStore) (t : ℕ) → HasType s t → IsTypePart s (type_tree s t) t
part_itself s t there = record { there = there; part = itself }

module _ (s : TypeStore) (whole : Ty) where
  pub part_parameter : (t a b : ℕ) → IsTypePart s whole t → type_tree s t ≡ FunTy (type_tree s a) (type_tree s b) → a < t → IsTypePart s whole a
  part_parameter t a b is tree below = let there = is.there in record { there = omega arith; part = parameter (subst (λ u. IsTypePartOf whole u) tree is.part) }

  pub part_result : (t a b : ℕ) → IsTypePart s whole t → type_tree s t ≡ FunTy (type_tree s a) (type_tree s b) → b < t → IsTypePart s whole b
  part_result t a b is tree below = let there = is.there in record { there = omega arith; part = result (subst (λ u. IsTypePartOf whole u) tree is.part) }

  each_argument : (n : List ℕ) (all : Tys) → IsTypePartOf whole (ConsTy n all) → (us : List ℕ) → ((u : Ty) → IsAmong u (trees_at s us) → IsAmong u all) → AllByRecursion (HasType s) us → AllByRecursion (IsTypePart s whole) us
  each_argument n all is [] among there = tt
  each_argument n all is (u ∷ us) among there = (record { there = there.0; part = argument is (among (type_tree s u) (inl refl)) }, each_argument n all is us (λ v h. among v (inr h)) there.1)

  pub part_arguments : (t n : ℕ) (us : List ℕ) → IsTypePart s whole t → type_tree s t ≡ ConsTy (text_of s n) (trees_at s us) → AllByRecursion (HasType s) us → AllByRecursion (IsTypePart s whole) us
  part_arguments t n us is tree there = each_argument (text_of s n) (trees_at s us) (subst (λ u. IsTypePartOf whole u) tree is.part) us (λ u h. h) there

-- parts are there
pub parts_there : (s : TypeStore) (whole : Ty) (ts : List ℕ) → AllByRecursion (IsTypePart s whole) ts → AllByRecursion (HasType s) ts
parts_there s whole [] all = tt
parts_there s whole (t ∷ ts) all = (all.0.there, parts_there s whole ts all.1)
