-- Small cases of the definitions, worked by hand.
use Rattle.std.specs.Prelude.{◌≡◌, ℕ, List, [], ◌∷◌, refl}
use Rattle.hol_types.specs.Ty.{BoolTy, IntTy, VarTy, FunTy, ConsTy, no_types, more_types}
use Rattle.hol_types.specs.TypeSubst.{type_for, instance_of, variables_of}

-- 'a, 'b and list
abbrev a : List ℕ
a = 39 ∷ 97 ∷ []

abbrev b : List ℕ
b = 39 ∷ 98 ∷ []

abbrev list : List ℕ
list = 108 ∷ 105 ∷ 115 ∷ 116 ∷ []

-- the first of a name counts, and a name without a type stays
first_counts : type_for ((a, IntTy) ∷ (a, BoolTy) ∷ []) a ≡ IntTy
first_counts = refl

not_given : type_for ((a, IntTy) ∷ []) b ≡ VarTy b
not_given = refl

-- all types at once: a type that is given isn't looked at again
at_once : instance_of ((a, VarTy b) ∷ (b, IntTy) ∷ []) (FunTy (VarTy a) (VarTy b)) ≡ FunTy (VarTy b) IntTy
at_once = refl

in_arguments : instance_of ((a, IntTy) ∷ []) (ConsTy list (more_types (VarTy a) no_types)) ≡ ConsTy list (more_types IntTy no_types)
in_arguments = refl

-- a constructor of a variable's name is no variable
no_constructor : instance_of ((list, IntTy) ∷ []) (ConsTy list (more_types BoolTy no_types)) ≡ ConsTy list (more_types BoolTy no_types)
no_constructor = refl

both_sides : variables_of (FunTy (VarTy a) (ConsTy list (more_types (VarTy b) (more_types IntTy no_types)))) ≡ a ∷ b ∷ []
both_sides = refl
