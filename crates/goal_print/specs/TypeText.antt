-- How a type is written in a goal file.
use Rattle.std.specs.Prelude.{ℕ, List, [], ◌++◌, Bool, true, false, not, if◌then◌else◌, codes}
use Rattle.hol_types.specs.Ty.{Ty, Tys, BoolTy, IntTy, VarTy, FunTy, ConsTy, no_types, more_types}

-- a text where the flag holds
abbrev pub text_if : Bool → List ℕ → List ℕ
text_if holds text = if holds then text else []

-- there are types
abbrev pub are_some : Tys → Bool
are_some no_types = false
are_some (more_types t ts) = true

unfoldable mutual
  -- A type: by itself, or where it is given, as what the function type gives whose list it stands in. So each `(-> ..)` has
  -- its longest chain.
  pub type_in : Bool → Ty → List ℕ
  type_in given BoolTy = text_if given (codes " ") ++ codes "Bool"
  type_in given IntTy = text_if given (codes " ") ++ codes "Int"
  type_in given (VarTy name) = text_if given (codes " ") ++ name
  type_in given (FunTy a b) =
      text_if (not given) (codes "(->") ++ codes " " ++ type_in false a ++ type_in true b ++ text_if (not given) (codes ")")
  type_in given (ConsTy name ts) =
      text_if given (codes " ") ++ text_if (are_some ts) (codes "(") ++ name ++ types_text ts ++ text_if (are_some ts) (codes ")")

  -- types, a blank before each
  pub types_text : Tys → List ℕ
  types_text no_types = []
  types_text (more_types t ts) = codes " " ++ type_in false t ++ types_text ts
