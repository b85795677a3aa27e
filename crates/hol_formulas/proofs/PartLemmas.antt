-- The type variables of a part of a term or a type.
use Rattle.std.proofs.Common.{ℕ, List, inl, inr, subst}
use Rattle.hol_types.specs.Deep.{IsAmong, IsTypePartOf}
use Rattle.hol_types.specs.Deep as types
use Rattle.hol_types.specs.Ty.{Ty, Tys, FunTy, ConsTy, no_types, more_types}
use Rattle.hol_types.specs.TypeSubst.{variables_of, variables_of_all}
use Rattle.hol_terms.specs.Deep.{IsPartOf, itself, function, argument, body}
use Rattle.hol_terms.specs.Formula.{In}
use Rattle.hol_terms.specs.Substitution.{type_variables}
use Rattle.hol_terms.specs.Term.{Term, AppTm, LamTm}
use Rattle.hol_terms.proofs.SetLemmas.{in_append_left, in_append_right}

-- they are type variables of the whole
pub type_variables_in_part : (n : List ℕ) (whole t : Term) → IsPartOf whole t → In n (type_variables t) → In n (type_variables whole)
type_variables_in_part n whole _ itself h = h
type_variables_in_part n whole _ (function {f} {x} is) h = type_variables_in_part n whole (AppTm f x) is (in_append_left n (type_variables f) (type_variables x) h)
type_variables_in_part n whole _ (argument {f} {x} is) h = type_variables_in_part n whole (AppTm f x) is (in_append_right n (type_variables f) (type_variables x) h)
type_variables_in_part n whole _ (body {ty} {b} is) h = type_variables_in_part n whole (LamTm ty b) is (in_append_right n (variables_of ty) (type_variables b) h)

variables_among : (n : List ℕ) (t : Ty) (ts : Tys) → IsAmong t ts → In n (variables_of t) → In n (variables_of_all ts)
variables_among n t no_types among h = absurd among
variables_among n t (more_types u us) (inl e) h = in_append_left n (variables_of u) (variables_of_all us) (subst (λ v. In n (variables_of v)) e h)
variables_among n t (more_types u us) (inr among) h = in_append_right n (variables_of u) (variables_of_all us) (variables_among n t us among h)

-- those of a part of a type are the type's
pub variables_in_part : (n : List ℕ) (whole t : Ty) → IsTypePartOf whole t → In n (variables_of t) → In n (variables_of whole)
variables_in_part n whole _ types.itself h = h
variables_in_part n whole _ (types.parameter {a} {b} is) h = variables_in_part n whole (FunTy a b) is (in_append_left n (variables_of a) (variables_of b) h)
variables_in_part n whole _ (types.result {a} {b} is) h = variables_in_part n whole (FunTy a b) is (in_append_right n (variables_of a) (variables_of b) h)
variables_in_part n whole t (types.argument {n = name} {ts} is among) h = variables_in_part n whole (ConsTy name ts) is (variables_among n t ts among h)
