-- A type is written as the text of its shape.
use Rattle.std.proofs.Common.{◌≡◌, [], ◌∷◌, ◌++◌, true, false, refl, ap, sym, ◌∙◌}
use Rattle.std.proofs.lemmas.List.{append-nil}
use Rattle.hol_types.specs.Ty.{Ty, Tys, BoolTy, IntTy, VarTy, FunTy, ConsTy, no_types, more_types}
use Rattle.goal_print.specs.Shapes.{shape_text, shapes_text, behind_text}
use Rattle.goal_print.specs.TypeText.{type_in, types_text}
use Rattle.goal_print.specs.TermShape.{type_shape, results_shape, types_shape}

mutual
  unfolding type_in types_text type_shape results_shape types_shape shape_text shapes_text behind_text

  pub type_written : (ty : Ty) → type_in false ty ≡ shape_text (type_shape ty)
  type_written BoolTy = refl
  type_written IntTy = refl
  type_written (VarTy name) = refl
  type_written (FunTy a b) = rw (type_written a, results_written b) refl
  type_written (ConsTy name no_types) = append-nil (name ++ []) ∙ append-nil name
  type_written (ConsTy name (more_types t ts)) = rw (type_written t, types_written ts) refl

  -- what a function type gives, in the same list
  pub results_written : (ty : Ty) → type_in true ty ≡ behind_text (results_shape ty)
  results_written BoolTy = refl
  results_written IntTy = refl
  results_written (VarTy name) = ap (λ text. 32 ∷ text) (sym (append-nil name))
  results_written (FunTy a b) = rw (type_written a, results_written b) (append-nil _)
  results_written (ConsTy name no_types) = ap (λ text. 32 ∷ text) (append-nil (name ++ []))
  results_written (ConsTy name (more_types t ts)) = rw (type_written t, types_written ts) (sym (append-nil _))

  pub types_written : (ts : Tys) → types_text ts ≡ behind_text (types_shape ts)
  types_written no_types = refl
  types_written (more_types t ts) = rw (type_written t, types_written ts) refl
