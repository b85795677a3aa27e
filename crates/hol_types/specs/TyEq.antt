-- Equality of types, as a test that computes.
use Rattle.std.specs.Prelude.{Bool, true, false, ◌&&◌, bytes_eq}
use Rattle.hol_types.specs.Ty.{Ty, Tys, BoolTy, IntTy, VarTy, FunTy, ConsTy, no_types, more_types}

unfoldable mutual
  -- whether the types are equal
  pub ty_eq : Ty → Ty → Bool
  ty_eq BoolTy BoolTy = true
  ty_eq IntTy IntTy = true
  ty_eq (VarTy n) (VarTy m) = bytes_eq n m
  ty_eq (FunTy a b) (FunTy c d) = ty_eq a c && ty_eq b d
  ty_eq (ConsTy n ts) (ConsTy m us) = bytes_eq n m && tys_eq ts us
  ty_eq a b = false

  pub tys_eq : Tys → Tys → Bool
  tys_eq no_types no_types = true
  tys_eq (more_types t ts) (more_types u us) = ty_eq t u && tys_eq ts us
  tys_eq ts us = false
