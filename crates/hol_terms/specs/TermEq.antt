-- Equality of terms, as a test that computes.
use Rattle.std.specs.Prelude.{Bool, true, false, ◌&&◌, ◌==◌, bytes_eq}
use Rattle.std.specs.Ordering.{int_eq}
use Rattle.hol_types.specs.TyEq.{ty_eq}
use Rattle.hol_terms.specs.Term.{Term, FreeTm, BoundTm, ConstTm, NumTm, AppTm, LamTm}
use Rattle.hol_terms.specs.declared.node.FreeKind.{FreeKind}
use Rattle.hol_terms.specs.declared.node.FreeKind.TheVariants.{Open, Symbol, Lifted, Schematic}

-- whether the kinds are equal
unfoldable pub kind_eq : FreeKind → FreeKind → Bool
kind_eq Open Open = true
kind_eq Symbol Symbol = true
kind_eq Lifted Lifted = true
kind_eq Schematic Schematic = true
kind_eq k l = false

-- whether the terms are equal
unfoldable pub term_eq : Term → Term → Bool
term_eq (FreeTm k n t) (FreeTm l m u) = kind_eq k l && bytes_eq n m && ty_eq t u
term_eq (BoundTm i t) (BoundTm j u) = (i == j) && ty_eq t u
term_eq (ConstTm n t) (ConstTm m u) = bytes_eq n m && ty_eq t u
term_eq (NumTm z) (NumTm w) = int_eq z w
term_eq (AppTm f x) (AppTm g y) = term_eq f g && term_eq x y
term_eq (LamTm t b) (LamTm u c) = ty_eq t u && term_eq b c
term_eq s t = false
