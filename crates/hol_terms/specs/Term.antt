-- Terms as plain trees, and which are typed.
use Rattle.std.specs.Prelude.{◌≡◌, ℕ, ◌+◌, ◌^◌, List, ℤ, pos, negsuc, ◌-◌, ◌<ℤ◌}
use Rattle.hol_types.specs.Ty.{Ty, BoolTy, IntTy, VarTy, FunTy, ConsTy}
use Rattle.hol_terms.specs.declared.node.FreeKind.{FreeKind}

pub data Term : Type 0 where
  FreeTm : (kind : FreeKind) → (name : List ℕ) → (type : Ty) → Term
  BoundTm : (index : ℕ) → (type : Ty) → Term
  ConstTm : (name : List ℕ) → (type : Ty) → Term
  NumTm : (value : ℤ) → Term
  AppTm : (function : Term) → (argument : Term) → Term
  LamTm : (type : Ty) → (body : Term) → Term

-- what a function of the type gives
abbrev pub result_ty : Ty → Ty
result_ty (FunTy a b) = b
result_ty BoolTy = BoolTy
result_ty IntTy = IntTy
result_ty (VarTy n) = VarTy n
result_ty (ConsTy n ts) = ConsTy n ts

-- the type of a term
abbrev pub ty_of : Term → Ty
ty_of (FreeTm k n t) = t
ty_of (BoundTm i t) = t
ty_of (ConstTm n t) = t
ty_of (NumTm z) = IntTy
ty_of (AppTm f x) = result_ty (ty_of f)
ty_of (LamTm t b) = FunTy t (ty_of b)

-- each loose Bound of the index has the type
abbrev pub BoundsFit : Term → ℕ → Ty → Type 0
BoundsFit (FreeTm k n u) i t = Unit {0}
BoundsFit (BoundTm j u) i t = j ≡ i → u ≡ t
BoundsFit (ConstTm n u) i t = Unit {0}
BoundsFit (NumTm z) i t = Unit {0}
BoundsFit (AppTm f x) i t = BoundsFit f i t × BoundsFit x i t
BoundsFit (LamTm u b) i t = BoundsFit b (i + 1) t

-- each application fits, each Bound has the type of its binder, and each number is below 2^127 in absolute value
abbrev pub Typed : Term → Type 0
Typed (FreeTm k n t) = Unit {0}
Typed (BoundTm i t) = Unit {0}
Typed (ConstTm n t) = Unit {0}
Typed (NumTm z) = (negsuc (2 ^ 127 - 1) <ℤ z) × (z <ℤ pos (2 ^ 127))
Typed (AppTm f x) = Typed f × Typed x × (ty_of f ≡ FunTy (ty_of x) (result_ty (ty_of f)))
Typed (LamTm t b) = Typed b × BoundsFit b 0 t
