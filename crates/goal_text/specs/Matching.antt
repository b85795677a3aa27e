-- The types for a constant's type variables.
use Rattle.std.specs.Prelude.{ℕ, List, [], ◌∷◌, Option, Some, None, Bool, true, false, if◌then◌else◌, is_some, bytes_eq, Ok}
use Rattle.std.specs.List.{list_all}
use Rattle.std.specs.Map.{lookup}
use Rattle.hol_types.specs.Ty.{Ty, Tys, BoolTy, IntTy, VarTy, FunTy, ConsTy, no_types, more_types}
use Rattle.hol_types.specs.TyEq.{ty_eq}
use Rattle.hol_types.specs.TypeSubst.{TypeSubst, instance_of, variables_of}
use Rattle.hol_terms.specs.Term.{Term, ConstTm}
use Rattle.goal_text.specs.declared.fault.GoalKind.TheVariants.{IllTyped, FreeTypeVariable}
use Rattle.goal_text.specs.Read.{Read, faulty, wanting}

infixl 10 ◌>>?◌
abbrev pub ◌>>?◌ : {A B : Type 0} → Option A → (A → Option B) → Option B
None >>? f = None
(Some x) >>? f = f x

-- the two sides of a function type
abbrev pub sides : Ty → Option (Ty × Ty)
sides BoolTy = None
sides IntTy = None
sides (VarTy n) = None
sides (FunTy a b) = Some (a, b)
sides (ConsTy n ts) = None

-- the arguments of a constructor
abbrev pub args_of : List ℕ → Ty → Option Tys
args_of name BoolTy = None
args_of name IntTy = None
args_of name (VarTy n) = None
args_of name (FunTy a b) = None
args_of name (ConsTy n ts) = if bytes_eq name n then Some ts else None

-- a variable keeps the type that it is given, or is given one
abbrev pub giving : Option Ty → List ℕ → Ty → TypeSubst → Option TypeSubst
giving None name t s = Some ((name, t) ∷ s)
giving (Some u) name t s = if ty_eq u t then Some s else None

unfoldable mutual
  -- the least types besides those given, under which the pattern is the type
  pub match_ty : TypeSubst → Ty → Ty → Option TypeSubst
  match_ty s BoolTy t = if ty_eq BoolTy t then Some s else None
  match_ty s IntTy t = if ty_eq IntTy t then Some s else None
  match_ty s (VarTy name) t = giving (lookup (bytes_eq name) s) name t s
  match_ty s (FunTy a b) t = sides t >>? λ p. (match_ty s a p.0 >>? λ r. match_ty r b p.1)
  match_ty s (ConsTy name ps) t = args_of name t >>? λ ts. match_tys s ps ts

  pub match_tys : TypeSubst → Tys → Tys → Option TypeSubst
  match_tys s no_types no_types = Some s
  match_tys s no_types (more_types t ts) = None
  match_tys s (more_types p ps) no_types = None
  match_tys s (more_types p ps) (more_types t ts) = match_ty s p t >>? λ r. match_tys r ps ts

-- the pattern is the type under some types for its variables
abbrev pub is_instance : Ty → Ty → Bool
is_instance pattern t = is_some (match_ty [] pattern t)

-- The least types under which the parameters of a type are the types given, one parameter for each as far as there are so many.
unfoldable pub match_parameters : TypeSubst → Ty → List Ty → Option TypeSubst
match_parameters s (FunTy a b) (t ∷ ts) = match_ty s a t >>? λ r. match_parameters r b ts
match_parameters s (FunTy a b) [] = Some s
match_parameters s BoolTy ts = Some s
match_parameters s IntTy ts = Some s
match_parameters s (VarTy n) ts = Some s
match_parameters s (ConsTy n us) ts = Some s

-- each variable of the type is given a type
abbrev pub covers : TypeSubst → Ty → Bool
covers s t = list_all (λ n. is_some (lookup (bytes_eq n) s)) (variables_of t)

abbrev pub instance_by : Option TypeSubst → ℕ → ℕ → List ℕ → Ty → Read Term
instance_by None at head name type = faulty IllTyped at
instance_by (Some s) at head name type = wanting (covers s type) FreeTypeVariable head (Ok (ConstTm name (instance_of s type)))

-- the constant at the instance of its type that these types of its arguments give
unfoldable pub instance_for : ℕ → ℕ → List ℕ → Ty → List Ty → Read Term
instance_for at head name type ts = instance_by (match_parameters [] type ts) at head name type

-- there are none
abbrev pub are_none : List (List ℕ) → Bool
are_none [] = true
are_none (n ∷ ns) = false

-- a type without type variables
abbrev pub is_ground : Ty → Bool
is_ground t = are_none (variables_of t)
