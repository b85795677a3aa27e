-- Instances of a term: first-order, with terms for its Schematic variables, whose types are the variables' own. Type variables and
-- free variables of other kinds stay. (`Instance` of hol_terms, a fact at given types, is another thing.)
use Rattle.std.specs.Prelude.{◌≡◌, List, [], ◌∷◌, ◌++◌, fold, if◌then◌else◌}
use Rattle.std.specs.List.{list_any}
use Rattle.hol_types.specs.Ty.{Ty, IntTy, FunTy}
use Rattle.hol_terms.specs.Term.{Term, FreeTm, BoundTm, ConstTm, NumTm, AppTm, LamTm, ty_of, result_ty}
use Rattle.hol_terms.specs.TermEq.{term_eq}
use Rattle.hol_terms.specs.Formula.{In}
use Rattle.hol_terms.specs.Substitution.{IsClosed}
use Rattle.hol_terms.specs.declared.node.FreeKind.TheVariants.{Open, Symbol, Lifted, Schematic}

-- the term is a Schematic variable
abbrev pub IsSchematic : Term → Type 0
IsSchematic (FreeTm k n t) = k ≡ Schematic
IsSchematic (BoundTm i t) = ⊥
IsSchematic (ConstTm n t) = ⊥
IsSchematic (NumTm z) = ⊥
IsSchematic (AppTm f x) = ⊥
IsSchematic (LamTm t b) = ⊥

-- the term may be put for the variable: the variable is Schematic, the term has its type and no loose Bound
pub record Substitutable (v t : Term) : Type 0 where
  pub schematic : IsSchematic v
  pub type : ty_of t ≡ ty_of v
  pub closed : IsClosed t

-- a term for each Schematic variable
pub record IsInstantiation (σ : Term → Term) : Type 0 where
  pub each : (v : Term) → IsSchematic v → Substitutable v (σ v)

-- the term with these terms for its Schematic variables
abbrev pub instance_by : (Term → Term) → Term → Term
instance_by σ (FreeTm Schematic n t) = σ (FreeTm Schematic n t)
instance_by σ (FreeTm Open n t) = FreeTm Open n t
instance_by σ (FreeTm Symbol n t) = FreeTm Symbol n t
instance_by σ (FreeTm Lifted n t) = FreeTm Lifted n t
instance_by σ (BoundTm i t) = BoundTm i t
instance_by σ (ConstTm n t) = ConstTm n t
instance_by σ (NumTm z) = NumTm z
instance_by σ (AppTm f x) = AppTm (instance_by σ f) (instance_by σ x)
instance_by σ (LamTm t b) = LamTm t (instance_by σ b)

-- with some terms for its Schematic variables the pattern is the term
pub record Instance (pattern term : Term) : Type 0 where
  pub terms : Term → Term
  pub lawful : IsInstantiation terms
  pub is : instance_by terms pattern ≡ term

-- the Schematic variables of a term from left to right, each as often as it occurs
abbrev pub schematic_variables : Term → List Term
schematic_variables (FreeTm Schematic n t) = FreeTm Schematic n t ∷ []
schematic_variables (FreeTm Open n t) = []
schematic_variables (FreeTm Symbol n t) = []
schematic_variables (FreeTm Lifted n t) = []
schematic_variables (BoundTm i t) = []
schematic_variables (ConstTm n t) = []
schematic_variables (NumTm z) = []
schematic_variables (AppTm f x) = schematic_variables f ++ schematic_variables x
schematic_variables (LamTm t b) = schematic_variables b

-- the list with one more, where it is new
abbrev pub with_new : List Term → Term → List Term
with_new vs v = if list_any (term_eq v) vs then vs else vs ++ v ∷ []

-- the variables of the pattern, each once, by first occurrence
abbrev pub variables_once : Term → List Term
variables_once pattern = fold with_new [] (schematic_variables pattern)

-- each stands once
abbrev pub EachOnce : List Term → Type 0
EachOnce [] = Unit {0}
EachOnce (v ∷ vs) = (In v vs → ⊥) × EachOnce vs

-- the types of a term and of its parts
abbrev pub types_in : Term → List Ty
types_in (FreeTm k n t) = t ∷ []
types_in (BoundTm i t) = t ∷ []
types_in (ConstTm n t) = t ∷ []
types_in (NumTm z) = IntTy ∷ []
types_in (AppTm f x) = result_ty (ty_of f) ∷ types_in f ++ types_in x
types_in (LamTm t b) = FunTy t (ty_of b) ∷ types_in b

-- each type of the pattern occurs in the term
pub record TypesOccur (pattern term : Term) : Type 0 where
  pub each : (u : Ty) → In u (types_in pattern) → In u (types_in term)
