-- The types that trees are read as.
use Rattle.std.specs.Prelude.{ℕ, List, Ok, Option, Some, None, if◌then◌else◌, nat_lt, nat_eq, bytes_eq, codes}
use Rattle.std.specs.Map.{lookup}
use Rattle.hol_types.specs.Ty.{Ty, Tys, BoolTy, IntTy, VarTy, FunTy, ConsTy, no_types, more_types}
use Rattle.sexp.specs.Tree.{Tree, Trees, AtomTree, QuotedTree, ListTree, no_trees, more_trees, count}
use Rattle.goal_text.specs.declared.fault.GoalKind.TheVariants.{Syntax, UnknownName}
use Rattle.goal_text.specs.Read.{Read, ◌>>=◌, faulty, wanting}
use Rattle.goal_text.specs.Lexicon.{is_name, is_type_variable, misplaced}
use Rattle.goal_text.specs.Names.{Constructors}

-- what a list of types is: (-> T T ..) or (s T ..)
pub data TypeForm : Type 0 where
  Arrows : TypeForm
  Constructed : (name : List ℕ) → TypeForm

-- a constructor that stands alone takes no arguments
abbrev pub alone : Option ℕ → ℕ → List ℕ → Read Ty
alone None at name = faulty UnknownName at
alone (Some arity) at name = wanting (nat_eq arity 0) Syntax at (Ok (ConsTy name no_types))

-- Bool, Int, 'a or s
unfoldable pub type_atom : Constructors → ℕ → List ℕ → Read Ty
type_atom types at text =
    if bytes_eq text (codes "Bool") then Ok BoolTy else
    if bytes_eq text (codes "Int") then Ok IntTy else
    if is_type_variable text then Ok (VarTy text) else
    if is_name text then alone (lookup (bytes_eq text) types) at text else misplaced (AtomTree at text)

-- a constructor with so many arguments behind it
abbrev pub constructed : Option ℕ → ℕ → ℕ → List ℕ → ℕ → Read TypeForm
constructed None at head name n = faulty UnknownName head
constructed (Some arity) at head name n = wanting (nat_eq arity n) Syntax at (Ok (Constructed name))

-- a list by its head, with so many types behind it
abbrev pub type_headed : Constructors → ℕ → Tree → ℕ → Read TypeForm
type_headed types at (AtomTree head text) n =
    if bytes_eq text (codes "->") then wanting (nat_lt 1 n) Syntax at (Ok Arrows) else
    if is_name text then constructed (lookup (bytes_eq text) types) at head text n else misplaced (AtomTree head text)
type_headed types at (QuotedTree head text) n = misplaced (QuotedTree head text)
type_headed types at (ListTree head parts) n = misplaced (ListTree head parts)

-- on entry: the head and the number of parts
unfoldable pub type_form : Constructors → ℕ → Trees → Read TypeForm
type_form types at no_trees = faulty Syntax at
type_form types at (more_trees head parts) = wanting (nat_lt 0 (count parts)) Syntax at (type_headed types at head (count parts))

-- the functions from each type to what follows, nested to the right
abbrev pub arrows : Ty → Tys → Ty
arrows t no_types = t
arrows t (more_types u us) = FunTy t (arrows u us)

-- the type of a form with these types behind its head, of which there is one at least
unfoldable pub type_built : TypeForm → Tys → Ty
type_built Arrows no_types = BoolTy
type_built Arrows (more_types t ts) = arrows t ts
type_built (Constructed name) ts = ConsTy name ts

unfoldable mutual
  -- each list on entry before its parts
  pub type_of : Constructors → Tree → Read Ty
  type_of types (AtomTree at text) = type_atom types at text
  type_of types (QuotedTree at text) = faulty Syntax at
  type_of types (ListTree at parts) = do
    form ← type_form types at parts
    args ← types_behind types parts
    Ok (type_built form args)

  -- the types behind a head
  pub types_behind : Constructors → Trees → Read Tys
  types_behind types no_trees = Ok no_types
  types_behind types (more_trees head parts) = types_of types parts

  -- from left to right
  pub types_of : Constructors → Trees → Read Tys
  types_of types no_trees = Ok no_types
  types_of types (more_trees part parts) = do
    first ← type_of types part
    others ← types_of types parts
    Ok (more_types first others)
