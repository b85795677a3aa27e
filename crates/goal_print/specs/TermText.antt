-- How a term is written in a goal file.
use Rattle.std.specs.Prelude.{ℕ, suc, ◌+◌, ◌-◌, List, [], ◌++◌, Bool, false, ◌&&◌, not, if◌then◌else◌, bytes_eq, codes, Option, Some, None, ℤ, pos, negsuc}
use Rattle.std.specs.Fmt.{decimal}
use Rattle.std.specs.List.{list_any}
use Rattle.hol_types.specs.Ty.{Ty}
use Rattle.hol_terms.specs.Term.{Term, FreeTm, BoundTm, ConstTm, NumTm, AppTm, LamTm}
use Rattle.goal_text.specs.Names.{Constants}
use Rattle.goal_text.specs.Matching.{is_ground}
use Rattle.goal_print.specs.TypeText.{type_in}
use Rattle.goal_print.specs.Kinds.{kind_of, lead, open_list, close_list}
use Rattle.goal_print.specs.declared.kind.Kind.{Kind}
use Rattle.goal_print.specs.declared.kind.Kind.TheVariants.{Leaf, Application, Conditional, NegatedZero, And, Or, Sum, Product, Forall, Exists, Lambda}

-- ---- terms without parts

-- a negative number is a list
abbrev pub literal_text : ℤ → List ℕ
literal_text (pos n) = decimal n
literal_text (negsuc n) = codes "(- " ++ decimal (suc n) ++ codes ")"

-- the variable of a binder that has so many round it
abbrev pub variable_text : ℕ → List ℕ
variable_text k = codes "?v" ++ decimal k

-- the constants of HOL that the grammar writes by another word than their name
unfoldable pub word_for : List ℕ → List ℕ
word_for name =
    if bytes_eq name (codes "eq") then codes "=" else
    if bytes_eq name (codes "neg") then codes "-" else
    if bytes_eq name (codes "sub") then codes "-" else
    if bytes_eq name (codes "le") then codes "<=" else
    if bytes_eq name (codes "lt") then codes "<" else name

-- a constant of the name is declared with type variables
unfoldable pub is_schematic : Constants → List ℕ → Bool
is_schematic consts name = list_any (λ c. bytes_eq name c.0 && not (is_ground c.1)) consts

-- a constant by its word, or with its type
abbrev pub constant_text : Bool → List ℕ → Ty → List ℕ
constant_text schematic name type =
    if schematic then codes "(as " ++ name ++ codes " " ++ type_in false type ++ codes ")" else word_for name

-- ---- terms with parts

-- a variable with its type, within so many binders
abbrev pub binder_text : ℕ → Ty → List ℕ
binder_text depth type = codes "(" ++ variable_text depth ++ codes " " ++ type_in false type ++ codes ")"

-- the parts of an application, by its kind
abbrev pub parts_text : Kind → List ℕ → List ℕ → List ℕ → List ℕ → List ℕ
parts_text Leaf applied right left bound = applied
parts_text Application applied right left bound = applied
parts_text Conditional applied right left bound = applied
parts_text NegatedZero applied right left bound = applied
parts_text And applied right left bound = right
parts_text Or applied right left bound = right
parts_text Sum applied right left bound = left
parts_text Product applied right left bound = left
parts_text Forall applied right left bound = bound
parts_text Exists applied right left bound = bound
parts_text Lambda applied right left bound = bound

unfoldable mutual
  -- A term within so many binders, by itself, or as the part of a list of some kind. A list of the term's own kind goes on
  -- with its parts: so applications have all their arguments in one list, `and` and `or` are joined to the right, `+` and `*`
  -- to the left, and binders of one kind stand in one list.
  pub text_in : Constants → Option Kind → ℕ → Term → List ℕ
  text_in consts place depth (FreeTm kind name type) = lead place Leaf ++ name
  text_in consts place depth (BoundTm index type) = lead place Leaf ++ variable_text (depth - 1 - index)
  text_in consts place depth (ConstTm name type) = lead place Leaf ++ constant_text (is_schematic consts name) name type
  text_in consts place depth (NumTm value) = lead place Leaf ++ literal_text value
  text_in consts place depth (LamTm type body) =
      lead place Lambda ++ open_list place Lambda
      ++ binder_text depth type ++ text_in consts (Some Lambda) (depth + 1) body
      ++ close_list place Lambda
  text_in consts place depth (AppTm f x) =
      lead place (kind_of f x) ++ open_list place (kind_of f x)
      ++ parts_text (kind_of f x)
      (text_in consts (Some Application) depth f ++ codes " " ++ text_in consts None depth x)
      (codes " " ++ first_in consts None depth f ++ text_in consts (Some (kind_of f x)) depth x)
      (first_in consts (Some (kind_of f x)) depth f ++ codes " " ++ text_in consts None depth x)
      (body_in consts (kind_of f x) depth x)
      ++ close_list place (kind_of f x)

  -- the first argument of an operation
  pub first_in : Constants → Option Kind → ℕ → Term → List ℕ
  first_in consts place depth (AppTm f x) = text_in consts place depth x
  first_in consts place depth (FreeTm kind name type) = []
  first_in consts place depth (BoundTm index type) = []
  first_in consts place depth (ConstTm name type) = []
  first_in consts place depth (NumTm value) = []
  first_in consts place depth (LamTm type body) = []

  -- the variable and the body of a quantifier's lambda
  pub body_in : Constants → Kind → ℕ → Term → List ℕ
  body_in consts kind depth (LamTm type body) = binder_text depth type ++ text_in consts (Some kind) (depth + 1) body
  body_in consts kind depth (FreeTm free name type) = []
  body_in consts kind depth (BoundTm index type) = []
  body_in consts kind depth (ConstTm name type) = []
  body_in consts kind depth (NumTm value) = []
  body_in consts kind depth (AppTm f x) = []

-- a goal under the declared constants
abbrev pub goal_text : Constants → Term → List ℕ
goal_text consts goal = text_in consts None 0 goal
