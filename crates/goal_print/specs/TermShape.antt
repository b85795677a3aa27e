-- The trees, without their places, that types and terms are written as.
use Rattle.std.specs.Prelude.{ℕ, suc, ◌+◌, ◌-◌, List, [], Some, ℤ, pos, negsuc, Bool, if◌then◌else◌, codes}
use Rattle.std.specs.Fmt.{decimal}
use Rattle.hol_types.specs.Ty.{Ty, Tys, BoolTy, IntTy, VarTy, FunTy, ConsTy, no_types, more_types}
use Rattle.hol_terms.specs.Term.{Term, FreeTm, BoundTm, ConstTm, NumTm, AppTm, LamTm}
use Rattle.goal_text.specs.Names.{Constants}
use Rattle.goal_print.specs.Shapes.{Shape, Shapes, AtomShape, ListShape, no_shapes, more_shapes, joined, one_shape}
use Rattle.goal_print.specs.Kinds.{kind_of, goes_on}
use Rattle.goal_print.specs.TermText.{is_schematic, variable_text, word_for}
use Rattle.goal_print.specs.declared.kind.Kind.{Kind}
use Rattle.goal_print.specs.declared.kind.Kind.TheVariants.{Leaf, Application, Conditional, NegatedZero, And, Or, Sum, Product, Forall, Exists, Lambda}

-- ---- types

unfoldable mutual
  pub type_shape : Ty → Shape
  type_shape BoolTy = AtomShape (codes "Bool")
  type_shape IntTy = AtomShape (codes "Int")
  type_shape (VarTy name) = AtomShape name
  type_shape (FunTy a b) = ListShape (more_shapes (AtomShape (codes "->")) (more_shapes (type_shape a) (results_shape b)))
  type_shape (ConsTy name no_types) = AtomShape name
  type_shape (ConsTy name (more_types t ts)) = ListShape (more_shapes (AtomShape name) (more_shapes (type_shape t) (types_shape ts)))

  -- what a function type gives, in the same list
  pub results_shape : Ty → Shapes
  results_shape BoolTy = one_shape (AtomShape (codes "Bool"))
  results_shape IntTy = one_shape (AtomShape (codes "Int"))
  results_shape (VarTy name) = one_shape (AtomShape name)
  results_shape (FunTy a b) = more_shapes (type_shape a) (results_shape b)
  results_shape (ConsTy name no_types) = one_shape (AtomShape name)
  results_shape (ConsTy name (more_types t ts)) = one_shape (ListShape (more_shapes (AtomShape name) (more_shapes (type_shape t) (types_shape ts))))

  pub types_shape : Tys → Shapes
  types_shape no_types = no_shapes
  types_shape (more_types t ts) = more_shapes (type_shape t) (types_shape ts)

-- ---- terms without parts

abbrev pub literal_shape : ℤ → Shape
literal_shape (pos n) = AtomShape (decimal n)
literal_shape (negsuc n) = ListShape (more_shapes (AtomShape (codes "-")) (one_shape (AtomShape (decimal (suc n)))))

abbrev pub constant_shape : Bool → List ℕ → Ty → Shape
constant_shape schematic name type =
    if schematic then ListShape (more_shapes (AtomShape (codes "as")) (more_shapes (AtomShape name) (one_shape (type_shape type)))) else AtomShape (word_for name)

-- ---- terms with parts

abbrev pub binder_shape : ℕ → Ty → Shape
binder_shape depth type = ListShape (more_shapes (AtomShape (variable_text depth)) (one_shape (type_shape type)))

-- what a term is written as: a tree that is no list of a kind, the parts of a list of the kind, or the binders and the body of one
pub data Written : Type 0 where
  Whole : (shape : Shape) → Written
  Listed : (kind : Kind) → (parts : Shapes) → Written
  Chained : (kind : Kind) → (binders : Shapes) → (body : Shape) → Written

-- a list that the word opens
abbrev pub headed_by : List ℕ → Shapes → Shape
headed_by word parts = ListShape (more_shapes (AtomShape word) parts)

-- the list of a kind with its parts
abbrev pub list_shape : Kind → Shapes → Shape
list_shape Leaf parts = ListShape parts
list_shape Application parts = ListShape parts
list_shape Conditional parts = ListShape parts
list_shape NegatedZero parts = headed_by (codes "-") (one_shape (ListShape parts))
list_shape And parts = headed_by (codes "and") parts
list_shape Or parts = headed_by (codes "or") parts
list_shape Sum parts = headed_by (codes "+") parts
list_shape Product parts = headed_by (codes "*") parts
list_shape Forall parts = headed_by (codes "forall") parts
list_shape Exists parts = headed_by (codes "exists") parts
list_shape Lambda parts = headed_by (codes "lambda") parts

-- the list of a kind of binders
abbrev pub chain_shape : Kind → Shapes → Shape → Shape
chain_shape kind binders body = list_shape kind (more_shapes (ListShape binders) (one_shape body))

-- by itself
abbrev pub shape_of : Written → Shape
shape_of (Whole shape) = shape
shape_of (Listed kind parts) = list_shape kind parts
shape_of (Chained kind binders body) = chain_shape kind binders body

-- in a list of the kind, with which a list of that kind goes on
abbrev pub in_list : Kind → Written → Shapes
in_list place (Whole shape) = one_shape shape
in_list place (Listed kind parts) = if goes_on (Some place) kind then parts else one_shape (list_shape kind parts)
in_list place (Chained kind binders body) = one_shape (chain_shape kind binders body)

-- behind binders of the kind: those that follow, and the body
abbrev pub binders_in : Kind → Written → Shapes
binders_in place (Whole shape) = no_shapes
binders_in place (Listed kind parts) = no_shapes
binders_in place (Chained kind binders body) = if goes_on (Some place) kind then binders else no_shapes

abbrev pub body_in : Kind → Written → Shape
body_in place (Whole shape) = shape
body_in place (Listed kind parts) = list_shape kind parts
body_in place (Chained kind binders body) = if goes_on (Some place) kind then body else chain_shape kind binders body

-- a binder of the kind and what stands behind it
abbrev pub chained : Kind → Shape → Written → Written
chained kind binder body = Chained kind (more_shapes binder (binders_in kind body)) (body_in kind body)

-- a function, with its arguments, and one argument more
abbrev pub applied_to : Written → Written → Shapes
applied_to function argument = joined (in_list Application function) (one_shape (shape_of argument))

-- an operation that is nested to the right
abbrev pub right_of : Kind → Written → Written → Written
right_of kind first second = Listed kind (more_shapes (shape_of first) (in_list kind second))

-- an operation that is nested to the left
abbrev pub left_of : Kind → Written → Written → Written
left_of kind first second = Listed kind (joined (in_list kind first) (one_shape (shape_of second)))

-- an application of each kind, of what the function, the function's own argument, the argument and the quantifier's lambda are written as
abbrev pub written_by : Kind → Written → Written → Written → Written → Written
written_by Leaf function first argument bound = Listed Application (applied_to function argument)
written_by Application function first argument bound = Listed Application (applied_to function argument)
written_by Conditional function first argument bound = Listed Conditional (applied_to function argument)
written_by NegatedZero function first argument bound = Listed NegatedZero (applied_to function argument)
written_by And function first argument bound = right_of And first argument
written_by Or function first argument bound = right_of Or first argument
written_by Sum function first argument bound = left_of Sum first argument
written_by Product function first argument bound = left_of Product first argument
written_by Forall function first argument bound = bound
written_by Exists function first argument bound = bound
written_by Lambda function first argument bound = bound

unfoldable mutual
  -- A term within so many binders. A list of the term's own kind goes on with its parts: so applications have all their arguments
  -- in one list, `and` and `or` are joined to the right, `+` and `*` to the left, and binders of one kind stand in one list.
  pub written : Constants → ℕ → Term → Written
  written consts depth (FreeTm kind name type) = Whole (AtomShape name)
  written consts depth (BoundTm index type) = Whole (AtomShape (variable_text (depth - 1 - index)))
  written consts depth (ConstTm name type) = Whole (constant_shape (is_schematic consts name) name type)
  written consts depth (NumTm value) = Whole (literal_shape value)
  written consts depth (LamTm type body) = chained Lambda (binder_shape depth type) (written consts (depth + 1) body)
  written consts depth (AppTm f x) =
      written_by (kind_of f x) (written consts depth f) (first_written consts depth f) (written consts depth x) (bound_written consts (kind_of f x) depth x)

  -- the first argument of an operation
  pub first_written : Constants → ℕ → Term → Written
  first_written consts depth (AppTm f x) = written consts depth x
  first_written consts depth (FreeTm kind name type) = Whole (AtomShape [])
  first_written consts depth (BoundTm index type) = Whole (AtomShape [])
  first_written consts depth (ConstTm name type) = Whole (AtomShape [])
  first_written consts depth (NumTm value) = Whole (AtomShape [])
  first_written consts depth (LamTm type body) = Whole (AtomShape [])

  -- a quantifier's lambda, as a list of the quantifier's kind
  pub bound_written : Constants → Kind → ℕ → Term → Written
  bound_written consts kind depth (LamTm type body) = chained kind (binder_shape depth type) (written consts (depth + 1) body)
  bound_written consts kind depth (FreeTm free name type) = Whole (AtomShape [])
  bound_written consts kind depth (BoundTm index type) = Whole (AtomShape [])
  bound_written consts kind depth (ConstTm name type) = Whole (AtomShape [])
  bound_written consts kind depth (NumTm value) = Whole (AtomShape [])
  bound_written consts kind depth (AppTm f x) = Whole (AtomShape [])

-- a term within so many binders, by itself
abbrev pub term_shape : Constants → ℕ → Term → Shape
term_shape consts depth t = shape_of (written consts depth t)
