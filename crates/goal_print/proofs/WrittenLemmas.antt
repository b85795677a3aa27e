-- The shape of a given term has a text that is read: its atoms consist of letters of atoms.
use Rattle.std.proofs.Common.{◌≡◌, ℕ, suc, ◌+◌, ◌-◌, List, Bool, true, false, Some, ℤ, pos, negsuc, codes, refl, sym, ◌∙◌, if◌then◌else◌}
use Rattle.std.proofs.lemmas.Bool.{true≢false}
use Rattle.sexp.specs.Bytes.{class_of}
use Rattle.hol_types.specs.Ty.{Ty, Tys, BoolTy, IntTy, VarTy, FunTy, ConsTy, no_types, more_types}
use Rattle.hol_terms.specs.Term.{Term, FreeTm, BoundTm, ConstTm, NumTm, AppTm, LamTm}
use Rattle.goal_text.specs.Lexicon.{is_name}
use Rattle.goal_text.specs.Names.{Constructors, Constants}
use Rattle.goal_print.specs.Shapes.{Shape, Shapes, AtomShape, ListShape, no_shapes, more_shapes, joined, one_shape, IsAtomText, IsWritten, AreWritten}
use Rattle.goal_print.specs.Kinds.{kind_of, goes_on}
use Rattle.goal_print.specs.TermText.{variable_text, is_schematic}
use Rattle.goal_print.specs.TermShape.{type_shape, results_shape, types_shape, literal_shape, constant_shape, binder_shape, Written, Whole, Listed, Chained, list_shape, chain_shape, shape_of, in_list, binders_in, body_in, chained, applied_to, written_by, written, first_written, bound_written, term_shape}
use Rattle.goal_text.specs.Given.{IsGivenType, AreGivenTypes, IsGiven, given_bound, given_constant, given_number, given_negative, given_true, given_false, given_not, given_and, given_or, given_implies, given_equation, given_conditional, given_add, given_mul, given_sub, given_neg, given_at_most, given_less, given_quotient, given_remainder, given_all, given_ex, given_lambda, given_application}
use Rattle.goal_print.specs.Under.{IsOnce}
use Rattle.goal_print.specs.declared.kind.Kind.{Kind}
use Rattle.goal_print.specs.declared.kind.Kind.TheVariants.{Leaf, Application, Conditional, NegatedZero, And, Or, Sum, Product, Forall, Exists, Lambda}
use Rattle.goal_print.proofs.LetterLemmas.{name_is, type_variable_is, word_is, decimal_letters, variable_is}
use Rattle.goal_print.proofs.TermTextLemmas.{HasArgument, IsLambda, Applies, applies}

-- ---- types

mutual
  unfolding IsWritten AreWritten IsGivenType AreGivenTypes type_shape results_shape types_shape class_of

  pub type_is_written : (types : Constructors) (ty : Ty) → IsGivenType types ty → IsWritten (type_shape ty)
  type_is_written types BoolTy given = (refl, (refl, (refl, (refl, tt))))
  type_is_written types IntTy given = (refl, (refl, (refl, tt)))
  type_is_written types (VarTy name) given = type_variable_is name given
  type_is_written types (FunTy a b) given = ((refl, (refl, tt)), (type_is_written types a given.0, results_are_written types b given.1))
  type_is_written types (ConsTy name no_types) given = name_is name given.0
  type_is_written types (ConsTy name (more_types t ts)) given = (name_is name given.0, (type_is_written types t given.2.0, types_are_written types ts given.2.1))

  results_are_written : (types : Constructors) (ty : Ty) → IsGivenType types ty → AreWritten (results_shape ty)
  results_are_written types BoolTy given = ((refl, (refl, (refl, (refl, tt)))), tt)
  results_are_written types IntTy given = ((refl, (refl, (refl, tt))), tt)
  results_are_written types (VarTy name) given = (type_variable_is name given, tt)
  results_are_written types (FunTy a b) given = (type_is_written types a given.0, results_are_written types b given.1)
  results_are_written types (ConsTy name no_types) given = (name_is name given.0, tt)
  results_are_written types (ConsTy name (more_types t ts)) given = ((name_is name given.0, (type_is_written types t given.2.0, types_are_written types ts given.2.1)), tt)

  types_are_written : (types : Constructors) (ts : Tys) → AreGivenTypes types ts → AreWritten (types_shape ts)
  types_are_written types no_types given = tt
  types_are_written types (more_types t ts) given = (type_is_written types t given.0, types_are_written types ts given.1)

-- ---- what is written of a term

-- the shapes that it consists of are written
abbrev IsLettered : Written → Type 0
IsLettered (Whole shape) = IsWritten shape
IsLettered (Listed kind parts) = AreWritten parts
IsLettered (Chained kind binders body) = AreWritten binders × IsWritten body

list_lettered : (kind : Kind) (parts : Shapes) → AreWritten parts → IsWritten (list_shape kind parts)
unfolding IsWritten AreWritten class_of
list_lettered Leaf parts are = are
list_lettered Application parts are = are
list_lettered Conditional parts are = are
list_lettered NegatedZero parts are = ((refl, tt), (are, tt))
list_lettered And parts are = ((refl, (refl, (refl, tt))), are)
list_lettered Or parts are = ((refl, (refl, tt)), are)
list_lettered Sum parts are = ((refl, tt), are)
list_lettered Product parts are = ((refl, tt), are)
list_lettered Forall parts are = ((refl, (refl, (refl, (refl, (refl, (refl, tt)))))), are)
list_lettered Exists parts are = ((refl, (refl, (refl, (refl, (refl, (refl, tt)))))), are)
list_lettered Lambda parts are = ((refl, (refl, (refl, (refl, (refl, (refl, tt)))))), are)

chain_lettered : (kind : Kind) (binders : Shapes) (body : Shape) → AreWritten binders → IsWritten body → IsWritten (chain_shape kind binders body)
unfolding IsWritten AreWritten
chain_lettered kind binders body are is = list_lettered kind (more_shapes (ListShape binders) (one_shape body)) (are, (is, tt))

shape_lettered : (w : Written) → IsLettered w → IsWritten (shape_of w)
shape_lettered (Whole shape) is = is
shape_lettered (Listed kind parts) is = list_lettered kind parts is
shape_lettered (Chained kind binders body) is = chain_lettered kind binders body is.0 is.1

one_lettered : (s : Shape) → IsWritten s → AreWritten (one_shape s)
unfolding AreWritten
one_lettered s is = (is, tt)

joined_lettered : (parts others : Shapes) → AreWritten parts → AreWritten others → AreWritten (joined parts others)
unfolding AreWritten
joined_lettered no_shapes others are further = further
joined_lettered (more_shapes first rest) others are further = (are.0, joined_lettered rest others are.1 further)

in_list_lettered : (place : Kind) (w : Written) → IsLettered w → AreWritten (in_list place w)
in_list_lettered place (Whole shape) is = one_lettered shape is
in_list_lettered place (Listed kind parts) is = by (goes_on (Some place) kind)
  where
    by : (on : Bool) → AreWritten (if on then parts else one_shape (list_shape kind parts))
    by true = is
    by false = one_lettered (list_shape kind parts) (list_lettered kind parts is)
in_list_lettered place (Chained kind binders body) is = one_lettered (chain_shape kind binders body) (chain_lettered kind binders body is.0 is.1)

no_lettered : AreWritten no_shapes
unfolding AreWritten
no_lettered = tt

binders_lettered : (place : Kind) (w : Written) → IsLettered w → AreWritten (binders_in place w)
binders_lettered place (Whole shape) is = no_lettered
binders_lettered place (Listed kind parts) is = no_lettered
binders_lettered place (Chained kind binders body) is = by (goes_on (Some place) kind)
  where
    by : (on : Bool) → AreWritten (if on then binders else no_shapes)
    by true = is.0
    by false = no_lettered

body_lettered : (place : Kind) (w : Written) → IsLettered w → IsWritten (body_in place w)
body_lettered place (Whole shape) is = is
body_lettered place (Listed kind parts) is = list_lettered kind parts is
body_lettered place (Chained kind binders body) is = by (goes_on (Some place) kind)
  where
    by : (on : Bool) → IsWritten (if on then body else chain_shape kind binders body)
    by true = is.1
    by false = chain_lettered kind binders body is.0 is.1

chained_lettered : (kind : Kind) (binder : Shape) (body : Written) → IsWritten binder → IsLettered body → IsLettered (chained kind binder body)
unfolding AreWritten
chained_lettered kind binder body is are = ((is, binders_lettered kind body are), body_lettered kind body are)

applied_lettered : (function argument : Written) → IsLettered function → IsLettered argument → AreWritten (applied_to function argument)
applied_lettered function argument f a =
    joined_lettered (in_list Application function) (one_shape (shape_of argument)) (in_list_lettered Application function f) (one_lettered (shape_of argument) (shape_lettered argument a))

right_lettered : (kind : Kind) (first second : Written) → IsLettered first → IsLettered second → AreWritten (more_shapes (shape_of first) (in_list kind second))
unfolding AreWritten
right_lettered kind first second f s = (shape_lettered first f, in_list_lettered kind second s)

left_lettered : (kind : Kind) (first second : Written) → IsLettered first → IsLettered second → AreWritten (joined (in_list kind first) (one_shape (shape_of second)))
left_lettered kind first second f s = joined_lettered (in_list kind first) (one_shape (shape_of second)) (in_list_lettered kind first f) (one_lettered (shape_of second) (shape_lettered second s))

written_by_lettered : (kind : Kind) (function first argument bound : Written) (f x : Term) → Applies kind f x
    → IsLettered function → (HasArgument f → IsLettered first) → IsLettered argument → (IsLambda x → IsLettered bound) → IsLettered (written_by kind function first argument bound)
written_by_lettered Leaf function first argument bound f x is g h a b = absurd is
written_by_lettered Application function first argument bound f x is g h a b = applied_lettered function argument g a
written_by_lettered Conditional function first argument bound f x is g h a b = applied_lettered function argument g a
written_by_lettered NegatedZero function first argument bound f x is g h a b = applied_lettered function argument g a
written_by_lettered And function first argument bound f x is g h a b = right_lettered And first argument (h is) a
written_by_lettered Or function first argument bound f x is g h a b = right_lettered Or first argument (h is) a
written_by_lettered Sum function first argument bound f x is g h a b = left_lettered Sum first argument (h is) a
written_by_lettered Product function first argument bound f x is g h a b = left_lettered Product first argument (h is) a
written_by_lettered Forall function first argument bound f x is g h a b = b is
written_by_lettered Exists function first argument bound f x is g h a b = b is
written_by_lettered Lambda function first argument bound f x is g h a b = absurd is

-- ---- terms

-- names and types that are written consist of letters of atoms
abbrev HasLetters : Constants → Term → Type 0
HasLetters consts (FreeTm kind name type) = IsAtomText name
HasLetters consts (BoundTm index type) = Unit {0}
HasLetters consts (ConstTm name type) = IsAtomText name × (is_schematic consts name ≡ true → IsWritten (type_shape type))
HasLetters consts (NumTm value) = Unit {0}
HasLetters consts (AppTm f x) = HasLetters consts f × HasLetters consts x
HasLetters consts (LamTm type body) = IsWritten (type_shape type) × HasLetters consts body

atom_lettered : (text : List ℕ) → IsAtomText text → IsWritten (AtomShape text)
unfolding IsWritten
atom_lettered text is = is

literal_lettered : (value : ℤ) → IsWritten (literal_shape value)
unfolding IsWritten AreWritten class_of
literal_lettered (pos n) = decimal_letters n
literal_lettered (negsuc n) = ((refl, tt), (decimal_letters (suc n), tt))

constant_lettered : (schematic : Bool) (name : List ℕ) (type : Ty) → IsAtomText name → (schematic ≡ true → IsWritten (type_shape type)) → IsWritten (constant_shape schematic name type)
unfolding IsWritten AreWritten class_of
constant_lettered true name type is typed = ((refl, (refl, tt)), (is, (typed refl, tt)))
constant_lettered false name type is typed = word_is name is

binder_lettered : (depth : ℕ) (type : Ty) → IsWritten (type_shape type) → IsWritten (binder_shape depth type)
unfolding IsWritten AreWritten
binder_lettered depth type is = (variable_is depth, (is, tt))

mutual
  unfolding written first_written bound_written

  written_lettered : (consts : Constants) (depth : ℕ) (t : Term) → HasLetters consts t → IsLettered (written consts depth t)
  written_lettered consts depth (FreeTm kind name type) has = atom_lettered name has
  written_lettered consts depth (BoundTm index type) has = atom_lettered (variable_text (depth - 1 - index)) (variable_is (depth - 1 - index))
  written_lettered consts depth (ConstTm name type) has = constant_lettered (is_schematic consts name) name type has.0 has.1
  written_lettered consts depth (NumTm value) has = literal_lettered value
  written_lettered consts depth (LamTm type body) has =
      chained_lettered Lambda (binder_shape depth type) (written consts (depth + 1) body) (binder_lettered depth type has.0) (written_lettered consts (depth + 1) body has.1)
  written_lettered consts depth (AppTm f x) has =
      written_by_lettered (kind_of f x) (written consts depth f) (first_written consts depth f) (written consts depth x) (bound_written consts (kind_of f x) depth x) f x (applies f x)
      (written_lettered consts depth f has.0) (λ is. first_lettered consts depth f is has.0) (written_lettered consts depth x has.1) (λ is. bound_lettered consts (kind_of f x) depth x is has.1)

  first_lettered : (consts : Constants) (depth : ℕ) (t : Term) → HasArgument t → HasLetters consts t → IsLettered (first_written consts depth t)
  first_lettered consts depth (AppTm f x) is has = written_lettered consts depth x has.1
  first_lettered consts depth (FreeTm kind name type) is has = absurd is
  first_lettered consts depth (BoundTm index type) is has = absurd is
  first_lettered consts depth (ConstTm name type) is has = absurd is
  first_lettered consts depth (NumTm value) is has = absurd is
  first_lettered consts depth (LamTm type body) is has = absurd is

  bound_lettered : (consts : Constants) (kind : Kind) (depth : ℕ) (t : Term) → IsLambda t → HasLetters consts t → IsLettered (bound_written consts kind depth t)
  bound_lettered consts kind depth (LamTm type body) is has =
      chained_lettered kind (binder_shape depth type) (written consts (depth + 1) body) (binder_lettered depth type has.0) (written_lettered consts (depth + 1) body has.1)
  bound_lettered consts kind depth (FreeTm free name type) is has = absurd is
  bound_lettered consts kind depth (BoundTm index type) is has = absurd is
  bound_lettered consts kind depth (ConstTm name type) is has = absurd is
  bound_lettered consts kind depth (NumTm value) is has = absurd is
  bound_lettered consts kind depth (AppTm f x) is has = absurd is

-- ---- given terms

module _ (types : Constructors) (consts : Constants) (once : IsOnce consts) where
  -- a constant of HOL is never written with its type
  built_in : (name : List ℕ) (type : Ty) → is_name name ≡ false → IsAtomText name → HasLetters consts (ConstTm name type)
  built_in name type reserved is = (is, λ schematic. absurd (true≢false (sym schematic ∙ once.only_names name reserved)))

  given_letters : {bs : List Ty} {t : Term} → IsGiven types consts bs t → HasLetters consts t
  unfolding class_of is_name
  given_letters (given_bound at) = tt
  given_letters (given_constant {name = name} {type = type} is) = (name_is name is.named, λ schematic. type_is_written types type is.given)
  given_letters (given_number small) = tt
  given_letters (given_negative small) = tt
  given_letters given_true = built_in (codes "true") BoolTy refl (refl, (refl, (refl, (refl, tt))))
  given_letters given_false = built_in (codes "false") BoolTy refl (refl, (refl, (refl, (refl, (refl, tt)))))
  given_letters (given_not a e) = (built_in (codes "not") _ refl (refl, (refl, (refl, tt))), given_letters a)
  given_letters (given_and a e b h) = ((built_in (codes "and") _ refl (refl, (refl, (refl, tt))), given_letters a), given_letters b)
  given_letters (given_or a e b h) = ((built_in (codes "or") _ refl (refl, (refl, tt)), given_letters a), given_letters b)
  given_letters (given_implies a e b h) = ((built_in (codes "=>") _ refl (refl, (refl, tt)), given_letters a), given_letters b)
  given_letters (given_equation a b e) = ((built_in (codes "eq") _ refl (refl, (refl, tt)), given_letters a), given_letters b)
  given_letters (given_conditional c e a b h) = (((built_in (codes "ite") _ refl (refl, (refl, (refl, tt))), given_letters c), given_letters a), given_letters b)
  given_letters (given_add a e b h) = ((built_in (codes "+") _ refl (refl, tt), given_letters a), given_letters b)
  given_letters (given_mul a e b h) = ((built_in (codes "*") _ refl (refl, tt), given_letters a), given_letters b)
  given_letters (given_sub a e b h) = ((built_in (codes "sub") _ refl (refl, (refl, (refl, tt))), given_letters a), given_letters b)
  given_letters (given_neg a e none) = (built_in (codes "neg") _ refl (refl, (refl, (refl, tt))), given_letters a)
  given_letters (given_at_most a e b h) = ((built_in (codes "le") _ refl (refl, (refl, tt)), given_letters a), given_letters b)
  given_letters (given_less a e b h) = ((built_in (codes "lt") _ refl (refl, (refl, tt)), given_letters a), given_letters b)
  given_letters (given_quotient a e some small) = ((built_in (codes "div") _ refl (refl, (refl, (refl, tt))), given_letters a), tt)
  given_letters (given_remainder a e some small) = ((built_in (codes "mod") _ refl (refl, (refl, (refl, tt))), given_letters a), tt)
  given_letters (given_all {t = t} given b e) = (built_in (codes "all") _ refl (refl, (refl, (refl, tt))), (type_is_written types t given, given_letters b))
  given_letters (given_ex {t = t} given b e) = (built_in (codes "ex") _ refl (refl, (refl, tt)), (type_is_written types t given, given_letters b))
  given_letters (given_lambda {t = t} given b) = (type_is_written types t given, given_letters b)
  given_letters (given_application f x e) = (given_letters f, given_letters x)

  -- The shape of a given term has a text that is read.
  pub term_is_written : (bs : List Ty) (depth : ℕ) (t : Term) → IsGiven types consts bs t → IsWritten (term_shape consts depth t)
  term_is_written bs depth t given = shape_lettered (written consts depth t) (written_lettered consts depth t (given_letters given))
