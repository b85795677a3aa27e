-- What the numbers of a scope stand for.
use Rattle.std.specs.Prelude.{◌≡◌, ℕ, List, [], ◌∷◌, map, Some, Bool, false, IsTrue, Ok, take}
use Rattle.std.specs.List.{AllByRecursion}
use Rattle.hol_types.specs.Ty.{Ty}
use Rattle.hol_types.specs.TypeStore.{HasName, HasType, arity_of, text_of, type_tree}
use Rattle.hol_terms.specs.Term.{Term, ty_of}
use Rattle.hol_terms.specs.TermStore.{TermStore, HasTerm, term_tree}
use Rattle.goal_text.specs.declared.scope.Scope.{Scope}
use Rattle.goal_text.specs.declared.scope.Constructor.{Constructor}
use Rattle.goal_text.specs.declared.scope.Constant.{Constant}
use Rattle.goal_text.specs.declared.form.Head.{Head}
use Rattle.goal_text.specs.declared.form.Head.TheVariants as heads
use Rattle.goal_text.specs.declared.types.TypeHead.{TypeHead}
use Rattle.goal_text.specs.declared.types.TypeHead.TheVariants as type_heads
use Rattle.goal_text.specs.Types.{TypeForm, Arrows, Constructed}
use Rattle.goal_text.specs.Names.{Env, Constructors, Constants, Binders}
use Rattle.goal_text.specs.Matching.{is_ground}
use Rattle.goal_text.specs.Forms.{Form, Applied, Instance, Negative, Operation, Binding, Ascription, Part, operands, divides, is_minus}
use Rattle.goal_text.specs.declared.word.Operator.{Operator}
use Rattle.goal_text.specs.Read.{Read, ◌>>=◌}

-- ---- numbers

-- the terms of numbers
abbrev pub terms_at : TermStore → List ℕ → List Term
terms_at s ts = map (λ t. term_tree s t) ts

abbrev pub AreTerms : TermStore → List ℕ → Type 0
AreTerms s ts = AllByRecursion (λ t. HasTerm s t) ts

-- the number of a term
pub record IsNumberOf (s : TermStore) (t : ℕ) (is : Term) : Type 0 where
  pub there : HasTerm s t
  pub tree : term_tree s t ≡ is

-- the number of a type
pub record IsTypeOf (s : TermStore) (t : ℕ) (is : Ty) : Type 0 where
  pub there : HasType s.types t
  pub tree : type_tree s.types t ≡ is

-- the number of a name
pub record IsNameOf (s : TermStore) (n : ℕ) (is : List ℕ) : Type 0 where
  pub there : HasName s.types n
  pub text : text_of s.types n ≡ is

-- ---- what names stand for

abbrev pub types_in : List (List ℕ × Constructor) → Constructors
types_in types = map (λ c. (c.0, c.1.arity)) types

abbrev pub consts_in : TermStore → List (List ℕ × Constant) → Constants
consts_in s consts = map (λ c. (c.0, type_tree s.types c.1.ty)) consts

abbrev pub binders_in : TermStore → List (List ℕ × ℕ) → Binders
binders_in s binders = map (λ b. (b.0, type_tree s.types b.1)) binders

unfoldable pub env_of : TermStore → Scope → Env
env_of s scope = record { types = types_in scope.types; consts = consts_in s scope.consts; binders = binders_in s scope.binders }

-- the number of a constructor's name, which is declared
pub record IsConstructor (s : TermStore) (name : List ℕ) (c : Constructor) : Type 0 where
  pub name_is : IsNameOf s c.name name
  pub declared : arity_of s.types c.name ≡ Some c.arity

abbrev pub AreConstructors : TermStore → List (List ℕ × Constructor) → Type 0
AreConstructors s types = AllByRecursion (λ c. IsConstructor s c.0 c.1) types

-- the numbers of a constant's name and type
pub record IsConstant (s : TermStore) (name : List ℕ) (c : Constant) : Type 0 where
  pub name_is : IsNameOf s c.name name
  pub there : HasType s.types c.ty
  pub monomorphic : c.monomorphic ≡ is_ground (type_tree s.types c.ty)

abbrev pub AreConstants : TermStore → List (List ℕ × Constant) → Type 0
AreConstants s consts = AllByRecursion (λ c. IsConstant s c.0 c.1) consts

abbrev pub AreBound : TermStore → List (List ℕ × ℕ) → Type 0
AreBound s binders = AllByRecursion (λ b. HasType s.types b.1) binders

-- the numbers of a scope are those of its names and types
pub record IsScope (s : TermStore) (scope : Scope) : Type 0 where
  pub types : AreConstructors s scope.types
  pub consts : AreConstants s scope.consts
  pub binders : AreBound s scope.binders

-- ---- types

abbrev pub AreTypes : TermStore → List ℕ → Type 0
AreTypes s ts = AllByRecursion (λ t. HasType s.types t) ts

-- the form of a type's head
abbrev pub type_form_at : TermStore → TypeHead → TypeForm
type_form_at s type_heads.Arrows = Arrows
type_form_at s (type_heads.Constructed c) = Constructed (text_of s.types c.name)

-- the head takes so many types behind it
abbrev pub IsTypeHead : TermStore → ℕ → TypeHead → Type 0
IsTypeHead s n type_heads.Arrows = Unit {0}
IsTypeHead s n (type_heads.Constructed c) = HasName s.types c.name × (arity_of s.types c.name ≡ Some n)

-- ---- forms

-- how many of the scope's variables are the form's own
abbrev pub bound_by : Head → ℕ
bound_by heads.Applied = 0
bound_by (heads.Instance at name ty) = 0
bound_by heads.Negative = 0
bound_by (heads.Operation operator) = 0
bound_by (heads.Binding binder n) = n
bound_by (heads.Ascription name declared ty) = 0

-- the form of a head, whose variables are the scope's innermost
abbrev pub form_at : TermStore → Scope → Head → Form
form_at s scope heads.Applied = Applied
form_at s scope (heads.Instance at name ty) = Instance at (text_of s.types name) (type_tree s.types ty)
form_at s scope heads.Negative = Negative
form_at s scope (heads.Operation operator) = Operation operator
form_at s scope (heads.Binding binder n) = Binding binder (binders_in s (take n scope.binders))
form_at s scope (heads.Ascription name declared ty) = Ascription (text_of s.types name) (type_tree s.types declared) (type_tree s.types ty)

-- a form's names and types are there
abbrev pub HasHead : TermStore → Head → Type 0
HasHead s heads.Applied = Unit {0}
HasHead s (heads.Instance at name ty) = HasName s.types name × HasType s.types ty
HasHead s heads.Negative = Unit {0}
HasHead s (heads.Operation operator) = Unit {0}
HasHead s (heads.Binding binder n) = Unit {0}
HasHead s (heads.Ascription name declared ty) = HasName s.types name × HasType s.types declared × HasType s.types ty

-- ---- terms of a type

pub record HasTyped (s : TermStore) (ty : Ty) (t : ℕ) : Type 0 where
  pub there : HasTerm s t
  pub type : ty_of (term_tree s t) ≡ ty

abbrev pub AreTyped : TermStore → Ty → List ℕ → Type 0
AreTyped s ty ts = AllByRecursion (HasTyped s ty) ts

-- ---- the parts of a list

-- whether the second of a form's terms is a number from 1
abbrev pub divides_by : Head → Bool
divides_by heads.Applied = false
divides_by (heads.Instance at name ty) = false
divides_by heads.Negative = false
divides_by (heads.Operation operator) = divides operator
divides_by (heads.Binding binder n) = false
divides_by (heads.Ascription name declared ty) = false

-- the kinds of the parts that are read as terms
abbrev pub rest_of : Head → List Part
rest_of head = operands (divides_by head)

-- an application's terms are all parts, or those behind its head
abbrev pub Applies : Head → ℕ → ℕ → ℕ → Type 0
Applies heads.Applied first second from = from ≡ first
Applies (heads.Instance at name ty) first second from = from ≡ second
Applies heads.Negative first second from = ⊥
Applies (heads.Operation operator) first second from = ⊥
Applies (heads.Binding binder n) first second from = ⊥
Applies (heads.Ascription name declared ty) first second from = ⊥

-- a form that stands for its head alone
abbrev pub form_of_operation : Head → Form
form_of_operation heads.Applied = Applied
form_of_operation (heads.Instance at name ty) = Applied
form_of_operation heads.Negative = Negative
form_of_operation (heads.Operation operator) = Operation operator
form_of_operation (heads.Binding binder n) = Applied
form_of_operation (heads.Ascription name declared ty) = Applied

abbrev pub IsOperation : Operator → Head → Type 0
IsOperation operator heads.Applied = ⊥
IsOperation operator (heads.Instance at name ty) = ⊥
IsOperation operator heads.Negative = IsTrue (is_minus operator)
IsOperation operator (heads.Operation other) = other ≡ operator
IsOperation operator (heads.Binding binder n) = ⊥
IsOperation operator (heads.Ascription name declared ty) = ⊥

abbrev pub Binds : Head → Type 0
Binds heads.Applied = ⊥
Binds (heads.Instance at name ty) = ⊥
Binds heads.Negative = ⊥
Binds (heads.Operation operator) = ⊥
Binds (heads.Binding binder n) = Unit {0}
Binds (heads.Ascription name declared ty) = ⊥

abbrev pub Ascribes : Head → Type 0
Ascribes heads.Applied = ⊥
Ascribes (heads.Instance at name ty) = ⊥
Ascribes heads.Negative = ⊥
Ascribes (heads.Operation operator) = ⊥
Ascribes (heads.Binding binder n) = ⊥
Ascribes (heads.Ascription name declared ty) = Unit {0}

-- a binder by itself
abbrev pub one_binder : Read (List ℕ × Ty) → Read Binders
one_binder read = read >>= λ b. Ok (b ∷ [])

-- the declared names stay
pub record KeepsDeclared (old new : Scope) : Type 0 where
  pub types : new.types ≡ old.types
  pub consts : new.consts ≡ old.consts
