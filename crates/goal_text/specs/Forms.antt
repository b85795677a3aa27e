-- What a list of a term is on entry: its head, its number of parts and its binder list.
use Rattle.std.specs.Prelude.{ℕ, List, [], ◌∷◌, ◌++◌, Option, Some, None, Ok, Bool, true, false, ◌&&◌, if◌then◌else◌, nat_lt, bytes_eq}
use Rattle.std.specs.Map.{lookup}
use Rattle.hol_types.specs.Ty.{Ty}
use Rattle.sexp.specs.Tree.{Tree, Trees, AtomTree, QuotedTree, ListTree, no_trees, more_trees, count, place}
use Rattle.goal_text.specs.declared.fault.GoalKind.TheVariants.{Syntax, UnknownName}
use Rattle.goal_text.specs.declared.word.Word.{Word}
use Rattle.goal_text.specs.declared.word.Word.TheVariants.{Applies, Binds, Ascribes}
use Rattle.goal_text.specs.declared.word.Operator.{Operator}
use Rattle.goal_text.specs.declared.word.Operator.TheVariants.{Not, And, Or, Implies, Equals, Distinct, Xor, Ite, Plus, Times, Minus, AtMost, Less, AtLeast, Greater, Div, Mod}
use Rattle.goal_text.specs.declared.word.Binder.{Binder}
use Rattle.goal_text.specs.Read.{Read, ◌>>=◌, faulty, wanting}
use Rattle.goal_text.specs.Lexicon.{is_number, word_of, misplaced, two_of, name_of, variable_of}
use Rattle.goal_text.specs.Names.{Env, Constructors, Binders, bound_to, is_nothing}
use Rattle.goal_text.specs.Types.{type_of}
use Rattle.goal_text.specs.Matching.{is_ground}
use Rattle.goal_text.specs.Operations.{takes}

pub data Form : Type 0 where
  -- (t t ..)
  Applied : Form
  -- (c t ..), the declared type of the constant at the head having type variables
  Instance : (head : ℕ) → (name : List ℕ) → (type : Ty) → Form
  -- (- n) with a number n
  Negative : Form
  -- an operation on parts
  Operation : (operator : Operator) → Form
  -- (forall ((x T) ..) t), (exists ..) and (lambda ..), the innermost variable first
  Binding : (binder : Binder) → (binders : Binders) → Form
  -- (as c T), with the declared type of c
  Ascription : (name : List ℕ) → (declared : Ty) → (type : Ty) → Form

-- ---- applications

-- whether a constant of this type takes its instance from its arguments
abbrev pub instanced : Option Ty → ℕ → List ℕ → Form
instanced None at name = Applied
instanced (Some type) at name = if is_ground type then Applied else Instance at name type

unfoldable pub application : Env → Tree → Form
application env (AtomTree at text) = if is_nothing (bound_to env.binders text) then instanced (lookup (bytes_eq text) env.consts) at text else Applied
application env (QuotedTree at text) = Applied
application env (ListTree at parts) = Applied

-- ---- operations

abbrev pub is_minus : Operator → Bool
is_minus Minus = true
is_minus Not = false
is_minus And = false
is_minus Or = false
is_minus Implies = false
is_minus Equals = false
is_minus Distinct = false
is_minus Xor = false
is_minus Ite = false
is_minus Plus = false
is_minus Times = false
is_minus AtMost = false
is_minus Less = false
is_minus AtLeast = false
is_minus Greater = false
is_minus Div = false
is_minus Mod = false

abbrev pub is_literal_tree : Tree → Bool
is_literal_tree (AtomTree at text) = is_number text
is_literal_tree (QuotedTree at text) = false
is_literal_tree (ListTree at parts) = false

-- just a number
abbrev pub is_literal : Trees → Bool
is_literal no_trees = false
is_literal (more_trees part no_trees) = is_literal_tree part
is_literal (more_trees part (more_trees second others)) = false

unfoldable pub operation : ℕ → Operator → Trees → Read Form
operation at operator parts =
    wanting (takes operator (count parts)) Syntax at (Ok (if is_minus operator && is_literal parts then Negative else Operation operator))

-- ---- binder lists

-- (x T), by its parts
abbrev pub binder_by : Constructors → ℕ → Trees → Read (List ℕ × Ty)
binder_by types at parts = do
  both ← two_of at parts
  x ← variable_of both.0
  t ← type_of types both.1
  Ok (x, t)

unfoldable pub binder_of : Constructors → Tree → Read (List ℕ × Ty)
binder_of types (AtomTree at text) = misplaced (AtomTree at text)
binder_of types (QuotedTree at text) = misplaced (QuotedTree at text)
binder_of types (ListTree at parts) = binder_by types at parts

-- further variables, each within those before it
unfoldable pub binders_of : Constructors → Binders → Trees → Read Binders
binders_of types outer no_trees = Ok outer
binders_of types outer (more_trees entry entries) = do
  b ← binder_of types entry
  binders_of types (b ∷ outer) entries

-- ((x T) ..) with one entry or more
unfoldable pub binder_list : Constructors → Tree → Read Binders
binder_list types (AtomTree at text) = misplaced (AtomTree at text)
binder_list types (QuotedTree at text) = misplaced (QuotedTree at text)
binder_list types (ListTree at no_trees) = faulty Syntax at
binder_list types (ListTree at (more_trees entry entries)) = binders_of types [] (more_trees entry entries)

-- a binder list and a body
unfoldable pub binding : Constructors → ℕ → Binder → Trees → Read Form
binding types at binder parts = do
  both ← two_of at parts
  binders ← binder_list types both.0
  Ok (Binding binder binders)

-- ---- ascriptions

abbrev pub declared_by : Option Ty → ℕ → List ℕ → Read (List ℕ × Ty)
declared_by None at name = faulty UnknownName at
declared_by (Some type) at name = Ok (name, type)

-- a declared constant that no binder hides, with its type
unfoldable pub constant_of : Env → Tree → Read (List ℕ × Ty)
constant_of env tree = do
  c ← name_of tree
  wanting (is_nothing (bound_to env.binders c)) UnknownName (place tree) (declared_by (lookup (bytes_eq c) env.consts) (place tree) c)

-- (as c T), by what stands behind the word
unfoldable pub ascription : Env → ℕ → Trees → Read Form
ascription env at parts = do
  both ← two_of at parts
  c ← constant_of env both.0
  t ← type_of env.types both.1
  Ok (Ascription c.0 c.1 t)

-- ---- all of them

abbrev pub head_word : Tree → Option Word
head_word (AtomTree at text) = word_of text
head_word (QuotedTree at text) = None
head_word (ListTree at parts) = None

abbrev pub headed : Env → ℕ → Option Word → Tree → Trees → Read Form
headed env at None head parts = wanting (nat_lt 0 (count parts)) Syntax at (Ok (application env head))
headed env at (Some (Applies operator)) head parts = operation at operator parts
headed env at (Some (Binds binder)) head parts = binding env.types at binder parts
headed env at (Some Ascribes) head parts = ascription env at parts

unfoldable pub form_of : Env → ℕ → Trees → Read Form
form_of env at no_trees = faulty Syntax at
form_of env at (more_trees head parts) = headed env at (head_word head) head parts

-- ---- what follows for the parts

-- how a part of a list is read
pub data Part : Type 0 where
  -- it is no term
  Skipped : Part
  -- as a term
  ReadTerm : Part
  -- as a number from 1
  Divisor : Part

-- whether the second part is a number from 1
abbrev pub divides : Operator → Bool
divides Div = true
divides Mod = true
divides Not = false
divides And = false
divides Or = false
divides Implies = false
divides Equals = false
divides Distinct = false
divides Xor = false
divides Ite = false
divides Plus = false
divides Times = false
divides Minus = false
divides AtMost = false
divides Less = false
divides AtLeast = false
divides Greater = false

-- the parts of an operation behind its word
abbrev pub operands : Bool → List Part
operands true = ReadTerm ∷ Divisor ∷ []
operands false = []

-- the parts of a list; those behind them are terms
abbrev pub parts_of : Form → List Part
parts_of Applied = []
parts_of (Instance head name type) = Skipped ∷ []
parts_of Negative = Skipped ∷ []
parts_of (Operation operator) = Skipped ∷ operands (divides operator)
parts_of (Binding binder binders) = Skipped ∷ Skipped ∷ []
parts_of (Ascription name declared type) = Skipped ∷ Skipped ∷ Skipped ∷ []

-- what names stand for within a list
abbrev pub inside : Env → Form → Env
inside env Applied = env
inside env (Instance head name type) = env
inside env Negative = env
inside env (Operation operator) = env
inside env (Binding binder binders) = record env { binders = binders ++ env.binders }
inside env (Ascription name declared type) = env
