-- What the items and the problem that are read stand for.
use Rattle.std.specs.Prelude.{◌≡◌, ◌≢◌, ℕ, List, [], ◌∷◌, ◌++◌, map, Some, Result, Ok, Err, IfSome, bytes_eq}
use Rattle.std.specs.Prelude.{option_map}
use Rattle.std.specs.Map.{lookup}
use Rattle.std.specs.List.{AllByRecursion}
use Rattle.hol_types.specs.Ty.{Ty}
use Rattle.hol_types.specs.TypeStore.{HasName, HasType, arity_of, text_of, type_tree}
use Rattle.hol_terms.specs.TermStore.{TermStore, term_tree}
use Rattle.goal_text.specs.declared.fault.GoalFailure.{GoalFailure}
use Rattle.goal_text.specs.declared.fault.GoalFailure.TheVariants.{Refused, Memory}
use Rattle.goal_text.specs.declared.items.Items.{Items as Made}
use Rattle.goal_text.specs.declared.problem.Problem.{Problem}
use Rattle.goal_text.specs.declared.problem.Declared.{Declared}
use Rattle.goal_text.specs.Names.{Constructors, Constants}
use Rattle.goal_text.specs.Items.{Items}
use Rattle.goal_text.specs.GoalRead.{GoalProblem, GoalRead, FirstFault, lexical_fault, problem_of}
use Rattle.goal_text.specs.Given.{IsGivenProblem}
use Rattle.goal_text.specs.Read.{Fails}
use Rattle.sexp.specs.declared.token.SexpFault.{SexpFault}
use Rattle.sexp.specs.declared.token.SexpFault.TheVariants as lexical
use Rattle.goal_text.specs.Scope.{IsNameOf, IsScope, consts_in, terms_at, types_in}
use Rattle.goal_text.specs.Sentences.{HasSentence, HaveSentences}

-- the items so far
abbrev pub items_in : Made → Items
items_in made = record {
  types = types_in made.scope.types;
  consts = consts_in made.base made.scope.consts;
  facts = terms_at made.base made.facts.items;
  goal = option_map (λ t. term_tree made.base t) made.goal;
}

-- the constants of declarations
abbrev pub declared_in : TermStore → List Declared → Constants
declared_in s consts = map (λ d. (text_of s.types d.name, type_tree s.types d.ty)) consts

-- a declaration's name and type are there
abbrev pub HasDeclared : TermStore → Declared → Type 0
HasDeclared s d = HasName s.types d.name × HasType s.types d.ty

-- the numbers are those of the items' names, types and sentences
pub record AreItems (made : Made) : Type 0 where
  pub scope : IsScope made.base made.scope
  pub outermost : made.scope.binders ≡ []
  pub consts : declared_in made.base made.consts.items ≡ consts_in made.base made.scope.consts
  pub declared : AllByRecursion (HasDeclared made.base) made.consts.items
  pub facts : HaveSentences made.base made.facts.items
  pub goal : IfSome made.goal (HasSentence made.base)

-- the constructor is declared in the store, with its number of arguments
abbrev pub HasConstructor : TermStore → List ℕ × ℕ → Type 0
HasConstructor s c = (n : ℕ) × IsNameOf s n c.0 × (arity_of s.types n ≡ Some c.1)

-- what a problem's numbers stand for, under these type constructors
abbrev pub said_under : Constructors → Problem → GoalProblem
said_under types problem = record {
  types = types;
  consts = declared_in problem.base problem.consts;
  facts = terms_at problem.base problem.facts;
  goal = term_tree problem.base problem.goal;
}

-- The numbers of a problem are those of declarations and sentences. Its facts and its goal are terms that the grammar gives
-- under type constructors of its store and its constants.
pub record IsProblem (problem : Problem) : Type 0 where
  pub declared : AllByRecursion (HasDeclared problem.base) problem.consts
  pub facts : HaveSentences problem.base problem.facts
  pub goal : HasSentence problem.base problem.goal
  pub types : Constructors
  pub constructors : AllByRecursion (HasConstructor problem.base) types
  pub given : IsGivenProblem (said_under types problem)

-- the problem says this: its constants, facts and goal, and its store has the type constructors
pub record Says (problem : Problem) (said : GoalProblem) : Type 0 where
  pub types : (name : List ℕ) (arity : ℕ) → lookup (bytes_eq name) said.types ≡ Some arity
      → (n : ℕ) × (text_of problem.base.types n ≡ name) × (arity_of problem.base.types n ≡ Some arity)
  pub consts : declared_in problem.base problem.consts ≡ said.consts
  pub facts : terms_at problem.base problem.facts ≡ said.facts
  pub goal : term_tree problem.base problem.goal ≡ said.goal

-- the problem is the one that the text says
pub record IsRead (text : List ℕ) (problem : Problem) : Type 0 where
  pub said : GoalProblem
  pub read : GoalRead text said
  pub says : Says problem said

-- the failure is the text's first fault, or want of memory
abbrev pub Refuses : List ℕ → GoalFailure → Type 0
Refuses text (Refused fault) = FirstFault text fault
Refuses text Memory = Unit {0}

-- what reading gives where the items are all
abbrev pub IsFinished : Made → ℕ → Result Problem GoalFailure → Type 0
IsFinished made n (Ok problem) = (said : GoalProblem) × (problem_of (items_in made) n ≡ Ok said) × Says problem said
IsFinished made n (Err failure) = Fails failure (problem_of (items_in made) n)

-- the failure for a fault of the text's bytes
abbrev pub IsLexical : SexpFault → GoalFailure → Type 0
IsLexical fault Memory = fault ≡ lexical.Memory
IsLexical fault (Refused refused) = (refused ≡ lexical_fault fault) × (fault ≢ lexical.Memory)

-- one constant more
abbrev pub with_constant : Items → List ℕ → Ty → Items
with_constant items c t = record items { consts = items.consts ++ (c, t) ∷ [] }
