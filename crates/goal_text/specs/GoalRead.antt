-- What a goal file says: one problem, or its first fault.
use Rattle.std.specs.Prelude.{◌≡◌, ℕ, List, length, Option, Some, None, Result, Ok, Err}
use Rattle.hol_terms.specs.Term.{Term}
use Rattle.sexp.specs.Tree.{Trees}
use Rattle.sexp.specs.TextTrees.{forest_of, unless_long}
use Rattle.sexp.specs.declared.token.SexpFault.{SexpFault}
use Rattle.sexp.specs.declared.token.SexpFault.TheVariants as lexical
use Rattle.goal_text.specs.declared.fault.GoalKind.TheVariants.{TooLong, BadByte, Unopened, TooDeep, Unclosed, NoGoal}
use Rattle.goal_text.specs.declared.fault.GoalFault.{GoalFault}
use Rattle.goal_text.specs.Read.{Read, ◌>>=◌, faulty}
use Rattle.goal_text.specs.Names.{Constructors, Constants}
use Rattle.goal_text.specs.Items.{Items, no_items, items_of}

-- declarations, facts and the goal, in the order of the file
pub record GoalProblem : Type 0 where
  pub types : Constructors
  pub consts : Constants
  pub facts : List Term
  pub goal : Term

-- the longest goal file: 4 MiB
abbrev pub longest : ℕ
longest = 4194304

-- a fault of the text's bytes, of which want of memory is none
abbrev pub lexical_fault : SexpFault → GoalFault
lexical_fault (lexical.TooLong at) = record { at = at; kind = TooLong }
lexical_fault (lexical.BadByte at) = record { at = at; kind = BadByte }
lexical_fault (lexical.Unopened at) = record { at = at; kind = Unopened }
lexical_fault (lexical.TooDeep at) = record { at = at; kind = TooDeep }
lexical_fault (lexical.Unclosed at) = record { at = at; kind = Unclosed }
lexical_fault lexical.Memory = record { at = 0; kind = TooLong }

-- the trees of a text, or the first fault of its bytes
abbrev pub trees_by : Result Trees SexpFault → Read Trees
trees_by (Ok trees) = Ok trees
trees_by (Err fault) = Err (lexical_fault fault)

unfoldable pub trees_of : List ℕ → Read Trees
trees_of text = trees_by (unless_long longest text (forest_of text))

-- all items, the goal among them, of a text of that length
abbrev pub problem_by : Option Term → Items → ℕ → Read GoalProblem
problem_by None items n = faulty NoGoal n
problem_by (Some goal) items n = Ok (record { types = items.types; consts = items.consts; facts = items.facts; goal = goal })

abbrev pub problem_of : Items → ℕ → Read GoalProblem
problem_of items n = problem_by items.goal items n

-- what a goal file is read as
unfoldable pub goal_read : List ℕ → Read GoalProblem
goal_read text = do
  trees ← trees_of text
  items ← items_of no_items trees
  problem_of items (length text)

-- the text says the problem
abbrev pub GoalRead : List ℕ → GoalProblem → Type 0
GoalRead text problem = goal_read text ≡ Ok problem

-- the text's first fault
abbrev pub FirstFault : List ℕ → GoalFault → Type 0
FirstFault text fault = goal_read text ≡ Err fault
