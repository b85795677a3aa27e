-- What is answered about a text: its tokens in order, and what comes after the last.
use Rattle.std.specs.Prelude.{ℕ, List, [], ◌∷◌, Bool, false, not, nat_lt, if◌then◌else◌}
use Rattle.sexp.specs.Text.{Ending, more, ends, faulty, Words, word, stop, token_of}
use Rattle.sexp.specs.Depth.{depth_of}
use Rattle.sexp.specs.declared.token.Token.{Token}
use Rattle.sexp.specs.declared.token.TokenKind.{TokenKind}
use Rattle.sexp.specs.declared.token.TokenKind.TheVariants as kinds
use Rattle.sexp.specs.declared.token.SexpFault.TheVariants.{Unopened, Unclosed, TooDeep}
use Rattle.sexp.specs.declared.nest.Frame.{Frame}

pub data Answers : Type 0 where
  last : Ending → Answers
  token : Token → Answers → Answers

-- whether the atom `let` comes first
abbrev pub is_let_first : Words → Bool
is_let_first (stop ending) = false
is_let_first (word w rest) = w.is_let

-- The list that opens there counts for the depth, unless its first token is the atom `let`.
abbrev pub opened : ℕ → Words → Frame
opened start content = record { start = start; counts = not (is_let_first content) }

-- A list that would be too deep if it counts: that is known once its first token is.
abbrev pub at_limit : Token → Words → Answers → Answers
at_limit t (stop more) go_on = last more
at_limit t (stop ends) go_on = last (faulty (TooDeep t.start))
at_limit t (stop (faulty f)) go_on = last (faulty (TooDeep t.start))
at_limit t (word w rest) go_on = if w.is_let then token t go_on else last (faulty (TooDeep t.start))

abbrev pub at_open : Token → Words → List Frame → Answers → Answers
at_open t content lists go_on = if nat_lt (depth_of lists) 2000 then token t go_on else at_limit t content go_on

abbrev pub at_close : Token → List Frame → (List Frame → Answers) → Answers
at_close t [] go_on = last (faulty (Unopened t.start))
at_close t (list ∷ lists) go_on = token t (go_on lists)

-- a token, the words behind it, and the lists round it, the innermost first
abbrev pub at_word : TokenKind → Token → Words → List Frame → (List Frame → Answers) → Answers
at_word kinds.Open t rest lists go_on = at_open t rest lists (go_on (opened t.start rest ∷ lists))
at_word kinds.Close t rest lists go_on = at_close t lists go_on
at_word kinds.Atom t rest lists go_on = token t (go_on lists)
at_word kinds.Quoted t rest lists go_on = token t (go_on lists)

-- A text that ends within a list is unclosed at the innermost.
abbrev pub ending_in : Ending → List Frame → Ending
ending_in more lists = more
ending_in ends [] = ends
ending_in ends (list ∷ lists) = faulty (Unclosed list.start)
ending_in (faulty f) lists = faulty f

unfoldable pub answers_of : Words → List Frame → Answers
answers_of (stop ending) lists = last (ending_in ending lists)
answers_of (word w rest) lists = at_word w.kind (token_of w) rest lists (answers_of rest)
