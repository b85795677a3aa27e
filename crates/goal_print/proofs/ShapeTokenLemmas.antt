-- The tokens of a shape's text.
use Rattle.std.proofs.Common.{◌≡◌, ℕ, zero, suc, ◌+◌, List, [], ◌∷◌, Bool, true, false, length, refl, nat_lt, if◌then◌else◌, Ok, Err}
use Rattle.sexp.specs.Text.{Words, word, stop, more, ends, faulty, token_of}
use Rattle.sexp.specs.Depth.{depth_of}
use Rattle.sexp.specs.Nesting.{Answers, last, token, answers_of, at_word, at_limit, opened}
use Rattle.sexp.specs.TextTrees.{tokens_or_fault}
use Rattle.sexp.specs.declared.nest.Frame.{Frame}
use Rattle.sexp.specs.declared.token.Token.{Token}
use Rattle.sexp.specs.declared.token.TokenKind.{TokenKind}
use Rattle.sexp.specs.declared.token.TokenKind.TheVariants as kinds
use Rattle.sexp.specs.declared.token.SexpFault.TheVariants.{TooDeep}
use Rattle.goal_print.specs.Shapes.{Shape, Shapes, AtomShape, ListShape, no_shapes, more_shapes}
use Rattle.goal_print.proofs.ShapeWordLemmas.{shape_words, shapes_words, behind_words}

-- the words behind a token are nested, within so many lists before it
abbrev IsNestedBy : TokenKind → ℕ → (ℕ → Type 0) → Type 0
IsNestedBy kinds.Open depth go_on = go_on (suc depth)
IsNestedBy kinds.Close zero go_on = ⊥
IsNestedBy kinds.Close (suc depth) go_on = go_on depth
IsNestedBy kinds.Atom depth go_on = go_on depth
IsNestedBy kinds.Quoted depth go_on = go_on depth

-- words that end a whole text, and close the lists that they open and so many others
unfoldable pub IsNested : Words → ℕ → Type 0
IsNested (stop more) depth = ⊥
IsNested (stop ends) zero = Unit {0}
IsNested (stop ends) (suc depth) = ⊥
IsNested (stop (faulty fault)) depth = ⊥
IsNested (word w rest) depth = IsNestedBy w.kind depth (IsNested rest)

-- the tokens that words are
abbrev pub tokens_of : Words → List Token
tokens_of (stop ending) = []
tokens_of (word w rest) = token_of w ∷ tokens_of rest

-- these tokens, unless lists are nested too deep
pub data Reads (answers : Answers) (tokens : List Token) : Type 0 where
  reads : tokens_or_fault answers ≡ Ok tokens → Reads answers tokens
  too_deep : (at : ℕ) → tokens_or_fault answers ≡ Err (TooDeep at) → Reads answers tokens

with_token : (t : Token) (answers : Answers) (tokens : List Token) → Reads answers tokens → Reads (token t answers) (t ∷ tokens)
with_token t answers tokens (reads e) = reads (rw e refl)
with_token t answers tokens (too_deep at e) = too_deep at (rw e refl)

limited : (is_let : Bool) (t : Token) (answers : Answers) (tokens : List Token) → Reads answers tokens
    → Reads (if is_let then token t answers else last (faulty (TooDeep t.start))) (t ∷ tokens)
limited true t answers tokens read = with_token t answers tokens read
limited false t answers tokens read = too_deep t.start refl

at_the_limit : (t : Token) (words : Words) (depth : ℕ) (answers : Answers) (tokens : List Token) → IsNested words (suc depth) → Reads answers tokens
    → Reads (at_limit t words answers) (t ∷ tokens)
unfolding IsNested
at_the_limit t (stop more) depth answers tokens nested read = absurd nested
at_the_limit t (stop ends) depth answers tokens nested read = absurd nested
at_the_limit t (stop (faulty fault)) depth answers tokens nested read = absurd nested
at_the_limit t (word w rest) depth answers tokens nested read = limited w.is_let t answers tokens read

opened_reads : (below : Bool) (t : Token) (words : Words) (depth : ℕ) (answers : Answers) (tokens : List Token) → IsNested words (suc depth) → Reads answers tokens
    → Reads (if below then token t answers else at_limit t words answers) (t ∷ tokens)
opened_reads true t words depth answers tokens nested read = with_token t answers tokens read
opened_reads false t words depth answers tokens nested read = at_the_limit t words depth answers tokens nested read

word_reads : (kind : TokenKind) (t : Token) (rest : Words) (lists : List Frame) → IsNestedBy kind (length lists) (IsNested rest)
    → ((lists : List Frame) → IsNested rest (length lists) → Reads (answers_of rest lists) (tokens_of rest))
    → Reads (at_word kind t rest lists (answers_of rest)) (t ∷ tokens_of rest)
word_reads kinds.Open t rest lists nested on =
    opened_reads (nat_lt (depth_of lists) 2000) t rest (length lists) (answers_of rest (opened t.start rest ∷ lists)) (tokens_of rest) nested (on (opened t.start rest ∷ lists) nested)
word_reads kinds.Close t rest [] nested on = absurd nested
word_reads kinds.Close t rest (list ∷ lists) nested on = with_token t (answers_of rest lists) (tokens_of rest) (on lists nested)
word_reads kinds.Atom t rest lists nested on = with_token t (answers_of rest lists) (tokens_of rest) (on lists nested)
word_reads kinds.Quoted t rest lists nested on = with_token t (answers_of rest lists) (tokens_of rest) (on lists nested)

-- Nested words are answered by their tokens.
pub nested_reads : (words : Words) (lists : List Frame) → IsNested words (length lists) → Reads (answers_of words lists) (tokens_of words)
unfolding IsNested answers_of
nested_reads (stop more) lists nested = absurd nested
nested_reads (stop ends) [] nested = reads refl
nested_reads (stop ends) (list ∷ lists) nested = absurd nested
nested_reads (stop (faulty fault)) lists nested = absurd nested
nested_reads (word w rest) lists nested = word_reads w.kind (token_of w) rest lists nested (λ others. nested_reads rest others)

mutual
  unfolding IsNested shape_words shapes_words behind_words

  -- A shape closes the lists that it opens.
  pub shape_nested : (s : Shape) (at : ℕ) (behind : Words) (depth : ℕ) → IsNested behind depth → IsNested (shape_words s at behind) depth
  shape_nested (AtomShape text) at behind depth nested = nested
  shape_nested (ListShape parts) at behind depth nested = shapes_nested parts (at + 1) (word _ behind) (suc depth) nested

  pub shapes_nested : (shapes : Shapes) (at : ℕ) (behind : Words) (depth : ℕ) → IsNested behind depth → IsNested (shapes_words shapes at behind) depth
  shapes_nested no_shapes at behind depth nested = nested
  shapes_nested (more_shapes first rest) at behind depth nested = shape_nested first at (behind_words rest _ behind) depth (behind_nested rest _ behind depth nested)

  pub behind_nested : (shapes : Shapes) (at : ℕ) (behind : Words) (depth : ℕ) → IsNested behind depth → IsNested (behind_words shapes at behind) depth
  behind_nested no_shapes at behind depth nested = nested
  behind_nested (more_shapes first rest) at behind depth nested = shape_nested first (at + 1) (behind_words rest _ behind) depth (behind_nested rest _ behind depth nested)
