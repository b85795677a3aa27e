-- The trees of a whole text, or the first place where it breaks a rule.
use Rattle.std.specs.Prelude.{◌≡◌, ◌≢◌, ℕ, zero, suc, List, [], ◌∷◌, length, nat_lt, if◌then◌else◌, Result, Ok, Err}
use Rattle.sexp.specs.Text.{faulty}
use Rattle.sexp.specs.Nesting.{Answers, last, token}
use Rattle.sexp.specs.Tokens.{answers_to}
use Rattle.sexp.specs.Tree.{Trees, AtomTree, QuotedTree, ListTree, no_trees, more_trees}
use Rattle.sexp.specs.Forest.{Kept}
use Rattle.sexp.specs.Records.{atom_text, quoted_text, records}
use Rattle.sexp.specs.declared.token.Token.{Token}
use Rattle.sexp.specs.declared.token.TokenKind.{TokenKind}
use Rattle.sexp.specs.declared.token.TokenKind.TheVariants as kinds
use Rattle.sexp.specs.declared.token.SexpFault.{SexpFault}
use Rattle.sexp.specs.declared.token.SexpFault.TheVariants as faults

abbrev pub trees_by : TokenKind → List ℕ → Token → ℕ → (ℕ → Trees) → Trees
trees_by kinds.Open bytes t zero behind = more_trees (ListTree t.start (behind 0)) (behind 1)
trees_by kinds.Open bytes t (suc outer) behind = behind (suc (suc outer))
trees_by kinds.Close bytes t zero behind = no_trees
trees_by kinds.Close bytes t (suc outer) behind = behind outer
trees_by kinds.Atom bytes t zero behind = more_trees (AtomTree t.start (atom_text bytes t)) (behind 0)
trees_by kinds.Atom bytes t (suc outer) behind = behind (suc outer)
trees_by kinds.Quoted bytes t zero behind = more_trees (QuotedTree t.start (quoted_text bytes t)) (behind 0)
trees_by kinds.Quoted bytes t (suc outer) behind = behind (suc outer)

-- The trees that stand where so many of the lists round the tokens have ended, up to the end of the next one.
-- With 0 they begin with the first token.
unfoldable pub trees_behind : List ℕ → List Token → ℕ → Trees
trees_behind bytes [] outer = no_trees
trees_behind bytes (t ∷ ts) outer = trees_by t.kind bytes t outer (trees_behind bytes ts)

-- f of what is read, or the same fault
abbrev pub mapped : {X Y : Type 0} → (X → Y) → Result X SexpFault → Result Y SexpFault
mapped f (Ok x) = Ok (f x)
mapped f (Err fault) = Err fault

-- the tokens that are answered, or the fault that is answered behind them
abbrev pub tokens_or_fault : Answers → Result (List Token) SexpFault
tokens_or_fault (last (faulty fault)) = Err fault
tokens_or_fault (last other) = Ok []
tokens_or_fault (token t rest) = mapped (λ ts. t ∷ ts) (tokens_or_fault rest)

-- the trees of a text, or its first fault
unfoldable pub forest_of : List ℕ → Result Trees SexpFault
forest_of text = mapped (λ tokens. trees_behind text tokens 0) (tokens_or_fault (answers_to text))

-- the records of a text's trees, or its first fault
unfoldable pub records_of : List ℕ → Result (List Kept) SexpFault
records_of text = mapped (λ tokens. records text tokens 0) (tokens_or_fault (answers_to text))

-- what is read of a text, unless it has more bytes than most: that goes first
abbrev pub unless_long : {X : Type 0} → ℕ → List ℕ → Result X SexpFault → Result X SexpFault
unless_long most text read = if nat_lt most (length text) then Err (faults.TooLong most) else read

-- What a function returned, seen by view, is what reading gives, unless memory ran out.
abbrev pub Gives : {X Y : Type 0} → (X → Y) → Result X SexpFault → Result Y SexpFault → Type 0
Gives view (Ok x) read = read ≡ Ok (view x)
Gives view (Err fault) read = fault ≢ faults.Memory → read ≡ Err fault
