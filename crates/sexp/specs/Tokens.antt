-- The tokens of a whole text.
use Rattle.std.specs.Prelude.{◌≡◌, ◌≢◌, ℕ, ◌+◌, List, [], ◌∷◌, Bool, true, false, Some, None, Result, Ok, Err}
use Rattle.sexp.specs.Text.{ends, faulty, words_from, CanFollow}
use Rattle.sexp.specs.Reading.{Reading, answers, is_whole, KeepsFed}
use Rattle.sexp.specs.Nesting.{Answers, last, token, answers_of}
use Rattle.sexp.specs.declared.lexis.Mode.TheVariants.{Between}
use Rattle.sexp.specs.declared.token.Token.{Token}
use Rattle.sexp.specs.declared.token.SexpFault.{SexpFault}
use Rattle.sexp.specs.declared.token.SexpFault.TheVariants as faults

-- these tokens, and then those answers
abbrev pub prepend : List Token → Answers → Answers
prepend [] rest = rest
prepend (t ∷ ts) rest = token t (prepend ts rest)

abbrev pub tokens_left : Answers → ℕ
tokens_left (last ending) = 0
tokens_left (token t rest) = tokens_left rest + 1

-- all that a text is, once it is whole
abbrev pub answers_to : List ℕ → Answers
answers_to text = answers_of (words_from true text Between 0) []

-- The fault is the text's first, unless memory runs out.
abbrev pub IsFaultOf : SexpFault → List ℕ → Type 0
IsFaultOf fault text = fault ≢ faults.Memory → (tokens : List Token) × (answers_to text ≡ prepend tokens (last (faulty fault)))

-- What the rest of a whole text adds to the tokens, where these answers were to come.
abbrev pub IsRest : Result (Unit {0}) SexpFault → List Token → Answers → List Token → Type 0
IsRest (Ok u) before to_come after = prepend before to_come ≡ prepend after (last ends)
IsRest (Err fault) before to_come after = fault ≢ faults.Memory → prepend before to_come ≡ prepend after (last (faulty fault))

-- The tokens that were there are taken: what was to come is what is taken now, and then what is to come, or
-- the fault that was answered. Where a fault was answered before, nothing is taken.
pub record IsDrained (old new : Reading) (before after : List Token) : Type 0 where
  pub keeps : KeepsFed old new
  pub still : (fault : SexpFault) → old.fault ≡ Some fault → (new.fault ≡ Some fault) × (after ≡ before)
  pub goes : old.fault ≡ None → old.long ≡ false → new.fault ≡ None
      → (whole_then : Bool) (tail : List ℕ) → CanFollow (is_whole old) whole_then tail
      → prepend before (answers old whole_then tail) ≡ prepend after (answers new whole_then tail)
  pub stops : old.fault ≡ None → old.long ≡ false → (fault : SexpFault) → new.fault ≡ Some fault
      → (whole_then : Bool) (tail : List ℕ) → CanFollow (is_whole old) whole_then tail
      → prepend before (answers old whole_then tail) ≡ prepend after (last (faulty fault))
