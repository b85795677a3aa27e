-- What a reader has still to answer.
use Rattle.std.specs.Prelude.{◌≡◌, ◌≢◌, ℕ, ◌+◌, List, [], ◌∷◌, ◌++◌, length, nat_lt, ◌||◌, if◌then◌else◌, Bool, true, false, Option, Some, None, is_some, Result, Ok, Err}
use Rattle.sexp.specs.declared.lexis.Mode.TheVariants.{Between}
use Rattle.sexp.specs.Text.{more, ends, faulty, Words, token_of, CanFollow}
use Rattle.sexp.specs.Lexing.{Lexing, words_of, fed_of}
use Rattle.sexp.specs.Nesting.{Answers, last, token, answers_of, opened, at_limit}
use Rattle.sexp.specs.declared.token.Next.{Next}
use Rattle.sexp.specs.declared.token.Next.TheVariants as nexts
use Rattle.sexp.specs.declared.token.SexpFault.{SexpFault}
use Rattle.sexp.specs.declared.token.SexpFault.TheVariants as faults
use Rattle.sexp.specs.declared.look.Peek.{Peek}
use Rattle.sexp.specs.declared.look.Peek.TheVariants as peeks
use Rattle.sexp.specs.declared.nest.Frame.{Frame}
use Rattle.sexp.specs.declared.answer.Pending.{Pending}
use Rattle.sexp.specs.declared.answer.Pending.TheVariants.{Nothing, Shown, Held}

-- The answers to come: a list whose first token isn't known yet is open besides those in lists.
abbrev pub answers_from : Pending → Words → List Frame → Answers
answers_from Nothing words lists = answers_of words lists
answers_from (Shown start) words lists = answers_of words (opened start words ∷ lists)
answers_from (Held list) words lists = at_limit (token_of list) words (answers_of words (opened list.start words ∷ lists))

-- what a reader answers where that comes next
abbrev pub told : Peek → Result Next SexpFault
told (peeks.Word w) = Ok (nexts.Token (token_of w))
told (peeks.Fault fault) = Err fault
told peeks.End = Ok nexts.End
told peeks.More = Ok nexts.More

abbrev pub following : Result Next SexpFault → Answers → Answers
following (Ok (nexts.Token t)) rest = token t rest
following other rest = rest

-- Whatever follows, what was to be answered is this answer and then what is still to be.
abbrev pub IsNext : Result Next SexpFault → Lexing → Pending → List Frame → Lexing → Pending → List Frame → Type 0
IsNext answer old before lists new after lists_after =
    (whole_then : Bool) (tail : List ℕ) → CanFollow old.whole whole_then tail
    → answers_from before (words_of old whole_then tail) lists ≡ following answer (answers_from after (words_of new whole_then tail) lists_after)

-- Whatever follows, these are the answers.
abbrev pub AlwaysAnswers : Lexing → Pending → List Frame → Answers → Type 0
AlwaysAnswers l pending lists answers =
    (whole_then : Bool) (tail : List ℕ) → CanFollow l.whole whole_then tail → answers_from pending (words_of l whole_then tail) lists ≡ answers

-- What the answer says of what is to come: at More the bytes fed end no token, at End the text has ended, and
-- at a fault nothing else comes.
abbrev pub IsStop : Result Next SexpFault → Lexing → Pending → List Frame → Type 0
IsStop (Ok (nexts.Token t)) l pending lists = Unit {0}
IsStop (Ok nexts.More) l pending lists = (l.whole ≡ false) × (answers_from pending (words_of l false []) lists ≡ last more)
IsStop (Ok nexts.End) l pending lists = (l.whole ≡ true) × AlwaysAnswers l pending lists (last ends)
IsStop (Err fault) l pending lists = fault ≢ faults.Memory → AlwaysAnswers l pending lists (last (faulty fault))

-- A reader: the bytes that it takes at most, whether more were fed, the fault that it answered, and what it
-- holds of the text.
pub record Reading : Type 0 where
  pub most : ℕ
  pub long : Bool
  pub fault : Option SexpFault
  pub lexing : Lexing
  pub pending : Pending
  pub lists : List Frame

-- The answers to come about a text that isn't too long, if these bytes are still fed, and if the text is then whole.
abbrev pub answers : Reading → Bool → List ℕ → Answers
answers r whole_then tail = answers_from r.pending (words_of r.lexing whole_then tail) r.lists

-- no more bytes come
abbrev pub is_whole : Reading → Bool
is_whole r = r.lexing.whole

-- how many bytes were fed, where they are not too many
abbrev pub count_fed : Reading → ℕ
count_fed r = fed_of r.lexing

-- what stands before the first byte
abbrev pub start_of : ℕ → Reading
start_of most = record {
  most = most;
  long = false;
  fault = None;
  lexing = record { left = []; mode = Between; at = 0; found = None; whole = false };
  pending = Nothing;
  lists = [];
}

-- a reader that is fed some more bytes; behind a fault they are only counted
abbrev pub fed : Reading → List ℕ → Reading
fed r piece =
    if r.long || nat_lt r.most (count_fed r + length piece)
    then record r { long = true }
    else if is_some r.fault
    then record r { lexing = record r.lexing { at = r.lexing.at + length piece } }
    else record r { lexing = record r.lexing { left = r.lexing.left ++ piece } }

-- a reader that is told that no more bytes come
abbrev pub finished : Reading → Reading
finished r = record r { lexing = record r.lexing { whole = true } }

-- Whatever follows, what the old reader was to answer is this answer, and then what the new one is to.
abbrev pub GoesOn : Result Next SexpFault → Reading → Reading → Type 0
GoesOn answer old new = IsNext answer old.lexing old.pending old.lists new.lexing new.pending new.lists

-- what the answer says of what the reader is still to answer
abbrev pub StopsAt : Result Next SexpFault → Reading → Type 0
StopsAt answer new = IsStop answer new.lexing new.pending new.lists

-- the fault of an answer, want of memory being none
abbrev pub fault_of : Result Next SexpFault → Option SexpFault
fault_of (Ok next) = None
fault_of (Err faults.Memory) = None
fault_of (Err fault) = Some fault

-- answering changes nothing of what was fed
pub record KeepsFed (old new : Reading) : Type 0 where
  pub count : count_fed new ≡ count_fed old
  pub whole : is_whole new ≡ is_whole old
  pub most : new.most ≡ old.most
  pub long : new.long ≡ old.long
