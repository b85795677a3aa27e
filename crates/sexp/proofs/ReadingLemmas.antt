-- What one word, or the end of the words, answers.
use Rattle.std.proofs.Common.{◌≡◌, ℕ, List, [], ◌∷◌, Bool, true, false, not, nat_lt, Some, None, refl, ◌∙◌, Err}
use Rattle.sexp.specs.Text.{Ending, faulty, Words, word, stop, token_of}
use Rattle.sexp.specs.Lexing.{Lexing, words_of, AlwaysHas}
use Rattle.sexp.specs.Depth.{depth_of}
use Rattle.sexp.specs.Nesting.{Answers, last, token, answers_of, at_word, ending_in}
use Rattle.sexp.specs.Reading.{answers_from, AlwaysAnswers, IsStop}
use Rattle.sexp.specs.declared.answer.Pending.{Pending}
use Rattle.sexp.specs.declared.answer.Pending.TheVariants.{Nothing, Shown, Held}
use Rattle.sexp.specs.declared.token.SexpFault.{SexpFault}
use Rattle.sexp.specs.declared.token.TokenKind.TheVariants as kinds
use Rattle.sexp.specs.declared.token.SexpFault.TheVariants.{Unopened, TooDeep}
use Rattle.sexp.specs.declared.nest.Frame.{Frame}
use Rattle.sexp.specs.declared.lexis.Word.{Word}

pub words_of-found : (l : Lexing) (w : Word) (whole_then : Bool) (tail : List ℕ) → l.found ≡ Some w
    → words_of l whole_then tail ≡ word w (words_of (record l { found = None }) whole_then tail)
unfolding words_of
words_of-found l w whole_then tail e = rw e refl

pub answers_of-word : (w : Word) (rest : Words) (lists : List Frame)
    → answers_of (word w rest) lists ≡ at_word w.kind (token_of w) rest lists (answers_of rest)
unfolding answers_of
answers_of-word w rest lists = refl

pub answers_of-stop : (ending : Ending) (lists : List Frame) → answers_of (stop ending) lists ≡ last (ending_in ending lists)
unfolding answers_of
answers_of-stop ending lists = refl

abbrev taken : Lexing → Lexing
taken l = record l { found = None }

pub let_first : (t : Word) (l : Lexing) (w : Word) (lists : List Frame) (whole_then : Bool) (tail : List ℕ)
    → l.found ≡ Some w → w.is_let ≡ true
    → answers_from (Held t) (words_of l whole_then tail) lists ≡ token (token_of t) (answers_from (Shown t.start) (words_of l whole_then tail) lists)
let_first t l w lists whole_then tail e b = rw (words_of-found l w whole_then tail e, b) refl

pub other_first : (t : Word) (l : Lexing) (w : Word) (lists : List Frame) (whole_then : Bool) (tail : List ℕ)
    → l.found ≡ Some w → w.is_let ≡ false
    → answers_from (Held t) (words_of l whole_then tail) lists ≡ last (faulty (TooDeep t.start))
other_first t l w lists whole_then tail e b = rw (words_of-found l w whole_then tail e, b) refl

at_found : (l after : Lexing) (w : Word) (lists : List Frame) (whole_then : Bool) (tail : List ℕ) → l.found ≡ Some w → after ≡ taken l
    → answers_of (words_of l whole_then tail) lists
    ≡ at_word w.kind (token_of w) (words_of after whole_then tail) lists (answers_of (words_of after whole_then tail))
at_found l after w lists whole_then tail e t =
    rw (t, words_of-found l w whole_then tail e) (answers_of-word w (words_of (taken l) whole_then tail) lists)

pub opens : (l after : Lexing) (w : Word) (lists : List Frame) (whole_then : Bool) (tail : List ℕ) → l.found ≡ Some w → after ≡ taken l
    → w.kind ≡ kinds.Open → nat_lt (depth_of lists) 2000 ≡ true
    → answers_of (words_of l whole_then tail) lists ≡ token (token_of w) (answers_from (Shown w.start) (words_of after whole_then tail) lists)
opens l after w lists whole_then tail e t k below = at_found l after w lists whole_then tail e t ∙ rw (k, below) refl

pub opens_at_limit : (l after : Lexing) (w : Word) (lists : List Frame) (whole_then : Bool) (tail : List ℕ) → l.found ≡ Some w → after ≡ taken l
    → w.kind ≡ kinds.Open → nat_lt (depth_of lists) 2000 ≡ false
    → answers_of (words_of l whole_then tail) lists ≡ answers_from (Held w) (words_of after whole_then tail) lists
opens_at_limit l after w lists whole_then tail e t k above = at_found l after w lists whole_then tail e t ∙ rw (k, above) refl

pub closes_none : (l : Lexing) (w : Word) (whole_then : Bool) (tail : List ℕ) → l.found ≡ Some w → w.kind ≡ kinds.Close
    → answers_of (words_of l whole_then tail) [] ≡ last (faulty (Unopened w.start))
closes_none l w whole_then tail e k = at_found l (taken l) w [] whole_then tail e refl ∙ rw k refl

pub closes : (l after : Lexing) (w : Word) (list : Frame) (lists : List Frame) (whole_then : Bool) (tail : List ℕ) → l.found ≡ Some w → after ≡ taken l
    → w.kind ≡ kinds.Close → answers_of (words_of l whole_then tail) (list ∷ lists) ≡ token (token_of w) (answers_of (words_of after whole_then tail) lists)
closes l after w list lists whole_then tail e t k = at_found l after w (list ∷ lists) whole_then tail e t ∙ rw k refl

pub atom_goes : (l after : Lexing) (w : Word) (lists : List Frame) (whole_then : Bool) (tail : List ℕ) → l.found ≡ Some w → after ≡ taken l
    → w.kind ≡ kinds.Atom → answers_of (words_of l whole_then tail) lists ≡ token (token_of w) (answers_of (words_of after whole_then tail) lists)
atom_goes l after w lists whole_then tail e t k = at_found l after w lists whole_then tail e t ∙ rw k refl

pub quoted_goes : (l after : Lexing) (w : Word) (lists : List Frame) (whole_then : Bool) (tail : List ℕ) → l.found ≡ Some w → after ≡ taken l
    → w.kind ≡ kinds.Quoted → answers_of (words_of l whole_then tail) lists ≡ token (token_of w) (answers_of (words_of after whole_then tail) lists)
quoted_goes l after w lists whole_then tail e t k = at_found l after w lists whole_then tail e t ∙ rw k refl

-- the list that was opened last, once its first token is known
pub settles : (start : ℕ) (l : Lexing) (w : Word) (lists : List Frame) (whole_then : Bool) (tail : List ℕ) → l.found ≡ Some w
    → answers_from (Shown start) (words_of l whole_then tail) lists
    ≡ answers_of (words_of l whole_then tail) (record { start = start; counts = not w.is_let } ∷ lists)
settles start l w lists whole_then tail e = rw (words_of-found l w whole_then tail e) refl

pub stops_at : (f : SexpFault) (l : Lexing) (p : Pending) (lists : List Frame) → AlwaysAnswers l p lists (last (faulty f)) → IsStop (Err f) l p lists
stops_at f l p lists h = λ other. h

-- what stands where no word does, with no list pending
pub no_word : (l : Lexing) (words : Words) (lists : List Frame) (a : Answers) → AlwaysHas l words → answers_of words lists ≡ a → AlwaysAnswers l Nothing lists a
no_word l words lists a h e = λ whole_then tail follow. rw (h whole_then tail follow) e

pub no_first_word : (l : Lexing) (start : ℕ) (ending : Ending) (lists : List Frame) (a : Answers)
    → AlwaysHas l (stop ending) → last (ending_in ending (record { start = start; counts = true } ∷ lists)) ≡ a → AlwaysAnswers l (Shown start) lists a
no_first_word l start ending lists a h e = λ whole_then tail follow.
    rw (h whole_then tail follow) (answers_of-stop ending (record { start = start; counts = true } ∷ lists) ∙ e)
