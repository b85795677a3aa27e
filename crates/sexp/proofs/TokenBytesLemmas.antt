-- The tokens of each text are what stands in it.
use Rattle.std.proofs.Common.{inl, inr, ◌≡◌, ℕ, zero, suc, ◌+◌, ◌<◌, ◌≤◌, ◌==◌, List, [], ◌∷◌, Bool, true, false, ◌&&◌, ◌||◌, not, nat_le, nat_lt, length, get_or, refl, sym, ◌∙◌, arith, if◌then◌else◌}
use Rattle.std.proofs.lemmas.Bool.{eqb-true}
use Rattle.std.proofs.Math.Nat.{eq-or-lt_of_le}
use Rattle.sexp.specs.Bytes.{class_of, stands_in_bars, is_white, is_letter}
use Rattle.sexp.specs.TokenBytes.{is_of_atom, is_within_bars, IsFree, HasBytes, IsTokenOf, AreTokensOf}
use Rattle.sexp.specs.Text.{more, ends, faulty, Words, word, stop, token_of, atom_of, begin_at, in_atom, at_byte, at_end, words_from}
use Rattle.sexp.specs.Depth.{depth_of}
use Rattle.sexp.specs.Nesting.{Answers, last, token, answers_of, at_word, at_limit, at_close, opened}
use Rattle.sexp.specs.Tokens.{answers_to, prepend}
use Rattle.sexp.specs.declared.nest.Frame.{Frame}
use Rattle.sexp.specs.declared.token.SexpFault.TheVariants.{TooDeep}
use Rattle.sexp.specs.declared.bytes.Class.{Class}
use Rattle.sexp.specs.declared.bytes.Class.TheVariants as classes
use Rattle.sexp.specs.declared.lexis.Mode.{Mode}
use Rattle.sexp.specs.declared.lexis.Mode.TheVariants as modes
use Rattle.sexp.specs.declared.token.Token.{Token}
use Rattle.sexp.specs.declared.token.TokenKind.{TokenKind}
use Rattle.sexp.specs.declared.token.TokenKind.TheVariants as kinds
use Rattle.sexp.specs.declared.token.SexpFault.{SexpFault}

-- what the class of a byte says of it
abbrev Tells : Class → ℕ → Type 0
Tells classes.White b = is_of_atom b ≡ false
Tells classes.Semicolon b = b ≡ 59
Tells classes.Open b = b ≡ 40
Tells classes.Close b = b ≡ 41
Tells classes.Bar b = b ≡ 124
Tells classes.Letter b = is_of_atom b ≡ true
Tells classes.Bad b = is_of_atom b ≡ false

white_or_not : (b : ℕ) (space tab cr lf low high quote : Bool) → (b == 32) ≡ space → (b == 9) ≡ tab → (b == 13) ≡ cr → (b == 10) ≡ lf
    → nat_le 33 b ≡ low → nat_le b 126 ≡ high → (b == 34) ≡ quote
    → (b == 59) ≡ false → (b == 40) ≡ false → (b == 41) ≡ false → (b == 124) ≡ false
    → Tells (if (space || tab || cr || lf) then classes.White else if (low && high && not quote) then classes.Letter else classes.Bad) b
white_or_not b true tab cr lf low high quote is t c l lo hi q s o e r = rw (eqb-true b 32 is) refl
white_or_not b false true cr lf low high quote is t c l lo hi q s o e r = rw (eqb-true b 9 t) refl
white_or_not b false false true lf low high quote is t c l lo hi q s o e r = rw (eqb-true b 13 c) refl
white_or_not b false false false true low high quote is t c l lo hi q s o e r = rw (eqb-true b 10 l) refl
white_or_not b false false false false true true true is t c l lo hi q s o e r = rw (s, o, e, r, q) refl
white_or_not b false false false false true true false is t c l lo hi q s o e r = rw (s, o, e, r, q, lo, hi) refl
white_or_not b false false false false true false true is t c l lo hi q s o e r = rw (s, o, e, r, q) refl
white_or_not b false false false false true false false is t c l lo hi q s o e r = rw (s, o, e, r, q, lo, hi) refl
white_or_not b false false false false false high true is t c l lo hi q s o e r = rw (s, o, e, r, q) refl
white_or_not b false false false false false high false is t c l lo hi q s o e r = rw (s, o, e, r, q, lo) refl

bar_or_not : (b : ℕ) (bar : Bool) → (b == 124) ≡ bar → (b == 59) ≡ false → (b == 40) ≡ false → (b == 41) ≡ false
    → Tells (if bar then classes.Bar else if is_white b then classes.White else if is_letter b then classes.Letter else classes.Bad) b
bar_or_not b true is s o e = eqb-true b 124 is
bar_or_not b false is s o e =
    white_or_not b (b == 32) (b == 9) (b == 13) (b == 10) (nat_le 33 b) (nat_le b 126) (b == 34) refl refl refl refl refl refl refl s o e is

close_or_not : (b : ℕ) (close : Bool) → (b == 41) ≡ close → (b == 59) ≡ false → (b == 40) ≡ false
    → Tells (if close then classes.Close else if b == 124 then classes.Bar else if is_white b then classes.White else if is_letter b then classes.Letter else classes.Bad) b
close_or_not b true is s o = eqb-true b 41 is
close_or_not b false is s o = bar_or_not b (b == 124) refl s o is

open_or_not : (b : ℕ) (opens : Bool) → (b == 40) ≡ opens → (b == 59) ≡ false
    → Tells (if opens then classes.Open else if b == 41 then classes.Close else if b == 124 then classes.Bar else if is_white b then classes.White else if is_letter b then classes.Letter else classes.Bad) b
open_or_not b true is s = eqb-true b 40 is
open_or_not b false is s = close_or_not b (b == 41) refl s is

class_by : (b : ℕ) (semicolon : Bool) → (b == 59) ≡ semicolon
    → Tells (if semicolon then classes.Semicolon else if b == 40 then classes.Open else if b == 41 then classes.Close else if b == 124 then classes.Bar else if is_white b then classes.White else if is_letter b then classes.Letter else classes.Bad) b
class_by b true is = eqb-true b 59 is
class_by b false is = open_or_not b (b == 40) refl is

class_tells : (b : ℕ) → Tells (class_of b) b
unfolding class_of
class_tells b = class_by b (b == 59) refl

-- what is begun at a place and not ended
abbrev Begun : List ℕ → Mode → ℕ → Type 0
Begun text modes.Between at = IsFree text at
Begun text modes.Comment at = Unit {0}
Begun text (modes.Atom start letters) at = (start < at) × IsFree text start × ((k : ℕ) → start ≤ k → k < at → is_of_atom (get_or text k 0) ≡ true)
Begun text (modes.Quoted start) at = (start < at) × (get_or text start 0 ≡ 124) × ((k : ℕ) → start < k → k < at → is_within_bars (get_or text k 0) ≡ true)

-- each word is what stands there in the text
pub AreWords : List ℕ → Words → Type 0
AreWords text (stop ending) = Unit {0}
AreWords text (word w rest) = HasBytes w.kind text w.start w.end × AreWords text rest

abbrev ReadsOn : List ℕ → (Mode → Words) → ℕ → Type 0
ReadsOn text read_on at = (mode : Mode) → Begun text mode at → AreWords text (read_on mode)

-- behind a byte that is none of an atom no atom has begun
free_behind : (text : List ℕ) (at b : ℕ) → get_or text at 0 ≡ b → is_of_atom b ≡ false → IsFree text (at + 1)
free_behind text at b here none = λ k e.
    let same : k ≡ at = omega arith in
    rw (same, here) none

-- a byte of another class than letters is none of an atom
none_of : (class : Class) (b : ℕ) → Tells class b → (class ≡ classes.Letter → ⊥) → is_of_atom b ≡ false
none_of classes.White b tells other = tells
none_of classes.Semicolon b tells other = rw tells refl
none_of classes.Open b tells other = rw tells refl
none_of classes.Close b tells other = rw tells refl
none_of classes.Bar b tells other = rw tells refl
none_of classes.Letter b tells other = absurd (other refl)
none_of classes.Bad b tells other = tells

begin_words : (class : Class) (b : ℕ) (text : List ℕ) (at : ℕ) (read_on : Mode → Words) → Tells class b → get_or text at 0 ≡ b
    → (class ≡ classes.Letter → IsFree text at) → ReadsOn text read_on (at + 1) → AreWords text (begin_at class b at read_on)
unfolding AreWords
begin_words classes.White b text at read_on tells here free on = on modes.Between (free_behind text at b here tells)
begin_words classes.Semicolon b text at read_on tells here free on = on modes.Comment tt
begin_words classes.Open b text at read_on tells here free on =
    (record { byte = here ∙ tells; one = refl }, on modes.Between (free_behind text at b here (rw tells refl)))
begin_words classes.Close b text at read_on tells here free on =
    (record { byte = here ∙ tells; one = refl }, on modes.Between (free_behind text at b here (rw tells refl)))
begin_words classes.Bar b text at read_on tells here free on =
    on (modes.Quoted at) (omega arith, here ∙ tells, λ k low high. absurd (omega arith))
begin_words classes.Letter b text at read_on tells here free on =
    on (modes.Atom at _) (omega arith, free refl, λ k low high. (let same : k ≡ at = omega arith in rw (same, here) tells))
begin_words classes.Bad b text at read_on tells here free on = tt

-- a byte that ends an atom, and is read as one outside
end_words : (class : Class) (start letters b : ℕ) (text : List ℕ) (at : ℕ) (read_on : Mode → Words) → (class ≡ classes.Letter → ⊥) → Tells class b
    → get_or text at 0 ≡ b → Begun text (modes.Atom start letters) at → ReadsOn text read_on (at + 1)
    → AreWords text (word (atom_of start letters at) (begin_at class b at read_on))
unfolding AreWords
end_words class start letters b text at read_on other tells here begun on = (
  record { before = begun.1; bytes = begun.2; behind = rw here (none_of class b tells other) },
  begin_words class b text at read_on tells here (λ e. absurd (other e)) on,
)

-- bytes up to a place and the byte there
one_more : (text : List ℕ) (P : ℕ → Bool) (from at b : ℕ) → ((k : ℕ) → from ≤ k → k < at → P (get_or text k 0) ≡ true) → get_or text at 0 ≡ b → P b ≡ true
    → (k : ℕ) → from ≤ k → k < at + 1 → P (get_or text k 0) ≡ true
one_more text P from at b before here is = λ k low high.
    let up_to : k ≤ at = omega arith in
    elim (eq-or-lt_of_le up_to) [
      | inl same ↦ rw (same, here) is
      | inr below ↦ before k low below
    ]

comment_words : (is_end : Bool) (b : ℕ) (text : List ℕ) (at : ℕ) (read_on : Mode → Words) → (b == 10) ≡ is_end → get_or text at 0 ≡ b → ReadsOn text read_on (at + 1)
    → AreWords text (if is_end then read_on modes.Between else read_on modes.Comment)
comment_words true b text at read_on is here on = on modes.Between (free_behind text at b here (rw (eqb-true b 10 is) refl))
comment_words false b text at read_on is here on = on modes.Comment tt

-- what may stand in bars and is no bar stands between them
within_by : (bar backslash inner : Bool) → bar ≡ false → (inner && not backslash) ≡ true → (not bar && not backslash && inner) ≡ true
within_by bar true true none stands = cc
within_by bar true false none stands = cc
within_by bar false true none stands = rw none refl
within_by bar false false none stands = cc

within : (b : ℕ) → (b == 124) ≡ false → stands_in_bars b ≡ true → is_within_bars b ≡ true
unfolding stands_in_bars
within b none stands = within_by (b == 124) (b == 92) ((nat_le 32 b && nat_le b 126) || is_white b) none stands

bars_words : (is_bar stands : Bool) (start b : ℕ) (text : List ℕ) (at : ℕ) (fault : SexpFault) (read_on : Mode → Words) → (b == 124) ≡ is_bar → stands_in_bars b ≡ stands
    → get_or text at 0 ≡ b → Begun text (modes.Quoted start) at → ReadsOn text read_on (at + 1)
    → AreWords text (if is_bar then word (record { start = start; end = at + 1; kind = kinds.Quoted; is_let = false }) (read_on modes.Between) else
    if stands then read_on (modes.Quoted start) else stop (faulty fault))
unfolding AreWords
bars_words true stands start b text at fault read_on is inner here begun on = (
  record {
    opens = begun.1;
    bytes = λ k low high. begun.2 k low (omega arith);
    closes = λ k e. (let same : k ≡ at = omega arith in rw (same, here) (eqb-true b 124 is));
  },
  on modes.Between (free_behind text at b here (rw (eqb-true b 124 is) refl)),
)
bars_words false true start b text at fault read_on is inner here begun on =
    on (modes.Quoted start) (omega arith, begun.1, one_more text is_within_bars (suc start) at b begun.2 here (within b is inner))
bars_words false false start b text at fault read_on is inner here begun on = tt

atom_words : (class : Class) (start letters b : ℕ) (text : List ℕ) (at : ℕ) (read_on : Mode → Words) → Tells class b
    → get_or text at 0 ≡ b → Begun text (modes.Atom start letters) at → ReadsOn text read_on (at + 1)
    → AreWords text (in_atom class start letters b at read_on)
atom_words classes.Letter start letters b text at read_on tells here begun on =
    on (modes.Atom start _) (omega arith, begun.1, one_more text is_of_atom start at b begun.2 here tells)
atom_words classes.White start letters b text at read_on tells here begun on = end_words classes.White start letters b text at read_on (λ e. cc) tells here begun on
atom_words classes.Semicolon start letters b text at read_on tells here begun on = end_words classes.Semicolon start letters b text at read_on (λ e. cc) tells here begun on
atom_words classes.Open start letters b text at read_on tells here begun on = end_words classes.Open start letters b text at read_on (λ e. cc) tells here begun on
atom_words classes.Close start letters b text at read_on tells here begun on = end_words classes.Close start letters b text at read_on (λ e. cc) tells here begun on
atom_words classes.Bar start letters b text at read_on tells here begun on = end_words classes.Bar start letters b text at read_on (λ e. cc) tells here begun on
atom_words classes.Bad start letters b text at read_on tells here begun on = end_words classes.Bad start letters b text at read_on (λ e. cc) tells here begun on

byte_words : (mode : Mode) (b : ℕ) (text : List ℕ) (at : ℕ) (read_on : Mode → Words) → get_or text at 0 ≡ b → Begun text mode at → ReadsOn text read_on (at + 1)
    → AreWords text (at_byte mode at b read_on)
byte_words modes.Between b text at read_on here begun on = begin_words (class_of b) b text at read_on (class_tells b) here (λ e. begun) on
byte_words modes.Comment b text at read_on here begun on = comment_words (b == 10) b text at read_on refl here on
byte_words (modes.Atom start letters) b text at read_on here begun on = atom_words (class_of b) start letters b text at read_on (class_tells b) here begun on
byte_words (modes.Quoted start) b text at read_on here begun on = bars_words (b == 124) (stands_in_bars b) start b text at _ read_on refl refl here begun on

-- these bytes stand in the text from a place on, and nothing behind them
abbrev StandAt : List ℕ → List ℕ → ℕ → Type 0
StandAt bytes text at = (k : ℕ) → get_or bytes k 0 ≡ get_or text (at + k) 0

next_stand : (b : ℕ) (bytes text : List ℕ) (at : ℕ) → StandAt (b ∷ bytes) text at → StandAt bytes text (at + 1)
next_stand b bytes text at stand = λ k.
    let regroup : (at + 1) + k ≡ at + suc k = omega arith in
    rw regroup (stand (suc k))

first_stands : (bytes text : List ℕ) (at : ℕ) → StandAt bytes text at → get_or text at 0 ≡ get_or bytes 0 0
first_stands bytes text at stand =
    let same : at + 0 ≡ at = omega arith in
    sym (rw same at (stand 0))

end_words_are : (mode : Mode) (text : List ℕ) (at : ℕ) → get_or text at 0 ≡ 0 → Begun text mode at → AreWords text (at_end true mode at)
unfolding AreWords
end_words_are modes.Between text at none begun = tt
end_words_are modes.Comment text at none begun = tt
end_words_are (modes.Atom start letters) text at none begun = (record { before = begun.1; bytes = begun.2; behind = rw none refl }, tt)
end_words_are (modes.Quoted start) text at none begun = tt

words_are : (bytes : List ℕ) (mode : Mode) (text : List ℕ) (at : ℕ) → StandAt bytes text at → Begun text mode at → AreWords text (words_from true bytes mode at)
unfolding words_from
words_are [] mode text at stand begun = end_words_are mode text at (first_stands [] text at stand) begun
words_are (b ∷ bytes) mode text at stand begun =
    byte_words mode b text at (λ after. words_from true bytes after (at + 1)) (first_stands (b ∷ bytes) text at stand) begun
    (λ after is. words_are bytes after text (at + 1) (next_stand b bytes text at stand) is)

-- each token that is answered is what stands there in the text
AreAnswers : List ℕ → Answers → Type 0
AreAnswers text (last ending) = Unit {0}
AreAnswers text (token t rest) = IsTokenOf text t × AreAnswers text rest

let_answers : (is_let : Bool) (t : Token) (go_on : Answers) (text : List ℕ) → IsTokenOf text t → AreAnswers text go_on
    → AreAnswers text (if is_let then token t go_on else last (faulty (TooDeep t.start)))
unfolding AreAnswers
let_answers true t go_on text has on = (has, on)
let_answers false t go_on text has on = tt

limit_answers : (t : Token) (content : Words) (go_on : Answers) (text : List ℕ) → IsTokenOf text t → AreAnswers text go_on
    → AreAnswers text (at_limit t content go_on)
unfolding AreAnswers
limit_answers t (stop more) go_on text has on = tt
limit_answers t (stop ends) go_on text has on = tt
limit_answers t (stop (faulty f)) go_on text has on = tt
limit_answers t (word w rest) go_on text has on = let_answers w.is_let t go_on text has on

open_answers : (below : Bool) (t : Token) (content : Words) (go_on : Answers) (text : List ℕ) → IsTokenOf text t → AreAnswers text go_on
    → AreAnswers text (if below then token t go_on else at_limit t content go_on)
unfolding AreAnswers
open_answers true t content go_on text has on = (has, on)
open_answers false t content go_on text has on = limit_answers t content go_on text has on

close_answers : (t : Token) (lists : List Frame) (go_on : List Frame → Answers) (text : List ℕ) → IsTokenOf text t
    → ((inner : List Frame) → AreAnswers text (go_on inner)) → AreAnswers text (at_close t lists go_on)
unfolding AreAnswers
close_answers t [] go_on text has on = tt
close_answers t (list ∷ lists) go_on text has on = (has, on lists)

word_answers : (kind : TokenKind) (t : Token) (rest : Words) (lists : List Frame) (go_on : List Frame → Answers) (text : List ℕ) → IsTokenOf text t
    → ((inner : List Frame) → AreAnswers text (go_on inner)) → AreAnswers text (at_word kind t rest lists go_on)
unfolding AreAnswers
word_answers kinds.Open t rest lists go_on text has on =
    open_answers (nat_lt (depth_of lists) 2000) t rest (go_on (opened t.start rest ∷ lists)) text has (on (opened t.start rest ∷ lists))
word_answers kinds.Close t rest lists go_on text has on = close_answers t lists go_on text has on
word_answers kinds.Atom t rest lists go_on text has on = (has, on lists)
word_answers kinds.Quoted t rest lists go_on text has on = (has, on lists)

answers_are : (words : Words) (lists : List Frame) (text : List ℕ) → AreWords text words → AreAnswers text (answers_of words lists)
unfolding answers_of AreAnswers AreWords
answers_are (stop ending) lists text are = tt
answers_are (word w rest) lists text are =
    word_answers w.kind (token_of w) rest lists (answers_of rest) text are.0 (λ inner. answers_are rest inner text are.1)

text_answers : (text : List ℕ) → AreAnswers text (answers_to text)
text_answers text =
    answers_are (words_from true text modes.Between 0) [] text
    (words_are text modes.Between text 0 (λ k. (let same : 0 + k ≡ k = omega arith in rw same refl)) (λ k e. absurd (omega arith)))

token_at : (text : List ℕ) (tokens : List Token) (rest : Answers) (k : ℕ) → AreAnswers text (prepend tokens rest) → (d : Token) → k < length tokens
    → IsTokenOf text (get_or tokens k d)
unfolding AreAnswers
token_at text [] rest k are d below = absurd (omega arith)
token_at text (t ∷ tokens) rest zero are d below = are.0
token_at text (t ∷ tokens) rest (suc k) are d below = token_at text tokens rest k are.1 d (omega arith)

-- the tokens of a text are what stands in it
pub text_tokens : (text : List ℕ) (tokens : List Token) (rest : Answers) → answers_to text ≡ prepend tokens rest → AreTokensOf text tokens
text_tokens text tokens rest e = λ k d below. token_at text tokens rest k (rw e at (text_answers text)) d below
