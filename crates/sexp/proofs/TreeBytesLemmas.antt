-- The records of a text are its trees, each with its bytes.
use Rattle.std.proofs.Common.{◌≡◌, ℕ, zero, suc, ◌+◌, ◌<◌, ◌≤◌, ◌==◌, List, [], ◌∷◌, length, get_or, Bool, true, false, nat_lt, if◌then◌else◌, refl, sym, ap, ◌∙◌, subst, arith, inl, inr, Result, Ok, Err}
use Rattle.std.proofs.lemmas.Bool.{cases_lt}
use Rattle.sexp.specs.Bytes.{class_of, stands_in_bars}
use Rattle.sexp.specs.Depth.{depth_of}
use Rattle.sexp.specs.Text.{Ending, more, ends, faulty, Words, word, stop, token_of, begin_at, in_atom, at_byte, words_from}
use Rattle.sexp.specs.Nesting.{Answers, last, token, answers_of, at_word, at_limit, at_close, ending_in, opened}
use Rattle.sexp.specs.Tokens.{answers_to, prepend}
use Rattle.sexp.specs.Forest.{AtomBody, QuotedBody, Kept, kept_at, after_of}
use Rattle.sexp.specs.Records.{closing, leaf, list_of, records, atom_text, quoted_text}
use Rattle.sexp.specs.Spans.{IsSpan, AreSpans, orderly_by, IsOrderly}
use Rattle.sexp.specs.TextTrees.{mapped, tokens_or_fault, records_of}
use Rattle.sexp.specs.TokenBytes.{HasBytes, IsTokenOf}
use Rattle.sexp.specs.TreeBytes.{HasTreeBytes, IsTreeOf, AreTreesOf}
use Rattle.sexp.specs.declared.bytes.Class.{Class}
use Rattle.sexp.specs.declared.bytes.Class.TheVariants as classes
use Rattle.sexp.specs.declared.lexis.Mode.{Mode}
use Rattle.sexp.specs.declared.lexis.Mode.TheVariants as modes
use Rattle.sexp.specs.declared.token.Token.{Token}
use Rattle.sexp.specs.declared.token.TokenKind.{TokenKind}
use Rattle.sexp.specs.declared.token.TokenKind.TheVariants as kinds
use Rattle.sexp.specs.declared.token.SexpFault.{SexpFault}
use Rattle.sexp.specs.declared.token.SexpFault.TheVariants.{TooDeep}
use Rattle.sexp.specs.declared.nest.Frame.{Frame}
use Rattle.sexp.proofs.SpanLemmas.{text-orderly, text-spans}
use Rattle.sexp.proofs.TokenBytesLemmas.{text_tokens}
use Rattle.sexp.proofs.TreeLemmas.{Stands, end_of, ends_well, next_is, next_stands, closed_stands, all_left, records-open, records-atom, records-quoted, closing-open, closing-close, closing-outer, closing-atom, closing-quoted, same_value}

-- ---- a whole text ends

-- the words end, in one way or another
abbrev DoEnd : Words → Type 0
DoEnd (stop more) = ⊥
DoEnd (stop ends) = Unit {0}
DoEnd (stop (faulty fault)) = Unit {0}
DoEnd (word w rest) = DoEnd rest

begin-ends : (class : Class) (b at : ℕ) (read_on : Mode → Words) → ((mode : Mode) → DoEnd (read_on mode)) → DoEnd (begin_at class b at read_on)
begin-ends classes.White b at read_on on = on modes.Between
begin-ends classes.Semicolon b at read_on on = on modes.Comment
begin-ends classes.Open b at read_on on = on modes.Between
begin-ends classes.Close b at read_on on = on modes.Between
begin-ends classes.Bar b at read_on on = on (modes.Quoted at)
begin-ends classes.Letter b at read_on on = on (modes.Atom at _)
begin-ends classes.Bad b at read_on on = tt

atom-ends : (class : Class) (start letters b at : ℕ) (read_on : Mode → Words) → ((mode : Mode) → DoEnd (read_on mode)) → DoEnd (in_atom class start letters b at read_on)
atom-ends classes.Letter start letters b at read_on on = on (modes.Atom start _)
atom-ends classes.White start letters b at read_on on = begin-ends classes.White b at read_on on
atom-ends classes.Semicolon start letters b at read_on on = begin-ends classes.Semicolon b at read_on on
atom-ends classes.Open start letters b at read_on on = begin-ends classes.Open b at read_on on
atom-ends classes.Close start letters b at read_on on = begin-ends classes.Close b at read_on on
atom-ends classes.Bar start letters b at read_on on = begin-ends classes.Bar b at read_on on
atom-ends classes.Bad start letters b at read_on on = begin-ends classes.Bad b at read_on on

comment-ends : (is_end : Bool) (read_on : Mode → Words) → ((mode : Mode) → DoEnd (read_on mode)) → DoEnd (if is_end then read_on modes.Between else read_on modes.Comment)
comment-ends true read_on on = on modes.Between
comment-ends false read_on on = on modes.Comment

bars-ends : (is_bar stands : Bool) (start at : ℕ) (fault : SexpFault) (read_on : Mode → Words) → ((mode : Mode) → DoEnd (read_on mode))
    → DoEnd (if is_bar then word (record { start = start; end = at + 1; kind = kinds.Quoted; is_let = false }) (read_on modes.Between) else
    if stands then read_on (modes.Quoted start) else stop (faulty fault))
bars-ends true stands start at fault read_on on = on modes.Between
bars-ends false true start at fault read_on on = on (modes.Quoted start)
bars-ends false false start at fault read_on on = tt

byte-ends : (mode : Mode) (b at : ℕ) (read_on : Mode → Words) → ((after : Mode) → DoEnd (read_on after)) → DoEnd (at_byte mode at b read_on)
byte-ends modes.Between b at read_on on = begin-ends (class_of b) b at read_on on
byte-ends modes.Comment b at read_on on = comment-ends (b == 10) read_on on
byte-ends (modes.Atom start letters) b at read_on on = atom-ends (class_of b) start letters b at read_on on
byte-ends (modes.Quoted start) b at read_on on = bars-ends (b == 124) (stands_in_bars b) start at _ read_on on

words-end : (bytes : List ℕ) (mode : Mode) (at : ℕ) → DoEnd (words_from true bytes mode at)
unfolding words_from
words-end [] modes.Between at = tt
words-end [] modes.Comment at = tt
words-end [] (modes.Atom start letters) at = tt
words-end [] (modes.Quoted start) at = tt
words-end (b ∷ bytes) mode at = byte-ends mode b at (λ after. words_from true bytes after (at + 1)) (λ after. words-end bytes after (at + 1))

-- the answers end, in one way or another
abbrev AnswersEnd : Answers → Type 0
AnswersEnd (last more) = ⊥
AnswersEnd (last ends) = Unit {0}
AnswersEnd (last (faulty fault)) = Unit {0}
AnswersEnd (token t rest) = AnswersEnd rest

let-ends : (is_let : Bool) (t : Token) (go_on : Answers) → AnswersEnd go_on → AnswersEnd (if is_let then token t go_on else last (faulty (TooDeep t.start)))
let-ends true t go_on on = on
let-ends false t go_on on = tt

limit-ends : (t : Token) (content : Words) (go_on : Answers) → DoEnd content → AnswersEnd go_on → AnswersEnd (at_limit t content go_on)
limit-ends t (stop more) go_on end on = absurd end
limit-ends t (stop ends) go_on end on = tt
limit-ends t (stop (faulty f)) go_on end on = tt
limit-ends t (word w rest) go_on end on = let-ends w.is_let t go_on on

open-ends : (below : Bool) (t : Token) (content : Words) (go_on : Answers) → DoEnd content → AnswersEnd go_on → AnswersEnd (if below then token t go_on else at_limit t content go_on)
open-ends true t content go_on end on = on
open-ends false t content go_on end on = limit-ends t content go_on end on

close-ends : (t : Token) (lists : List Frame) (go_on : List Frame → Answers) → ((inner : List Frame) → AnswersEnd (go_on inner)) → AnswersEnd (at_close t lists go_on)
close-ends t [] go_on on = tt
close-ends t (list ∷ lists) go_on on = on lists

word-ends : (kind : TokenKind) (t : Token) (rest : Words) (lists : List Frame) (go_on : List Frame → Answers) → DoEnd rest
    → ((inner : List Frame) → AnswersEnd (go_on inner)) → AnswersEnd (at_word kind t rest lists go_on)
word-ends kinds.Open t rest lists go_on end on = open-ends (nat_lt (depth_of lists) 2000) t rest (go_on (opened t.start rest ∷ lists)) end (on (opened t.start rest ∷ lists))
word-ends kinds.Close t rest lists go_on end on = close-ends t lists go_on on
word-ends kinds.Atom t rest lists go_on end on = on lists
word-ends kinds.Quoted t rest lists go_on end on = on lists

ending-ends : (ending : Ending) (lists : List Frame) → DoEnd (stop ending) → AnswersEnd (last (ending_in ending lists))
ending-ends more lists end = absurd end
ending-ends ends [] end = tt
ending-ends ends (list ∷ lists) end = tt
ending-ends (faulty fault) lists end = tt

answers-end : (words : Words) (lists : List Frame) → DoEnd words → AnswersEnd (answers_of words lists)
unfolding answers_of
answers-end (stop ending) lists end = ending-ends ending lists end
answers-end (word w rest) lists end = word-ends w.kind (token_of w) rest lists (answers_of rest) end (λ inner. answers-end rest inner end)

text-ends : (text : List ℕ) → AnswersEnd (answers_to text)
text-ends text = answers-end (words_from true text modes.Between 0) [] (words-end text modes.Between 0)

more_with : (t : Token) (rest : Answers) (tokens : List Token) (read : Result (List Token) SexpFault) → ((ts : List Token) → tokens_or_fault rest ≡ Ok ts → rest ≡ prepend ts (last ends))
    → tokens_or_fault rest ≡ read → mapped (λ ts. t ∷ ts) read ≡ Ok tokens → token t rest ≡ prepend tokens (last ends)
more_with t rest tokens (Ok ts) on is f = rw (sym (same_value (t ∷ ts) tokens f)) (ap (token t) (on ts is))
more_with t rest tokens (Err fault) on is f = cc

-- where there is no fault, the answers are the tokens and then the end
ends_with : (a : Answers) (tokens : List Token) → AnswersEnd a → tokens_or_fault a ≡ Ok tokens → a ≡ prepend tokens (last ends)
ends_with (last more) tokens end e = absurd end
ends_with (last ends) tokens end e = rw (sym (same_value [] tokens e)) refl
ends_with (last (faulty fault)) tokens end e = cc
ends_with (token t rest) tokens end e = more_with t rest tokens (tokens_or_fault rest) (λ ts is. ends_with rest ts end is) refl e

-- ---- so many lists being open before the tokens, all are closed behind them

abbrev Balanced : List Token → ℕ → Type 0
Balanced [] lists = lists ≡ 0
Balanced (t ∷ ts) lists = orderly_by t.kind lists (Balanced ts)

balanced_by : (kind : TokenKind) (lists : ℕ) (P Q : ℕ → Type 0) → ((i : ℕ) → P i → Q i) → orderly_by kind lists P → orderly_by kind lists Q
balanced_by kinds.Open lists P Q on h = on (suc lists) h
balanced_by kinds.Close zero P Q on h = absurd h
balanced_by kinds.Close (suc lists) P Q on h = on lists h
balanced_by kinds.Atom lists P Q on h = on lists h
balanced_by kinds.Quoted lists P Q on h = on lists h

balanced : (tokens : List Token) (lists from to : ℕ) → IsOrderly (prepend tokens (last ends)) lists from to → Balanced tokens lists
balanced [] lists from to orderly = orderly
balanced (t ∷ tokens) lists from to orderly =
    balanced_by t.kind lists (λ inner. IsOrderly (prepend tokens (last ends)) inner t.end to) (Balanced tokens) (λ i h. balanced tokens i t.end to h) orderly.1

-- ---- where trees stand

-- the place behind the list round the tokens, so many lists further out
abbrev close_of : List Token → ℕ → ℕ → ℕ
close_of ts k n = (closing ts k n).0

close-open : (t : Token) (ts : List Token) (k n : ℕ) → t.kind ≡ kinds.Open → close_of (t ∷ ts) k n ≡ close_of ts (suc k) (n + 1)
unfolding closing
close-open t ts k n is = rw is refl

close-close : (t : Token) (ts : List Token) (n : ℕ) → t.kind ≡ kinds.Close → close_of (t ∷ ts) 0 n ≡ t.end
unfolding closing
close-close t ts n is = rw is refl

close-outer : (t : Token) (ts : List Token) (k n : ℕ) → t.kind ≡ kinds.Close → close_of (t ∷ ts) (suc k) n ≡ close_of ts k n
unfolding closing
close-outer t ts k n is = rw is refl

close-atom : (t : Token) (ts : List Token) (k n : ℕ) → t.kind ≡ kinds.Atom → close_of (t ∷ ts) k n ≡ close_of ts k (n + 1)
unfolding closing
close-atom t ts k n is = rw is refl

close-quoted : (t : Token) (ts : List Token) (k n : ℕ) → t.kind ≡ kinds.Quoted → close_of (t ∷ ts) k n ≡ close_of ts k (n + 1)
unfolding closing
close-quoted t ts k n is = rw is refl

-- all tokens are what stands in the text
abbrev AreAll : List ℕ → List Token → Type 0
AreAll text [] = Unit {0}
AreAll text (t ∷ ts) = IsTokenOf text t × AreAll text ts

are_all : (text : List ℕ) (tokens : List Token) → ((k : ℕ) (d : Token) → k < length tokens → IsTokenOf text (get_or tokens k d)) → AreAll text tokens
are_all text [] h = tt
are_all text (t ∷ ts) h = (h 0 t (omega arith), are_all text ts (λ k d below. h (suc k) d (omega arith)))

module _ (text : List ℕ) (rs : List Kept) where
  -- The list round the tokens, so many lists further out, ends with a parenthesis: the trees up to it stand before it, and the
  -- others behind it, as do the ends of the lists further out.
  record Closes (ts : List Token) (n from lists k : ℕ) : Type 0 where
    pub at : ℕ
    pub end : close_of ts k n ≡ at + 1
    pub low : from ≤ at
    pub there : at + 1 ≤ length text
    pub byte : get_or text at 0 ≡ 41
    pub before : (j : ℕ) → n ≤ j → j < end_of ts k n → (kept_at rs j).end ≤ at
    pub behind : (j : ℕ) → end_of ts k n ≤ j → j < length rs → at + 1 ≤ (kept_at rs j).start
    pub outer : (l : ℕ) → k < l → l < lists → close_of ts k n < close_of ts l n

  -- The trees of the tokens stand behind a place, so many lists being open there.
  record Stand (ts : List Token) (n from lists : ℕ) : Type 0 where
    pub starts : (j : ℕ) → n ≤ j → j < length rs → from ≤ (kept_at rs j).start
    pub closes : (k : ℕ) → k < lists → Closes ts n from lists k
    pub trees : (j : ℕ) → n ≤ j → j < length rs → IsTreeOf text rs j

  wide_of : (t : Token) (from : ℕ) → IsSpan t from (length text) → t.start ≤ t.end
  wide_of t from span = let w = span.wide in omega arith

  stand-none : (n from : ℕ) → Stands text rs [] n → Stand [] n from 0
  stand-none n from s =
      let all = all_left text rs n s in
      record { starts = λ j low high. absurd (omega arith); closes = λ k low. absurd (omega arith); trees = λ j low high. absurd (omega arith) }

  -- a token that is a tree by itself
  stand-leaf : (t : Token) (ts : List Token) (n from lists : ℕ) (r : Kept) → records text (t ∷ ts) n ≡ r ∷ records text ts (n + 1) → r.start ≡ t.start → r.end ≡ t.end → r.after ≡ n + 1
      → HasTreeBytes r.body text r.start r.end
      → ((k : ℕ) → close_of (t ∷ ts) k n ≡ close_of ts k (n + 1)) → ((k : ℕ) → end_of (t ∷ ts) k n ≡ end_of ts k (n + 1))
      → IsSpan t from (length text) → t.start ≤ t.end → Stands text rs (t ∷ ts) n → Stand ts (n + 1) t.end lists → Stand (t ∷ ts) n from lists
  stand-leaf t ts n from lists r e starts finish after bytes c m span order s ih =
      let is : kept_at rs n ≡ r = next_is text rs (t ∷ ts) n r (records text ts (n + 1)) s e in
      let begins = span.begins in
      let fits = span.within in
      let start_n : (kept_at rs n).start ≡ t.start = ap (λ x. x.start) is ∙ starts in
      let end_n : (kept_at rs n).end ≡ t.end = ap (λ x. x.end) is ∙ finish in
      let after_n : after_of rs n ≡ n + 1 = ap (λ x. x.after) is ∙ after in
      record {
        starts = λ j low high. elim (cases_lt n j) [
          | inl later ↦ (let h = ih.starts j (omega arith) high in omega arith)
          | inr first ↦ (let same : j ≡ n = omega arith in rw (same, start_n) begins)
        ];
        closes = λ k low. (let inner = ih.closes k low in record {
          at = inner.at;
          end = c k ∙ inner.end;
          low = (let h = inner.low in omega arith);
          there = inner.there;
          byte = inner.byte;
          before = λ j low_j high. elim (cases_lt n j) [
            | inl later ↦ inner.before j (omega arith) (rw (m k) at high)
            | inr first ↦ (let same : j ≡ n = omega arith in rw (same, end_n) inner.low)
          ];
          behind = λ j low_j high. inner.behind j (rw (m k) at low_j) high;
          outer = λ l above below. rw (c k, c l) (inner.outer l above below);
        });
        trees = λ j low high. elim (cases_lt n j) [
          | inl later ↦ ih.trees j (omega arith) high
          | inr first ↦ (let same : j ≡ n = omega arith in subst (λ (x : ℕ). IsTreeOf text rs x) (sym same) (record {
            bytes = rw is bytes;
            there = rw end_n fits;
            within = λ i a b. absurd (omega (arith, after_n));
            past = λ i a b. rw end_n (ih.starts i (omega (arith, after_n)) b);
          }))
        ];
      }

  stand-open : (t : Token) (ts : List Token) (n from lists : ℕ) → t.kind ≡ kinds.Open → HasBytes kinds.Open text t.start t.end
      → IsSpan t from (length text) → Stands text rs (t ∷ ts) n → Stand ts (n + 1) t.end (suc lists) → Stand (t ∷ ts) n from lists
  stand-open t ts n from lists open_ bytes span s ih =
      let r : Kept = list_of t.start (closing ts 0 (n + 1)) in
      let is : kept_at rs n ≡ r = next_is text rs (t ∷ ts) n r (records text ts (n + 1)) s (records-open text t ts n open_) in
      let begins = span.begins in
      let one = bytes.one in
      let first_close = ih.closes 0 (omega arith) in
      let start_n : (kept_at rs n).start ≡ t.start = ap (λ x. x.start) is in
      let end_n : (kept_at rs n).end ≡ first_close.at + 1 = ap (λ x. x.end) is ∙ first_close.end in
      let after_n : after_of rs n ≡ end_of ts 0 (n + 1) = ap (λ x. x.after) is in
      record {
        starts = λ j low high. elim (cases_lt n j) [
          | inl later ↦ (let h = ih.starts j (omega arith) high in omega arith)
          | inr first ↦ (let same : j ≡ n = omega arith in rw (same, start_n) begins)
        ];
        closes = λ k low. (let inner = ih.closes (suc k) (omega arith) in record {
          at = inner.at;
          end = close-open t ts k n open_ ∙ inner.end;
          low = (let h = inner.low in omega arith);
          there = inner.there;
          byte = inner.byte;
          before = λ j low_j high. elim (cases_lt n j) [
            | inl later ↦ inner.before j (omega arith) (rw (closing-open t ts k n open_) at high)
            | inr first ↦
                let same : j ≡ n = omega arith in
                let further : close_of ts 0 (n + 1) < close_of ts (suc k) (n + 1) = first_close.outer (suc k) (omega arith) (omega arith) in
                let below : (kept_at rs n).end ≤ inner.at = omega (arith, end_n, further, first_close.end, inner.end) in
                rw same below
          ];
          behind = λ j low_j high. inner.behind j (rw (closing-open t ts k n open_) at low_j) high;
          outer = λ l above below. rw (close-open t ts k n open_, close-open t ts l n open_) (inner.outer (suc l) (omega arith) (omega arith));
        });
        trees = λ j low high. elim (cases_lt n j) [
          | inl later ↦ ih.trees j (omega arith) high
          | inr first ↦ (let same : j ≡ n = omega arith in subst (λ (x : ℕ). IsTreeOf text rs x) (sym same) (record {
            bytes = rw is (record { opens = bytes.byte; closing = first_close.at; last = first_close.end; order = (let h = first_close.low in omega arith); closes = first_close.byte });
            there = rw end_n first_close.there;
            within = λ i a b. (
              (let h = ih.starts i (omega arith) (within_all i b) in omega (arith, start_n)),
              (let h = first_close.before i (omega arith) (rw after_n at b) in omega (arith, end_n)),
            );
            past = λ i a b. rw end_n (first_close.behind i (rw after_n at a) b);
          }))
        ];
      }
    where
      within_all : (i : ℕ) → i < after_of rs n → i < length rs
      within_all i b =
          let next = next_stands text rs (t ∷ ts) ts n (list_of t.start (closing ts 0 (n + 1))) s (records-open text t ts n open_) in
          let all = (ends_well text rs ts (n + 1) next).within 0 in
          let is : kept_at rs n ≡ list_of t.start (closing ts 0 (n + 1)) = next_is text rs (t ∷ ts) n (list_of t.start (closing ts 0 (n + 1))) (records text ts (n + 1)) s (records-open text t ts n open_) in
          let after_n : after_of rs n ≡ end_of ts 0 (n + 1) = ap (λ x. x.after) is in
          omega (arith, after_n)

  stand-close : (t : Token) (ts : List Token) (n from lists : ℕ) → t.kind ≡ kinds.Close → HasBytes kinds.Close text t.start t.end
      → IsSpan t from (length text) → Stand ts n t.end lists → Stand (t ∷ ts) n from (suc lists)
  stand-close t ts n from lists close bytes span ih =
      let begins = span.begins in
      let fits = span.within in
      let one = bytes.one in
      record {
        starts = λ j low high. (let h = ih.starts j low high in omega arith);
        closes = λ k low. by k low;
        trees = ih.trees;
      }
    where
      by : (k : ℕ) → k < suc lists → Closes (t ∷ ts) n from (suc lists) k
      by zero low = record {
        at = t.start;
        end = close-close t ts n close ∙ bytes.one;
        low = span.begins;
        there = (let fits = span.within in let one = bytes.one in omega arith);
        byte = bytes.byte;
        before = λ j a b. (let none : j < n = rw (closing-close t ts n close) at b in absurd (omega arith));
        behind = λ j a b. (let later : n ≤ j = rw (closing-close t ts n close) at a in let h = ih.starts j later b in let one = bytes.one in omega arith);
        outer = λ l above below. further l above below;
      }
        where
          further : (l : ℕ) → zero < l → l < suc lists → close_of (t ∷ ts) zero n < close_of (t ∷ ts) l n
          further zero above below = absurd (omega arith)
          further (suc l) above below =
              let inner = ih.closes l (omega arith) in
              let low = inner.low in
              rw (close-close t ts n close, close-outer t ts l n close) (omega (arith, inner.end))
      by (suc k) low =
          let inner = ih.closes k (omega arith) in
          let begins = span.begins in
          let one = bytes.one in
          record {
            at = inner.at;
            end = close-outer t ts k n close ∙ inner.end;
            low = (let h = inner.low in omega arith);
            there = inner.there;
            byte = inner.byte;
            before = λ j a b. inner.before j a (rw (closing-outer t ts k n close) at b);
            behind = λ j a b. inner.behind j (rw (closing-outer t ts k n close) at a) b;
            outer = λ l above below. further inner l above below;
          }
        where
          further : Closes ts n t.end lists k → (l : ℕ) → suc k < l → l < suc lists → close_of (t ∷ ts) (suc k) n < close_of (t ∷ ts) l n
          further inner zero above below = absurd (omega arith)
          further inner (suc l) above below = rw (close-outer t ts k n close, close-outer t ts l n close) (inner.outer l (omega arith) (omega arith))

  stand_by : (kind : TokenKind) (t : Token) (ts : List Token) (n from lists : ℕ) → t.kind ≡ kind → orderly_by kind lists (Balanced ts) → HasBytes kind text t.start t.end
      → IsSpan t from (length text) → Stands text rs (t ∷ ts) n → ((m i : ℕ) → Stands text rs ts m → Balanced ts i → Stand ts m t.end i) → Stand (t ∷ ts) n from lists
  stand_by kinds.Open t ts n from lists is even bytes span s ih =
      stand-open t ts n from lists is bytes span s (ih (n + 1) (suc lists) (next_stands text rs (t ∷ ts) ts n (list_of t.start (closing ts 0 (n + 1))) s (records-open text t ts n is)) even)
  stand_by kinds.Close t ts n from zero is even bytes span s ih = absurd even
  stand_by kinds.Close t ts n from (suc lists) is even bytes span s ih = stand-close t ts n from lists is bytes span (ih n lists (closed_stands text rs t ts n is s) even)
  stand_by kinds.Atom t ts n from lists is even bytes span s ih =
      let r : Kept = leaf (AtomBody (atom_text text t)) t n in
      stand-leaf t ts n from lists r (records-atom text t ts n is) refl refl refl (bytes, refl) (λ k. close-atom t ts k n is) (λ k. closing-atom t ts k n is) span (wide_of t from span) s
      (ih (n + 1) lists (next_stands text rs (t ∷ ts) ts n r s (records-atom text t ts n is)) even)
  stand_by kinds.Quoted t ts n from lists is even bytes span s ih =
      let r : Kept = leaf (QuotedBody (quoted_text text t)) t n in
      stand-leaf t ts n from lists r (records-quoted text t ts n is) refl refl refl (bytes, refl) (λ k. close-quoted t ts k n is) (λ k. closing-quoted t ts k n is) span (wide_of t from span) s
      (ih (n + 1) lists (next_stands text rs (t ∷ ts) ts n r s (records-quoted text t ts n is)) even)

  stand_all : (ts : List Token) (n from lists : ℕ) → AreSpans ts from (length text) → AreAll text ts → Balanced ts lists → Stands text rs ts n → Stand ts n from lists
  stand_all [] n from lists spans all even s = rw even (stand-none n from s)
  stand_all (t ∷ ts) n from lists spans all even s =
      stand_by t.kind t ts n from lists refl even all.0 spans.0 s (λ m i stands inner. stand_all ts m t.end i spans.1 all.1 inner stands)

trees_of : (text : List ℕ) (rs : List Kept) (read : Result (List Token) SexpFault) → tokens_or_fault (answers_to text) ≡ read
    → mapped (λ tokens. records text tokens 0) read ≡ Ok rs → AreTreesOf text rs
trees_of text rs (Err fault) is e = cc
trees_of text rs (Ok ts) is e =
    let whole : answers_to text ≡ prepend ts (last ends) = ends_with (answers_to text) ts (text-ends text) is in
    let s : Stands text rs ts 0 = record { fits = omega arith; rest = sym (same_value (records text ts 0) rs e) } in
    let even : Balanced ts 0 = balanced ts 0 0 (length text) (rw whole at (text-orderly text)) in
    let stand = stand_all text rs ts 0 0 0 (text-spans text ts (last ends) whole) (are_all text ts (λ k d below. text_tokens text ts (last ends) whole k d below)) even s in
    λ i below. stand.trees i (omega arith) below

-- the records of a text are its trees, each with its bytes
pub records_are_of : (text : List ℕ) (rs : List Kept) → records_of text ≡ Ok rs → AreTreesOf text rs
unfolding records_of
records_are_of text rs e = trees_of text rs (tokens_or_fault (answers_to text)) refl e
