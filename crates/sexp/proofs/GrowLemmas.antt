-- The records that a reader's tokens make.
use Rattle.std.proofs.Common.{◌≡◌, ℕ, suc, ◌+◌, ◌<◌, ◌≤◌, List, [], ◌∷◌, ◌++◌, length, take, drop, true, None, refl, sym, ap, ◌∙◌, arith, Result, Ok, Err}
use Rattle.std.proofs.lemmas.List.{append-nil, take-append-drop, length-take-le, length-drop, drop-drop}
use Rattle.sexp.specs.Text.{ends, faulty, CanFollow}
use Rattle.sexp.specs.Nesting.{Answers, last, token}
use Rattle.sexp.specs.Lexing.{words_of}
use Rattle.sexp.specs.Reading.{Reading, answers, answers_from, start_of, fed, finished, is_whole, count_fed, KeepsFed}
use Rattle.sexp.specs.Tokens.{answers_to}
use Rattle.sexp.specs.Forest.{Kept}
use Rattle.sexp.specs.Records.{records, grown, patched, AllBelow, opens_after}
use Rattle.sexp.specs.Spans.{least, IsSpan, IsOrderly}
use Rattle.sexp.specs.Growing.{IsGrowing, GrowsFrom}
use Rattle.sexp.specs.TextTrees.{mapped, tokens_or_fault, records_of}
use Rattle.sexp.specs.declared.token.Token.{Token}
use Rattle.sexp.specs.declared.token.TokenKind.{TokenKind}
use Rattle.sexp.specs.declared.token.TokenKind.TheVariants as kinds
use Rattle.sexp.specs.declared.token.SexpFault.{SexpFault}
use Rattle.sexp.proofs.TokensLemmas.{fed-short, words_of-fed, count-fed}
use Rattle.sexp.proofs.TextLemmas.{all_read}
use Rattle.sexp.proofs.SpanLemmas.{text-orderly, orderly-from, orderly_after, closes_one}

same_by : (text : List ℕ) (read : Result (List Token) SexpFault) → mapped (grown text [] []) read ≡ mapped (λ ts. records text ts 0) read
unfolding patched
same_by text (Ok ts) = refl
same_by text (Err fault) = refl

pub grows_first : (text : List ℕ) (a : Answers) → a ≡ answers_to text → IsGrowing text [] [] a
unfolding records_of
grows_first text a e = rw e (record {
  reads = same_by text (tokens_or_fault (answers_to text));
  orderly = text-orderly text;
  below = tt;
  fits = omega arith;
})

-- what the next token is between, where there is one
pub next_span : (text : List ℕ) (rs : List Kept) (lists : List ℕ) (a rest : Answers) (t : Token) → IsGrowing text rs lists a → a ≡ token t rest → IsSpan t (length rs) (length text)
next_span text rs lists a rest t g e = (rw e at g.orderly).0

pub next_closes : (text : List ℕ) (rs : List Kept) (lists : List ℕ) (a rest : Answers) (t : Token) → IsGrowing text rs lists a → a ≡ token t rest
    → t.kind ≡ kinds.Close → 0 < length lists
next_closes text rs lists a rest t g e close =
    closes_one t.kind (length lists) (λ inner. IsOrderly rest inner t.end (length text)) (rw e at g.orderly).1 close

step_by : (text : List ℕ) (f g : List Token → List Kept) (t : Token) (read : Result (List Token) SexpFault) → ((ts : List Token) → f (t ∷ ts) ≡ g ts)
    → mapped f (mapped (λ ts. t ∷ ts) read) ≡ mapped g read
step_by text f g t (Ok ts) same = ap Ok (same ts)
step_by text f g t (Err fault) same = refl

least_by : (kind : TokenKind) → 1 ≤ least kind
least_by kinds.Open = omega arith
least_by kinds.Close = omega arith
least_by kinds.Atom = omega arith
least_by kinds.Quoted = omega arith

least_one : (t : Token) → 1 ≤ least t.kind
least_one t = least_by t.kind

later : (t : Token) (n after to : ℕ) → IsSpan t n to → after ≤ n + 1 → after ≤ t.end
later t n after to span room =
    let low = span.begins in
    let wide = span.wide in
    omega (arith, least_one t)

-- one token more
pub grows : (text : List ℕ) (rs after : List Kept) (lists lists_after : List ℕ) (a rest : Answers) (t : Token) → IsGrowing text rs lists a → a ≡ token t rest
    → ((ts : List Token) → grown text rs lists (t ∷ ts) ≡ grown text after lists_after ts) → AllBelow lists_after (length after)
    → length lists_after ≡ opens_after t.kind (length lists) → length after ≤ length rs + 1 → IsGrowing text after lists_after rest
grows text rs after lists lists_after a rest t g e same below counted room =
    let span = next_span text rs lists a rest t g e in
    let behind = orderly_after t.kind (length lists) (λ inner. IsOrderly rest inner t.end (length text)) (rw e at g.orderly).1 in
    record {
      reads = sym (step_by text (grown text rs lists) (grown text after lists_after) t (tokens_or_fault rest) same) ∙ (rw e at g.reads);
      orderly = orderly-from rest (length lists_after) t.end (length after) (length text) (later t (length rs) (length after) (length text) span room) (rw counted behind);
      below = below;
      fits = (let before = later t (length rs) (length after) (length text) span room in let end = span.within in omega arith);
    }

-- no list is left
pub grown_all : (text : List ℕ) (rs : List Kept) (lists : List ℕ) (a : Answers) → IsGrowing text rs lists a → a ≡ last ends → records_of text ≡ Ok rs
unfolding patched records
grown_all text rs [] a g e = sym (rw e at g.reads) ∙ ap Ok (append-nil rs)
grown_all text rs (i ∷ lists) a g e = let none : suc (length lists) ≡ 0 = rw e at g.orderly in absurd (omega arith)

pub grown_fault : (text : List ℕ) (rs : List Kept) (lists : List ℕ) (a : Answers) (fault : SexpFault) → IsGrowing text rs lists a → a ≡ last (faulty fault)
    → records_of text ≡ Err fault
grown_fault text rs lists a fault g e = sym (rw e at g.reads)

-- a reader before the first byte
pub grows_at_start : (most : ℕ) (text : List ℕ) → GrowsFrom text (start_of most) [] []
unfolding words_of
grows_at_start most text = record { none = refl; short = refl; growing = grows_first text (answers_to text) refl }

-- the piece that comes next in a text, and the rest
piece_then : (text : List ℕ) (n m : ℕ) → take m (drop n text) ++ drop (n + m) text ≡ drop n text
piece_then text n m = rw (← drop-drop m n text) (take-append-drop m (drop n text))

-- a reader that is fed the next piece of the text
pub record FedOn (text : List ℕ) (r after : Reading) (rs : List Kept) (lists : List ℕ) (end : ℕ) : Type 0 where
  pub grows : GrowsFrom text after rs lists
  pub counted : count_fed after ≡ end
  pub whole : is_whole after ≡ is_whole r
  pub limit : after.most ≡ r.most

pub grows_fed : (text : List ℕ) (r after : Reading) (rs : List Kept) (lists : List ℕ) (n m : ℕ) → GrowsFrom text r rs lists
    → after ≡ fed r (take m (drop n text)) → count_fed r ≡ n → n + m ≤ length text → n + m ≤ r.most → FedOn text r after rs lists (n + m)
grows_fed text r after rs lists n m g e counted within fits =
    let piece = take m (drop n text) in
    let size : length piece ≡ m = length-take-le m (drop n text) (omega (arith, length-drop n text)) in
    let room : count_fed r + length piece ≤ r.most = omega arith in
    let a : after ≡ record r { lexing = record r.lexing { left = r.lexing.left ++ piece } } = e ∙ fed-short r piece g.short room g.none in
    let count : count_fed after ≡ n + m = ap count_fed a ∙ (count-fed r.lexing piece ∙ omega arith) in
    let same : answers after true (drop (n + m) text) ≡ answers r true (drop n text)
    = ap (λ x. answers x true (drop (n + m) text)) a
    ∙ (ap (λ w. answers_from r.pending w r.lists) (words_of-fed r.lexing piece true (drop (n + m) text))
    ∙ ap (answers r true) (piece_then text n m)) in
    record {
      grows = record {
        none = ap (λ x. x.fault) a ∙ g.none;
        short = ap (λ x. x.long) a ∙ g.short;
        growing = rw (count, same, ← counted) g.growing;
      };
      counted = count;
      whole = ap is_whole a;
      limit = ap (λ x. x.most) a;
    }

-- a reader that goes on with no byte more
pub grows_on : (text : List ℕ) (r after : Reading) (rs : List Kept) (lists : List ℕ) → GrowsFrom text r rs lists → after.fault ≡ None → after.long ≡ r.long
    → count_fed after ≡ count_fed r → answers r true (drop (count_fed r) text) ≡ answers after true (drop (count_fed r) text) → GrowsFrom text after rs lists
grows_on text r after rs lists g none long count same =
    record { none = none; short = long ∙ g.short; growing = rw (count, ← same) g.growing }

-- what follows a front part of a text that is then whole
pub rest_follows : (text : List ℕ) (r : Reading) → (is_whole r ≡ true → count_fed r ≡ length text) → CanFollow (is_whole r) true (drop (count_fed r) text)
rest_follows text r all = λ whole. (refl, all_read text (count_fed r) (all whole))

pub keeps_on : (old between new : Reading) → KeepsFed old between → KeepsFed between new → KeepsFed old new
keeps_on old between new first then =
    record { count = then.count ∙ first.count; whole = then.whole ∙ first.whole; most = then.most ∙ first.most; long = then.long ∙ first.long }

-- a reader that is told that no more bytes come
pub grows_finished : (text : List ℕ) (r : Reading) (rs : List Kept) (lists : List ℕ) → GrowsFrom text r rs lists → GrowsFrom text (finished r) rs lists
unfolding words_of
grows_finished text r rs lists g = record { none = g.none; short = g.short; growing = g.growing }
