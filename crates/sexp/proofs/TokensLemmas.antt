-- What a reader that is fed in pieces still answers.
use Rattle.std.proofs.Common.{◌≡◌, ℕ, flat_map, take, get_or, ◌+◌, List, [], ◌∷◌, ◌++◌, refl, ap, sym, ◌∙◌, Bool, true, false, length, ◌≤◌, ◌<◌, ◌≢◌, ◌⊎◌, inl, inr, ◌||◌, append_assoc, length-append, arith, Option, Some, None, Result, Ok, Err, IfSome}
use Rattle.std.proofs.lemmas.Bool.{lt-ltb, le-ltb, cases_lt}
use Rattle.std.proofs.lemmas.List.{take_more, append-nil}
use Rattle.std.proofs.lemmas.Option.{same_Some, none-some}
use Rattle.std.proofs.lemmas.Grind.{flat_map-append}
use Rattle.std.specs.Result.{result_err}
use Rattle.sexp.specs.declared.lexis.Mode.TheVariants.{Between}
use Rattle.sexp.specs.Nesting.{Answers, last, token, answers_of}
use Rattle.sexp.specs.Text.{ends, faulty, CanFollow, words_from}
use Rattle.sexp.specs.Lexing.{Lexing, fed_of, words_of}
use Rattle.sexp.specs.Reading.{Reading, answers, answers_from, fed, start_of, finished, is_whole, count_fed, fault_of, following, KeepsFed, GoesOn, StopsAt}
use Rattle.sexp.specs.Tokens.{prepend, answers_to, IsDrained, IsFaultOf}
use Rattle.sexp.specs.declared.token.SexpFault.{SexpFault}
use Rattle.sexp.specs.declared.token.SexpFault.TheVariants as faults
use Rattle.sexp.specs.declared.token.Next.{Next}
use Rattle.sexp.specs.declared.token.Next.TheVariants as nexts
use Rattle.sexp.specs.declared.token.Token.{Token}

pub prepend-push : (ts : List Token) (t : Token) (a : Answers) → prepend (ts ++ t ∷ []) a ≡ prepend ts (token t a)
prepend-push [] t a = refl
prepend-push (s ∷ ts) t a = ap (token s) (prepend-push ts t a)

-- a reader that answers no fault had answered none, and isn't too long
pub unfaulted : (fault : Option SexpFault) (long : Bool) (most : ℕ) (answer : Result Next SexpFault) (next : Next) (X : Type 0) → answer ≡ Ok next
    → IfSome fault (λ f. (answer ≡ Err f) × X) → (fault ≡ None → long ≡ true → answer ≡ Err (faults.TooLong most)) → (fault ≡ None) × (long ≡ false)
unfaulted (Some f) long most answer next X is again too_long = let no : ◌≡◌ {A = Result Next SexpFault} (Ok next) (Err f) = sym is ∙ again.0 in cc
unfaulted None true most answer next X is again too_long = let no : ◌≡◌ {A = Result Next SexpFault} (Ok next) (Err (faults.TooLong most)) = sym is ∙ too_long refl refl in cc
unfaulted None false most answer next X is again too_long = (refl, refl)

-- the fault that stays is the one that was answered
pub kept_is : (fault f : SexpFault) → fault_of (Err fault) ≡ Some f → (fault ≡ f) × (fault ≢ faults.Memory)
kept_is (faults.BadByte at) f e = (same_Some _ f e, λ no. cc)
kept_is (faults.Unclosed at) f e = (same_Some _ f e, λ no. cc)
kept_is (faults.Unopened at) f e = (same_Some _ f e, λ no. cc)
kept_is (faults.TooDeep at) f e = (same_Some _ f e, λ no. cc)
kept_is (faults.TooLong at) f e = (same_Some _ f e, λ no. cc)
kept_is faults.Memory f e = absurd (none-some f e)

-- what holds of a reader that was fed a text, where these tokens were taken
pub record IsFed (r : Reading) (out : List Token) (most : ℕ) (text : List ℕ) : Type 0 where
  pub whole : is_whole r ≡ false
  pub limit : r.most ≡ most
  pub long : r.long ≡ true → most < length text
  pub counted : r.long ≡ false → (count_fed r ≡ length text) × (length text ≤ most)
  pub goes : r.long ≡ false → r.fault ≡ None → (whole_then : Bool) (tail : List ℕ)
      → prepend out (answers r whole_then tail) ≡ answers_of (words_from whole_then (text ++ tail) Between 0) []
  pub stops : r.long ≡ false → (f : SexpFault) → r.fault ≡ Some f → (whole_then : Bool) (tail : List ℕ)
      → prepend out (last (faulty f)) ≡ answers_of (words_from whole_then (text ++ tail) Between 0) []

pub starts : (most : ℕ) → IsFed (start_of most) [] most []
unfolding words_of
starts most = record {
  whole = refl;
  limit = refl;
  long = λ h. cc;
  counted = λ h. (refl, omega arith);
  goes = λ h none whole_then tail. refl;
  stops = λ h f e. absurd (none-some f e);
}

or_true : (b : Bool) → (b || true) ≡ true
or_true true = refl
or_true false = refl

-- more than fits
fed-long : (r : Reading) (piece : List ℕ) → (r.long ≡ true) ⊎ (r.most < count_fed r + length piece) → fed r piece ≡ record r { long = true }
fed-long r piece (inl long) = rw long refl
fed-long r piece (inr more) = rw (lt-ltb r.most (count_fed r + length piece) more, or_true r.long) refl

-- a reader that takes the bytes
pub fed-short : (r : Reading) (piece : List ℕ) → r.long ≡ false → count_fed r + length piece ≤ r.most → r.fault ≡ None
    → fed r piece ≡ record r { lexing = record r.lexing { left = r.lexing.left ++ piece } }
fed-short r piece short fits none = rw (short, le-ltb r.most (count_fed r + length piece) fits, none) refl

-- a reader that only counts them
fed-counted : (r : Reading) (piece : List ℕ) (f : SexpFault) → r.long ≡ false → count_fed r + length piece ≤ r.most → r.fault ≡ Some f
    → fed r piece ≡ record r { lexing = record r.lexing { at = r.lexing.at + length piece } }
fed-counted r piece f short fits some = rw (short, le-ltb r.most (count_fed r + length piece) fits, some) refl

pub words_of-fed : (l : Lexing) (piece : List ℕ) (whole_then : Bool) (tail : List ℕ)
    → words_of (record l { left = l.left ++ piece }) whole_then tail ≡ words_of l whole_then (piece ++ tail)
unfolding words_of
words_of-fed l piece whole_then tail = rw append_assoc refl

pub count-fed : (l : Lexing) (piece : List ℕ) → fed_of (record l { left = l.left ++ piece }) ≡ fed_of l + length piece
count-fed l piece = omega (arith, length-append l.left piece)

count-counted : (l : Lexing) (piece : List ℕ) → fed_of (record l { at = l.at + length piece }) ≡ fed_of l + length piece
count-counted l piece = omega arith

-- the text so far, and a piece
text_then : (text piece tail : List ℕ) (whole_then : Bool)
    → answers_of (words_from whole_then (text ++ (piece ++ tail)) Between 0) [] ≡ answers_of (words_from whole_then ((text ++ piece) ++ tail) Between 0) []
text_then text piece tail whole_then = rw append_assoc refl

feeds-long : (r after then : Reading) (out out_then : List Token) (most : ℕ) (text piece : List ℕ)
    → IsFed r out most text → after ≡ fed r piece → IsDrained after then out out_then
    → (r.long ≡ true) ⊎ (r.most < count_fed r + length piece) → most < length (text ++ piece) → IsFed then out_then most (text ++ piece)
feeds-long r after then out out_then most text piece f e d why more =
    let a : after ≡ record r { long = true } = e ∙ fed-long r piece why in
    let long : then.long ≡ true = d.keeps.long ∙ ap (λ x. x.long) a in
    record {
      whole = d.keeps.whole ∙ (ap is_whole a ∙ f.whole);
      limit = d.keeps.most ∙ (ap (λ x. x.most) a ∙ f.limit);
      long = λ h. more;
      counted = λ h. let no : true ≡ false = sym long ∙ h in cc;
      goes = λ h. let no : true ≡ false = sym long ∙ h in cc;
      stops = λ h. let no : true ≡ false = sym long ∙ h in cc;
    }

counted_on : (r after then : Reading) (out : List Token) (most : ℕ) (text piece : List ℕ) → IsFed r out most text → KeepsFed after then
    → r.long ≡ false → count_fed r + length piece ≤ r.most → count_fed after ≡ count_fed r + length piece
    → (count_fed then ≡ length (text ++ piece)) × (length (text ++ piece) ≤ most)
counted_on r after then out most text piece f k short fits counted =
    let c = (f.counted short).0 in
    let l = f.limit in
    (k.count ∙ (counted ∙ (ap (λ n. n + length piece) c ∙ sym (length-append text piece))), omega (arith, length-append text piece))

-- anything follows a text that isn't whole
open_follows : (r : Reading) (whole_then : Bool) (tail : List ℕ) → is_whole r ≡ false → CanFollow (is_whole r) whole_then tail
open_follows r whole_then tail not_whole = λ is. let no : true ≡ false = sym is ∙ not_whole in cc

feeds-short : (r after then : Reading) (out out_then : List Token) (most : ℕ) (text piece : List ℕ)
    → IsFed r out most text → after ≡ fed r piece → IsDrained after then out out_then
    → r.long ≡ false → count_fed r + length piece ≤ r.most → r.fault ≡ None → IsFed then out_then most (text ++ piece)
feeds-short r after then out out_then most text piece f e d short fits none =
    let a : after ≡ record r { lexing = record r.lexing { left = r.lexing.left ++ piece } } = e ∙ fed-short r piece short fits none in
    let not_long : after.long ≡ false = ap (λ x. x.long) a ∙ short in
    let no_fault : after.fault ≡ None = ap (λ x. x.fault) a ∙ none in
    let open_text : is_whole after ≡ false = ap is_whole a ∙ f.whole in
    let so_far : (whole_then : Bool) (tail : List ℕ) → prepend out (answers after whole_then tail) ≡ answers_of (words_from whole_then ((text ++ piece) ++ tail) Between 0) []
    = λ whole_then tail.
    ap (λ x. prepend out (answers x whole_then tail)) a
    ∙ (ap (λ w. prepend out (answers_from r.pending w r.lists)) (words_of-fed r.lexing piece whole_then tail)
    ∙ (f.goes short none whole_then (piece ++ tail) ∙ text_then text piece tail whole_then)) in
    record {
      whole = d.keeps.whole ∙ open_text;
      limit = d.keeps.most ∙ (ap (λ x. x.most) a ∙ f.limit);
      long = λ h. let no : true ≡ false = sym h ∙ (d.keeps.long ∙ not_long) in cc;
      counted = λ h. counted_on r after then out most text piece f d.keeps short fits (ap count_fed a ∙ count-fed r.lexing piece);
      goes = λ h still whole_then tail. sym (d.goes no_fault not_long still whole_then tail (open_follows after whole_then tail open_text)) ∙ so_far whole_then tail;
      stops = λ h fault kept whole_then tail. sym (d.stops no_fault not_long fault kept whole_then tail (open_follows after whole_then tail open_text)) ∙ so_far whole_then tail;
    }

-- behind a fault
feeds-counted : (r after then : Reading) (out out_then : List Token) (most : ℕ) (text piece : List ℕ) (g : SexpFault)
    → IsFed r out most text → after ≡ fed r piece → IsDrained after then out out_then
    → r.long ≡ false → count_fed r + length piece ≤ r.most → r.fault ≡ Some g → IsFed then out_then most (text ++ piece)
feeds-counted r after then out out_then most text piece g f e d short fits some =
    let a : after ≡ record r { lexing = record r.lexing { at = r.lexing.at + length piece } } = e ∙ fed-counted r piece g short fits some in
    let not_long : after.long ≡ false = ap (λ x. x.long) a ∙ short in
    let still = d.still g (ap (λ x. x.fault) a ∙ some) in
    record {
      whole = d.keeps.whole ∙ (ap is_whole a ∙ f.whole);
      limit = d.keeps.most ∙ (ap (λ x. x.most) a ∙ f.limit);
      long = λ h. let no : true ≡ false = sym h ∙ (d.keeps.long ∙ not_long) in cc;
      counted = λ h. counted_on r after then out most text piece f d.keeps short fits (ap count_fed a ∙ count-counted r.lexing piece);
      goes = λ h none. absurd (none-some g (sym none ∙ still.0));
      stops = λ h fault kept whole_then tail.
          let same : g ≡ fault = same_Some g fault (sym still.0 ∙ kept) in
          rw (← same, still.1) (f.stops short g some whole_then (piece ++ tail) ∙ text_then text piece tail whole_then);
    }

long_or_not : (b : Bool) → (b ≡ true) ⊎ (b ≡ false)
long_or_not true = inl refl
long_or_not false = inr refl

pub fault_or_none : (fault : Option SexpFault) → (fault ≡ None) ⊎ ((f : SexpFault) × (fault ≡ Some f))
fault_or_none None = inl refl
fault_or_none (Some f) = inr (f, refl)

feeds-by : (r after then : Reading) (out out_then : List Token) (most : ℕ) (text piece : List ℕ)
    → IsFed r out most text → after ≡ fed r piece → IsDrained after then out out_then
    → (r.long ≡ true) ⊎ (r.long ≡ false) → (r.most < count_fed r + length piece) ⊎ (count_fed r + length piece ≤ r.most)
    → (r.fault ≡ None) ⊎ ((f : SexpFault) × (r.fault ≡ Some f)) → IsFed then out_then most (text ++ piece)
feeds-by r after then out out_then most text piece f e d (inl long) size fault =
    feeds-long r after then out out_then most text piece f e d (inl long) (let more = f.long long in omega (arith, length-append text piece))
feeds-by r after then out out_then most text piece f e d (inr short) (inl more) fault =
    feeds-long r after then out out_then most text piece f e d (inr more) (let counted = (f.counted short).0 in let limit = f.limit in omega (arith, length-append text piece))
feeds-by r after then out out_then most text piece f e d (inr short) (inr fits) (inl none) = feeds-short r after then out out_then most text piece f e d short fits none
feeds-by r after then out out_then most text piece f e d (inr short) (inr fits) (inr (g, some)) = feeds-counted r after then out out_then most text piece g f e d short fits some

-- a piece more, and the tokens that are there then
pub feeds : (r after then : Reading) (out out_then : List Token) (most : ℕ) (text piece : List ℕ)
    → IsFed r out most text → after ≡ fed r piece → IsDrained after then out out_then → IsFed then out_then most (text ++ piece)
feeds r after then out out_then most text piece f e d =
    feeds-by r after then out out_then most text piece f e d (long_or_not r.long) (cases_lt r.most (count_fed r + length piece)) (fault_or_none r.fault)

pub text_more : {X : Type 0} (F : X → List ℕ) (xs : List X) (i : ℕ) (x : X) → i < length xs → x ≡ get_or xs i x
    → flat_map F (take (i + 1) xs) ≡ flat_map F (take i xs) ++ F x
text_more F xs i x below e = rw (take_more xs i x below, ← e, flat_map-append, append-nil) refl

is_short : (r : Reading) (out : List Token) (most : ℕ) (text : List ℕ) → IsFed r out most text → length text ≤ most
    → (r.long ≡ true) ⊎ (r.long ≡ false) → r.long ≡ false
is_short r out most text f fits (inl long) = let more = f.long long in absurd (omega arith)
is_short r out most text f fits (inr short) = short

pub fits_short : (r : Reading) (out : List Token) (most : ℕ) (text : List ℕ) → IsFed r out most text → length text ≤ most → r.long ≡ false
fits_short r out most text f fits = is_short r out most text f fits (long_or_not r.long)

finished_alike : (r : Reading) → answers (finished r) true [] ≡ answers r true []
unfolding words_of
finished_alike r = refl

text_of_finished : (r : Reading) (out : List Token) (most : ℕ) (text : List ℕ) → IsFed r out most text → length text ≤ most → r.fault ≡ None
    → answers_to text ≡ prepend out (answers (finished r) true [])
text_of_finished r out most text f fits none =
    sym (rw append-nil at (f.goes (fits_short r out most text f fits) none true [])) ∙ ap (prepend out) (sym (finished_alike r))

ok_by : (r : Reading) (out after : List Token) (most : ℕ) (text : List ℕ) → IsFed r out most text → length text ≤ most
    → ((f : SexpFault) → r.fault ≡ Some f → ◌≡◌ {A = Result (Unit {0}) SexpFault} (Ok tt) (Err f))
    → (r.fault ≡ None → prepend out (answers (finished r) true []) ≡ prepend after (last ends))
    → (r.fault ≡ None) ⊎ ((f : SexpFault) × (r.fault ≡ Some f)) → answers_to text ≡ prepend after (last ends)
ok_by r out after most text f fits still reads (inl none) = text_of_finished r out most text f fits none ∙ reads none
ok_by r out after most text f fits still reads (inr (g, some)) = let no = still g some in cc

err_by : (r : Reading) (out after : List Token) (most : ℕ) (text : List ℕ) (fault : SexpFault) → IsFed r out most text → length text ≤ most
    → ((f : SexpFault) → r.fault ≡ Some f → ◌≡◌ {A = Result (Unit {0}) SexpFault} (Err fault) (Err f))
    → (r.fault ≡ None → fault ≢ faults.Memory → prepend out (answers (finished r) true []) ≡ prepend after (last (faulty fault)))
    → (r.fault ≡ None) ⊎ ((f : SexpFault) × (r.fault ≡ Some f)) → IsFaultOf fault text
err_by r out after most text fault f fits still reads (inl none) = λ other. (after, text_of_finished r out most text f fits none ∙ reads none other)
err_by r out after most text fault f fits still reads (inr (g, some)) =
    let same : fault ≡ g = same_Some fault g (ap result_err (still g some)) in
    λ other. (out, rw same (sym (rw append-nil at (f.stops (fits_short r out most text f fits) g some true []))))

-- What the rest of a text makes of the tokens so far, where the reader ends so.
pub ends_ok : (r : Reading) (out after : List Token) (most : ℕ) (text : List ℕ) → IsFed r out most text → length text ≤ most
    → ((f : SexpFault) → r.fault ≡ Some f → ◌≡◌ {A = Result (Unit {0}) SexpFault} (Ok tt) (Err f))
    → (r.fault ≡ None → prepend out (answers (finished r) true []) ≡ prepend after (last ends)) → answers_to text ≡ prepend after (last ends)
ends_ok r out after most text f fits still reads = ok_by r out after most text f fits still reads (fault_or_none r.fault)

pub ends_err : (r : Reading) (out after : List Token) (most : ℕ) (text : List ℕ) (fault : SexpFault) → IsFed r out most text → length text ≤ most
    → ((f : SexpFault) → r.fault ≡ Some f → ◌≡◌ {A = Result (Unit {0}) SexpFault} (Err fault) (Err f))
    → (r.fault ≡ None → fault ≢ faults.Memory → prepend out (answers (finished r) true []) ≡ prepend after (last (faulty fault))) → IsFaultOf fault text
ends_err r out after most text fault f fits still reads = err_by r out after most text fault f fits still reads (fault_or_none r.fault)

-- so many tokens were taken, and no fault was answered yet
pub record IsTaken (old new : Reading) (before after : List Token) : Type 0 where
  pub keeps : KeepsFed old new
  pub fault : new.fault ≡ old.fault
  pub still : (f : SexpFault) → old.fault ≡ Some f → after ≡ before
  pub goes : old.fault ≡ None → old.long ≡ false → (whole_then : Bool) (tail : List ℕ) → CanFollow (is_whole old) whole_then tail
      → prepend before (answers old whole_then tail) ≡ prepend after (answers new whole_then tail)

pub takes_none : (r : Reading) (out : List Token) → IsTaken r r out out
takes_none r out = record {
  keeps = record { count = refl; whole = refl; most = refl; long = refl };
  fault = refl;
  still = λ f e. refl;
  goes = λ none short whole_then tail follow. refl;
}

keeps_on : (a b c : Reading) → KeepsFed a b → KeepsFed b c → KeepsFed a c
keeps_on a b c k l = record { count = l.count ∙ k.count; whole = l.whole ∙ k.whole; most = l.most ∙ k.most; long = l.long ∙ k.long }

-- a token is taken
pub takes : (old r new : Reading) (before out after : List Token) (answer : Result Next SexpFault) (t : Token) (X : Type 0) → IsTaken old r before out
    → answer ≡ Ok (nexts.Token t) → IfSome r.fault (λ f. (answer ≡ Err f) × X) → (r.fault ≡ None → r.long ≡ true → answer ≡ Err (faults.TooLong r.most))
    → (r.fault ≡ None → r.long ≡ false → GoesOn answer r new) → (r.fault ≡ None → new.fault ≡ fault_of answer) → KeepsFed r new → after ≡ out ++ t ∷ []
    → IsTaken old new before after
takes old r new before out after answer t X taken is again too_long next kept keeps pushed =
    let u = unfaulted r.fault r.long r.most answer (nexts.Token t) X is again too_long in
    record {
      keeps = keeps_on old r new taken.keeps keeps;
      fault = (kept u.0 ∙ ap fault_of is) ∙ (sym u.0 ∙ taken.fault);
      still = λ f e. absurd (none-some f (sym u.0 ∙ (taken.fault ∙ e)));
      goes = λ none short whole_then tail follow.
          let step : answers r whole_then tail ≡ token t (answers new whole_then tail) = (rw is at (next u.0 u.1)) whole_then tail (rw taken.keeps.whole follow) in
          taken.goes none short whole_then tail follow ∙ (ap (prepend out) step ∙ rw pushed (sym (prepend-push out t (answers new whole_then tail))));
    }

-- taking ends with an answer that is no fault
pub drained : (old r new : Reading) (before out : List Token) (answer : Result Next SexpFault) (next : Next) (X : Type 0) → IsTaken old r before out
    → answer ≡ Ok next → ((rest : Answers) → following (Ok next) rest ≡ rest)
    → IfSome r.fault (λ f. (answer ≡ Err f) × X) → (r.fault ≡ None → r.long ≡ true → answer ≡ Err (faults.TooLong r.most))
    → (r.fault ≡ None → r.long ≡ false → GoesOn answer r new) → (r.fault ≡ None → new.fault ≡ fault_of answer) → KeepsFed r new
    → IsDrained old new before out
drained old r new before out answer next X taken is nothing again too_long goes kept keeps =
    let u = unfaulted r.fault r.long r.most answer next X is again too_long in
    let none : new.fault ≡ None = kept u.0 ∙ ap fault_of is in
    record {
      keeps = keeps_on old r new taken.keeps keeps;
      still = λ f e. absurd (none-some f (sym u.0 ∙ (taken.fault ∙ e)));
      goes = λ old_none short new_none whole_then tail follow.
          let step : answers r whole_then tail ≡ following (Ok next) (answers new whole_then tail) = (rw is at (goes u.0 u.1)) whole_then tail (rw taken.keeps.whole follow) in
          taken.goes old_none short whole_then tail follow ∙ ap (prepend out) (step ∙ nothing (answers new whole_then tail));
      stops = λ old_none short f e. absurd (none-some f (sym none ∙ e));
    }

stays : (r new : Reading) (answer : Result Next SexpFault) (fault : Option SexpFault) (f : SexpFault) → r.fault ≡ fault → fault ≡ Some f
    → IfSome fault (λ g. (answer ≡ Err g) × (new ≡ r)) → new.fault ≡ Some f
stays r new answer None f is e again = absurd (none-some f e)
stays r new answer (Some g) f is e again = ap (λ x. x.fault) again.1 ∙ (is ∙ e)

-- taking ends with a fault
pub drained_fault : (old r new : Reading) (before out : List Token) (answer : Result Next SexpFault) (fault : SexpFault) → IsTaken old r before out
    → answer ≡ Err fault → IfSome r.fault (λ f. (answer ≡ Err f) × (new ≡ r))
    → (r.fault ≡ None → r.long ≡ false → GoesOn answer r new) → (r.fault ≡ None → r.long ≡ false → StopsAt answer new)
    → (r.fault ≡ None → new.fault ≡ fault_of answer) → KeepsFed r new → IsDrained old new before out
drained_fault old r new before out answer fault taken is again goes stops kept keeps =
    record {
      keeps = keeps_on old r new taken.keeps keeps;
      still = λ f e. (stays r new answer r.fault f refl (taken.fault ∙ e) again, taken.still f e);
      goes = λ old_none short new_none whole_then tail follow.
          let none : r.fault ≡ None = taken.fault ∙ old_none in
          let step : answers r whole_then tail ≡ answers new whole_then tail = (rw is at (goes none (taken.keeps.long ∙ short))) whole_then tail (rw taken.keeps.whole follow) in
          taken.goes old_none short whole_then tail follow ∙ ap (prepend out) step;
      stops = λ old_none short f e whole_then tail follow.
          let none : r.fault ≡ None = taken.fault ∙ old_none in
          let k = kept_is fault f (sym (ap fault_of is) ∙ (sym (kept none) ∙ e)) in
          let step : answers r whole_then tail ≡ answers new whole_then tail = (rw is at (goes none (taken.keeps.long ∙ short))) whole_then tail (rw taken.keeps.whole follow) in
          let at : answers new whole_then tail ≡ last (faulty fault)
          = (rw is at (stops none (taken.keeps.long ∙ short))) k.1 whole_then tail (rw keeps.whole (rw taken.keeps.whole follow)) in
          taken.goes old_none short whole_then tail follow ∙ ap (prepend out) (step ∙ (at ∙ ap (λ x. last (faulty x)) k.0));
    }

pub never_long : (r : Reading) (out : List Token) (most : ℕ) (text : List ℕ) → IsFed r out most text → length text ≤ most → r.long ≡ true → ⊥
never_long r out most text f fits long = let more = f.long long in omega arith
