use Rattle.std.proofs.Common.{◌≡◌, ℕ, flat_map, Vec, Global, ◌∙◌, ap, sym, arith}
use Rattle.std.proofs.lemmas.List.{take_all}
use Rattle.sexp.specs.Text.{ends}
use Rattle.sexp.specs.Nesting.{last}
use Rattle.sexp.proofs.SpanLemmas.{text-spans}
use Rattle.sexp.proofs.TokenBytesLemmas.{text_tokens}
use Rattle.sexp.proofs.TokensLemmas.{IsFed, starts, feeds, text_more, ends_ok, ends_err, never_long}
use Rattle.sexp.proofs.tokens.read_tokens.Goals as goal

pub loop-piece-init : goal.loop-piece-init
loop-piece-init c = rw (c.new-out.ensures.items, c.new-reader.ensures) (starts c.args.most)

pub loop-piece-preserved : goal.loop-piece-preserved
loop-piece-preserved c =
    rw (text_more (λ (v : Vec ℕ Global). v.items) c.args.pieces.now c.loop-piece.piece-index c.piece-item.result c.loop-piece-test.true c.piece-item.is)
    (feeds c.loop-piece.reader c.feed.new.self c.drain.new.reader c.loop-piece.out.items c.drain.new.out.items c.args.most _ c.piece-item.result.items
    c.loop-piece.invariant (rw c.deref.ensures.value at c.in-Ok.ensures.ok) c.in-Ok-drain.ensures)

pub returns-then-is_long-clause-reads : goal.returns-then-is_long-clause-reads
returns-then-is_long-clause-reads c = λ fits.
    let r = c.loop-piece.reader in
    let all : IsFed r c.loop-piece.out.items c.args.most (flat_map (λ (v : Vec ℕ Global). v.items) c.args.pieces.now)
    = rw (take_all c.loop-piece.piece-index c.args.pieces.now c.loop-piece-test.false) at c.loop-piece.invariant in
    let long : r.long ≡ c.is_long.result = sym (ap (λ x. x.long) c.finish.ensures) ∙ sym c.is_long.ensures in
    absurd (never_long r c.loop-piece.out.items c.args.most _ all fits (long ∙ c.if-is_long.true))

pub returns-in-Ok-rest-clause-too_long : goal.returns-in-Ok-rest-clause-too_long
returns-in-Ok-rest-clause-too_long c = λ more.
    let r = c.loop-piece.reader in
    let all : IsFed r c.loop-piece.out.items c.args.most (flat_map (λ (v : Vec ℕ Global). v.items) c.args.pieces.now)
    = rw (take_all c.loop-piece.piece-index c.args.pieces.now c.loop-piece-test.false) at c.loop-piece.invariant in
    let long : r.long ≡ c.is_long.result = sym (ap (λ x. x.long) c.finish.ensures) ∙ sym c.is_long.ensures in
    let fits = (all.counted (long ∙ c.if-is_long.false)).1 in
    absurd (omega arith)

pub returns-in-Ok-rest-clause-reads : goal.returns-in-Ok-rest-clause-reads
returns-in-Ok-rest-clause-reads c = λ fits.
    let r = c.loop-piece.reader in
    let all : IsFed r c.loop-piece.out.items c.args.most (flat_map (λ (v : Vec ℕ Global). v.items) c.args.pieces.now)
    = rw (take_all c.loop-piece.piece-index c.args.pieces.now c.loop-piece-test.false) at c.loop-piece.invariant in
    let long : r.long ≡ c.is_long.result = sym (ap (λ x. x.long) c.finish.ensures) ∙ sym c.is_long.ensures in
    let same : c.finish.new.self.fault ≡ r.fault = ap (λ x. x.fault) c.finish.ensures in
    ends_ok r c.loop-piece.out.items c.rest.new.out.items c.args.most _ all fits
    (λ f some. (c.in-Ok-rest.ensures.still f (same ∙ some)).0)
    (λ none. rw c.finish.ensures at (c.in-Ok-rest.ensures.reads (same ∙ none) (sym c.is_long.ensures ∙ c.if-is_long.false)))

pub returns-in-Ok-rest-clause-spans : goal.returns-in-Ok-rest-clause-spans
returns-in-Ok-rest-clause-spans c =
    let r = c.loop-piece.reader in
    let all : IsFed r c.loop-piece.out.items c.args.most (flat_map (λ (v : Vec ℕ Global). v.items) c.args.pieces.now)
    = rw (take_all c.loop-piece.piece-index c.args.pieces.now c.loop-piece-test.false) at c.loop-piece.invariant in
    let long : r.long ≡ c.is_long.result = sym (ap (λ x. x.long) c.finish.ensures) ∙ sym c.is_long.ensures in
    let same : c.finish.new.self.fault ≡ r.fault = ap (λ x. x.fault) c.finish.ensures in
    let fits = (all.counted (long ∙ c.if-is_long.false)).1 in
    text-spans _ c.rest.new.out.items (last ends) (ends_ok r c.loop-piece.out.items c.rest.new.out.items c.args.most _ all fits
    (λ f some. (c.in-Ok-rest.ensures.still f (same ∙ some)).0)
    (λ none. rw c.finish.ensures at (c.in-Ok-rest.ensures.reads (same ∙ none) (sym c.is_long.ensures ∙ c.if-is_long.false))))

pub returns-in-Ok-rest-clause-bytes : goal.returns-in-Ok-rest-clause-bytes
returns-in-Ok-rest-clause-bytes c =
    let r = c.loop-piece.reader in
    let all : IsFed r c.loop-piece.out.items c.args.most (flat_map (λ (v : Vec ℕ Global). v.items) c.args.pieces.now)
    = rw (take_all c.loop-piece.piece-index c.args.pieces.now c.loop-piece-test.false) at c.loop-piece.invariant in
    let long : r.long ≡ c.is_long.result = sym (ap (λ x. x.long) c.finish.ensures) ∙ sym c.is_long.ensures in
    let same : c.finish.new.self.fault ≡ r.fault = ap (λ x. x.fault) c.finish.ensures in
    let fits = (all.counted (long ∙ c.if-is_long.false)).1 in
    text_tokens _ c.rest.new.out.items (last ends) (ends_ok r c.loop-piece.out.items c.rest.new.out.items c.args.most _ all fits
    (λ f some. (c.in-Ok-rest.ensures.still f (same ∙ some)).0)
    (λ none. rw c.finish.ensures at (c.in-Ok-rest.ensures.reads (same ∙ none) (sym c.is_long.ensures ∙ c.if-is_long.false))))

pub returns-clause-too_long : goal.returns-clause-too_long
returns-clause-too_long c = λ more.
    let r = c.loop-piece.reader in
    let all : IsFed r c.loop-piece.out.items c.args.most (flat_map (λ (v : Vec ℕ Global). v.items) c.args.pieces.now)
    = rw (take_all c.loop-piece.piece-index c.args.pieces.now c.loop-piece-test.false) at c.loop-piece.invariant in
    let long : r.long ≡ c.is_long.result = sym (ap (λ x. x.long) c.finish.ensures) ∙ sym c.is_long.ensures in
    let fits = (all.counted (long ∙ c.if-is_long.false)).1 in
    absurd (omega arith)

pub returns-clause-reads : goal.returns-clause-reads
returns-clause-reads c = λ fits.
    let r = c.loop-piece.reader in
    let all : IsFed r c.loop-piece.out.items c.args.most (flat_map (λ (v : Vec ℕ Global). v.items) c.args.pieces.now)
    = rw (take_all c.loop-piece.piece-index c.args.pieces.now c.loop-piece-test.false) at c.loop-piece.invariant in
    let long : r.long ≡ c.is_long.result = sym (ap (λ x. x.long) c.finish.ensures) ∙ sym c.is_long.ensures in
    let same : c.finish.new.self.fault ≡ r.fault = ap (λ x. x.fault) c.finish.ensures in
    ends_err r c.loop-piece.out.items c.rest.new.out.items c.args.most _ c.in-Err-rest.fault all fits
    (λ f some. (c.in-Err-rest.ensures.still f (same ∙ some)).0)
    (λ none other. (rw c.finish.ensures at (c.in-Err-rest.ensures.reads (same ∙ none) (sym c.is_long.ensures ∙ c.if-is_long.false))) other)
