use Rattle.std.proofs.Common.{ap, sym, ◌≡◌, ◌∙◌, true, length, reverse, drop}
use Rattle.std.proofs.lemmas.List.{length-reverse}
use Rattle.sexp.specs.Text.{CanFollow}
use Rattle.sexp.specs.Reading.{answers, count_fed, is_whole, fault_of}
use Rattle.sexp.specs.Nesting.{token}
use Rattle.sexp.specs.Records.{opens_after}
use Rattle.sexp.specs.Growing.{IsGrowing}
use Rattle.sexp.proofs.GrowLemmas.{grows, grown_all, grown_fault, keeps_on, rest_follows}
use Rattle.sexp.proofs.forest.grow.Goals as goal

pub tokens-preserved : goal.tokens-preserved
tokens-preserved c =
    let i = c.tokens.invariant in
    let tail = drop (count_fed c.tokens.reader) c.args.bytes.now in
    let follow : CanFollow (is_whole c.tokens.reader) true tail
    = rest_follows c.args.bytes.now c.tokens.reader (λ whole. i.keeps.count ∙ c.requires.whole (sym i.keeps.whole ∙ whole)) in
    let step : answers c.tokens.reader true tail ≡ token c.in-Ok-Token.token (answers c.next.new.self true tail)
    = (rw c.in-Ok-Token.field-0-is at c.in-Ok-Token.ensures.next) i.grows.none i.grows.short true tail follow in
    let counted : length (reverse c.add_token.new.lists.items) ≡ opens_after c.in-Ok-Token.token.kind (length (reverse c.tokens.lists.items))
    = rw (length-reverse c.add_token.new.lists.items, length-reverse c.tokens.lists.items) c.in-Ok.ensures.lists in
    let growing : IsGrowing c.args.bytes.now c.add_token.new.records (reverse c.add_token.new.lists.items) (answers c.next.new.self true tail)
    = grows c.args.bytes.now c.tokens.records c.add_token.new.records (reverse c.tokens.lists.items) (reverse c.add_token.new.lists.items)
    (answers c.tokens.reader true tail) (answers c.next.new.self true tail) c.in-Ok-Token.token i.grows.growing step
    c.in-Ok.ensures.grown c.in-Ok.ensures.below counted c.in-Ok.ensures.records in
    record {
      keeps = keeps_on c.args.reader.now c.tokens.reader c.next.new.self i.keeps c.next.ensures.fed;
      grows = record {
        none = c.next.ensures.kept i.grows.none ∙ ap fault_of c.in-Ok-Token.is;
        short = c.next.ensures.fed.long ∙ i.grows.short;
        growing = rw c.next.ensures.fed.count growing;
      };
    }

pub returns-in-Ok-End-clause-all : goal.returns-in-Ok-End-clause-all
returns-in-Ok-End-clause-all c = λ whole_text.
    let i = c.tokens.invariant in
    let tail = drop (count_fed c.tokens.reader) c.args.bytes.now in
    let follow : CanFollow (is_whole c.tokens.reader) true tail
    = rest_follows c.args.bytes.now c.tokens.reader (λ whole. i.keeps.count ∙ c.requires.whole (sym i.keeps.whole ∙ whole)) in
    let next : answers c.tokens.reader true tail ≡ answers c.next.new.self true tail
    = (rw c.in-Ok-End.field-0-is at c.in-Ok-End.ensures.next) i.grows.none i.grows.short true tail follow in
    let stop = (rw c.in-Ok-End.field-0-is at c.in-Ok-End.ensures.stop) i.grows.none i.grows.short in
    grown_all c.args.bytes.now c.tokens.records (reverse c.tokens.lists.items) (answers c.tokens.reader true tail) i.grows.growing
    (next ∙ stop.1 true tail (λ whole. follow (sym c.next.ensures.fed.whole ∙ whole)))

pub returns-in-Err-clause-fault : goal.returns-in-Err-clause-fault
returns-in-Err-clause-fault c = λ other.
    let i = c.tokens.invariant in
    let tail = drop (count_fed c.tokens.reader) c.args.bytes.now in
    let follow : CanFollow (is_whole c.tokens.reader) true tail
    = rest_follows c.args.bytes.now c.tokens.reader (λ whole. i.keeps.count ∙ c.requires.whole (sym i.keeps.whole ∙ whole)) in
    let next = c.in-Err.ensures.next i.grows.none i.grows.short true tail follow in
    let stop = c.in-Err.ensures.stop i.grows.none i.grows.short other true tail (λ whole. follow (sym c.next.ensures.fed.whole ∙ whole)) in
    grown_fault c.args.bytes.now c.tokens.records (reverse c.tokens.lists.items) (answers c.tokens.reader true tail) c.in-Err.fault i.grows.growing (next ∙ stop)
