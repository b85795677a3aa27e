use Rattle.std.proofs.Common.{◌∙◌, sym, ap, ◌+◌, ◌++◌, drop}
use Rattle.sexp.specs.Text.{words_from, word}
use Rattle.sexp.specs.declared.lexis.Mode.TheVariants.{Between}
use Rattle.sexp.proofs.TextLemmas.{words_from-step}
use Rattle.sexp.proofs.scan.next_word.Goals as goal

pub returns-in-Word-clause-words : goal.returns-in-Word-clause-words
returns-in-Word-clause-words c = λ whole tail.
    c.loop-i.invariant whole tail
    ∙ (words_from-step whole c.args.bytes.now tail c.loop-i.mode c.args.at c.loop-i.i c.loop-i-test.true
    ∙ c.in-Word.ensures (λ after. words_from whole (drop (c.loop-i.i + 1) c.args.bytes.now ++ tail) after (c.args.at + (c.loop-i.i + 1))))

pub returns-in-Before-clause-words : goal.returns-in-Before-clause-words
returns-in-Before-clause-words c = λ whole tail.
    c.loop-i.invariant whole tail
    ∙ (words_from-step whole c.args.bytes.now tail c.loop-i.mode c.args.at c.loop-i.i c.loop-i-test.true
    ∙ (c.in-Before.ensures (λ after. words_from whole (drop (c.loop-i.i + 1) c.args.bytes.now ++ tail) after (c.args.at + (c.loop-i.i + 1)))
    ∙ ap (word c.in-Before.word) (sym (words_from-step whole c.args.bytes.now tail Between c.args.at c.loop-i.i c.loop-i-test.true))))

pub returns-in-Bad-clause-bad : goal.returns-in-Bad-clause-bad
returns-in-Bad-clause-bad c = λ whole tail.
    words_from-step whole c.args.bytes.now tail c.loop-i.mode c.args.at c.loop-i.i c.loop-i-test.true
    ∙ c.in-Bad.ensures (λ after. words_from whole (drop (c.loop-i.i + 1) c.args.bytes.now ++ tail) after (c.args.at + (c.loop-i.i + 1)))

pub loop-i-preserved : goal.loop-i-preserved
loop-i-preserved c = λ whole tail.
    c.loop-i.invariant whole tail
    ∙ (words_from-step whole c.args.bytes.now tail c.loop-i.mode c.args.at c.loop-i.i c.loop-i-test.true
    ∙ c.in-On.ensures (λ after. words_from whole (drop (c.loop-i.i + 1) c.args.bytes.now ++ tail) after (c.args.at + (c.loop-i.i + 1))))

pub loop-i-preserved-then-stays : goal.loop-i-preserved-then-stays
loop-i-preserved-then-stays c = λ whole tail.
    c.loop-i.invariant whole tail
    ∙ (words_from-step whole c.args.bytes.now tail c.loop-i.mode c.args.at c.loop-i.i c.loop-i-test.true
    ∙ c.stays.ensures c.if-stays.true (c.args.at + c.loop-i.i) (λ after. words_from whole (drop (c.loop-i.i + 1) c.args.bytes.now ++ tail) after (c.args.at + (c.loop-i.i + 1))))
