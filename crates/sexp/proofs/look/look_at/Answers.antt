use Rattle.std.proofs.Common.{rules, ◌≡◌, ◌∙◌, ◌+◌, ◌++◌, drop, length, false}
use Rattle.sexp.specs.Text.{words_from, words_from-end}
use Rattle.sexp.proofs.TextLemmas.{all_read, reads_end, word_at_end}
use Rattle.sexp.proofs.look.look_at.Goals as goal

pub returns-in-Nothing-clause-stops : goal.returns-in-Nothing-clause-stops
returns-in-Nothing-clause-stops c =
    (search rules, rw (all_read c.args.bytes.now c.next_word-scan.result.read (c.next_word-scan.ensures.nothing c.in-Nothing.is)) (words_from-end false _ _))

pub returns-in-Word-last-clause-words : goal.returns-in-Word-last-clause-words
returns-in-Word-last-clause-words c = λ whole_then tail follow.
    let all : c.next_word-scan.result.read ≡ length c.args.bytes.now = c.next_word-scan.ensures.nothing c.in-Nothing-2.is in
    let scanned : words_from whole_then (c.args.bytes.now ++ tail) c.args.mode c.args.at ≡ words_from whole_then (drop c.next_word-scan.result.read c.args.bytes.now ++ tail) c.next_word-scan.result.mode (c.args.at + c.next_word-scan.result.read)
    = rw c.in-Nothing-2.is at (c.next_word-scan.ensures.words whole_then tail) in
    scanned ∙ word_at_end c.args.whole c.args.bytes.now c.next_word-scan.result.read c.next_word-scan.result.mode _ c.in-Word-last.word all (search rules) c.in-Word-last.ensures whole_then tail follow

pub returns-in-Fault-clause-stops : goal.returns-in-Fault-clause-stops
returns-in-Fault-clause-stops c =
    reads_end c.args.whole c.args.bytes.now c.next_word-scan.result.read c.next_word-scan.result.mode _ _ (c.next_word-scan.ensures.nothing c.in-Nothing-2.is) (search rules) c.in-Fault.ensures

pub returns-in-End-clause-stops : goal.returns-in-End-clause-stops
returns-in-End-clause-stops c =
    (search rules, reads_end c.args.whole c.args.bytes.now c.next_word-scan.result.read c.next_word-scan.result.mode _ _ (c.next_word-scan.ensures.nothing c.in-Nothing-2.is) (search rules) c.in-End.ensures)
