use Rattle.sexp.proofs.ReadingLemmas.{let_first, other_first}
use Rattle.sexp.proofs.answer.held.Goals as goal

pub returns-then-word-clause-next : goal.returns-then-word-clause-next
returns-then-word-clause-next c = λ whole_then tail follow.
    rw (c.requires, c.peek.ensures.same whole_then tail follow)
    (let_first c.args.list c.peek.new.self c.in-Word.word c.args.nest.now whole_then tail c.in-Word.ensures.sees c.if-word.true)

pub returns-else-word-clause-stop : goal.returns-else-word-clause-stop
returns-else-word-clause-stop c = λ other whole_then tail follow.
    rw c.requires
    (other_first c.args.list c.peek.new.self c.in-Word.word c.args.nest.now whole_then tail c.in-Word.ensures.sees c.if-word.false)
