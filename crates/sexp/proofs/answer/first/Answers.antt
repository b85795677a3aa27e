use Rattle.std.proofs.Common.{◌∙◌}
use Rattle.sexp.proofs.ReadingLemmas.{settles}
use Rattle.sexp.proofs.answer.first.Goals as goal

pub returns-in-Ok-clause-next : goal.returns-in-Ok-clause-next
returns-in-Ok-clause-next c = λ whole_then tail follow.
    rw c.requires.shown
    (settles c.args.start c.args.lexer.now c.args.word c.args.nest.now whole_then tail c.requires.found
    ∙ rw (← c.in-Ok.ensures.ok) (c.settled.ensures.next whole_then tail follow))
