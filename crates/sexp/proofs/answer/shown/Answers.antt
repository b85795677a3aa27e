use Rattle.std.proofs.Common.{refl}
use Rattle.sexp.specs.Text.{faulty, ends, more}
use Rattle.sexp.specs.declared.answer.Pending.TheVariants.{Shown}
use Rattle.sexp.proofs.ReadingLemmas.{stops_at, no_first_word, answers_of-stop}
use Rattle.sexp.proofs.answer.shown.Goals as goal

pub returns-in-Fault-clause-stop : goal.returns-in-Fault-clause-stop
returns-in-Fault-clause-stop c = rw c.requires
    (stops_at c.in-Fault.fault c.peek.new.self (Shown c.args.start) c.args.nest.now
    (no_first_word c.peek.new.self c.args.start (faulty c.in-Fault.fault) c.args.nest.now _ c.in-Fault.ensures.sees refl))

pub returns-in-End-clause-stop : goal.returns-in-End-clause-stop
returns-in-End-clause-stop c = λ other. rw c.requires
    (no_first_word c.peek.new.self c.args.start ends c.args.nest.now _ c.in-End.ensures.sees.1 refl)

pub returns-in-More-clause-stop : goal.returns-in-More-clause-stop
returns-in-More-clause-stop c = (c.in-More.ensures.sees.0, rw (c.requires, c.in-More.ensures.sees.1) (answers_of-stop more _))
