use Rattle.std.proofs.Common.{◌∷◌, []}
use Rattle.sexp.specs.Text.{stop, faulty, ends, more}
use Rattle.sexp.specs.declared.answer.Pending.TheVariants.{Nothing}
use Rattle.sexp.proofs.ReadingLemmas.{stops_at, no_word, answers_of-stop}
use Rattle.sexp.proofs.answer.plain.Goals as goal

pub returns-in-Fault-clause-stop : goal.returns-in-Fault-clause-stop
returns-in-Fault-clause-stop c = rw c.requires
    (stops_at c.in-Fault.fault c.peek.new.self Nothing c.args.nest.now
    (no_word c.peek.new.self (stop (faulty c.in-Fault.fault)) c.args.nest.now _ c.in-Fault.ensures.sees (answers_of-stop (faulty c.in-Fault.fault) c.args.nest.now)))

pub returns-in-Some-clause-stop : goal.returns-in-Some-clause-stop
returns-in-Some-clause-stop c = λ other. rw (c.requires, c.in-Some.ensures.1)
    (no_word c.peek.new.self (stop ends) (c.in-Some.frame ∷ c.in-Some.ensures.0) _ c.in-End.ensures.sees.1 (answers_of-stop ends (c.in-Some.frame ∷ c.in-Some.ensures.0)))

pub returns-in-None-clause-stop : goal.returns-in-None-clause-stop
returns-in-None-clause-stop c =
    (c.in-End.ensures.sees.0, rw (c.requires, c.in-None.ensures) (no_word c.peek.new.self (stop ends) [] _ c.in-End.ensures.sees.1 (answers_of-stop ends [])))

pub returns-in-More-clause-stop : goal.returns-in-More-clause-stop
returns-in-More-clause-stop c = (c.in-More.ensures.sees.0, rw (c.requires, c.in-More.ensures.sees.1) (answers_of-stop more c.args.nest.now))
