use Rattle.sexp.proofs.ReadingLemmas.{closes_none, closes, atom_goes, quoted_goes}
use Rattle.sexp.proofs.answer.settled.Goals as goal

pub returns-in-None-clause-stop : goal.returns-in-None-clause-stop
returns-in-None-clause-stop c = λ other whole_then tail follow.
    rw (c.requires.none, c.in-None.ensures.1) (closes_none c.args.lexer.now c.args.word whole_then tail c.requires.found c.in-Close.is)

pub returns-in-Some-clause-next : goal.returns-in-Some-clause-next
returns-in-Some-clause-next c = λ whole_then tail follow.
    rw (c.requires.none, c.in-Some.ensures)
    (closes c.args.lexer.now c.take.new.self c.args.word _ _ whole_then tail c.requires.found c.take.ensures c.in-Close.is)

pub returns-in-Atom-clause-next : goal.returns-in-Atom-clause-next
returns-in-Atom-clause-next c = λ whole_then tail follow.
    rw c.requires.none
    (atom_goes c.args.lexer.now c.take-in-Atom.new.self c.args.word c.args.nest.now whole_then tail c.requires.found c.take-in-Atom.ensures c.in-Atom.is)

pub returns-in-Quoted-clause-next : goal.returns-in-Quoted-clause-next
returns-in-Quoted-clause-next c = λ whole_then tail follow.
    rw c.requires.none
    (quoted_goes c.args.lexer.now c.take-in-Quoted.new.self c.args.word c.args.nest.now whole_then tail c.requires.found c.take-in-Quoted.ensures c.in-Quoted.is)
