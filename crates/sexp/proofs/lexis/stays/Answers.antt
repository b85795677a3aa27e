use Rattle.sexp.proofs.TextLemmas.{letter_stays}
use Rattle.sexp.proofs.lexis.stays.Goals as goal

pub returns-then-seen-eq4 : goal.returns-then-seen-eq4
returns-then-seen-eq4 c = λ yes at read_on.
    rw c.in-Atom.is (letter_stays c.in-Atom.field-0 c.in-Atom.seen c.args.b at read_on c.if-seen-eq4.true (c.is_letter.ensures yes))
