use Rattle.hol_terms.specs.Term.{ty_of}
use Rattle.hol_terms.specs.TermStore.{term_tree}
use Rattle.hol_logic.proofs.equality.sym.Goals as goal

pub returns-clause-states : goal.returns-clause-states
returns-clause-states c =
    let s = c.args.k.now.store in
    let left = term_tree s c.in-Some.sides.left in
    (record { type = ty_of left; left = left; right = term_tree s c.in-Some.sides.right; is = c.in-Some.ensures.some.concl }, c.in_ok-r.ensures.states)
