use Rattle.hol_terms.specs.TermStore.{term_tree}
use Rattle.hol_terms.proofs.SubstitutionLemmas.{closed_fits, closed_back}
use Rattle.hol_terms.proofs.terms.Terms.close.Goals as goal

pub returns-clause-fits : goal.returns-clause-fits
returns-clause-fits g c =
    let s = g.Self.Terms.store c.args.self.now in
    λ closed. rw c.in_ok-r.ensures.tree (closed_fits (term_tree s c.args.t) 0 (term_tree s c.args.v) closed)

pub returns-clause-back : goal.returns-clause-back
returns-clause-back g c =
    let s = g.Self.Terms.store c.args.self.now in
    λ closed. rw c.in_ok-r.ensures.tree (closed_back (term_tree s c.args.t) 0 (term_tree s c.args.v) closed)
