use Rattle.hol_terms.specs.TermStore.{term_tree}
use Rattle.hol_terms.proofs.SubstitutionLemmas.{opened_back}
use Rattle.hol_terms.proofs.terms.Terms.open.Goals as goal

pub returns-clause-back : goal.returns-clause-back
returns-clause-back g c =
    let s = g.Self.Terms.store c.args.self.now in
    λ free absent. rw c.in_ok-r.ensures.tree (opened_back (term_tree s c.args.body) 0 (term_tree s c.args.u) free absent c.requires.fits)
