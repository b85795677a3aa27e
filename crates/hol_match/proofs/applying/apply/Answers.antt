use Rattle.std.proofs.Common.{◌∙◌, ap, subst, sym}
use Rattle.hol_terms.specs.Term.{ty_of}
use Rattle.hol_terms.specs.TermStore.{term_tree}
use Rattle.hol_terms.specs.Substitution.{IsClosed}
use Rattle.hol_match.specs.Inst.{inst_tree, term_for}
use Rattle.hol_match.proofs.ApplyLemmas.{inst_instantiates, instance_loose}
use Rattle.hol_match.proofs.OccurLemmas.{instance_type}
use Rattle.hol_match.proofs.applying.apply.Goals as goal

pub returns-clause-has_type : goal.returns-clause-has_type
returns-clause-has_type g c =
    let s = g.S.Terms.store c.args.store.now in
    let qs = c.args.inst.now in
    ap ty_of c.in_ok-r.ensures.tree ∙ instance_type (term_for (inst_tree s s qs)) (inst_instantiates s qs c.requires.terms) (term_tree s c.args.t)

pub returns-clause-closed : goal.returns-clause-closed
returns-clause-closed g c =
    let s = g.S.Terms.store c.args.store.now in
    let qs = c.args.inst.now in
    λ h. subst (λ x. IsClosed x) (sym c.in_ok-r.ensures.tree) (instance_loose (term_for (inst_tree s s qs)) (inst_instantiates s qs c.requires.terms) (term_tree s c.args.t) 0 h)
