use Rattle.std.proofs.Common.{◌∙◌}
use Rattle.hol_terms.specs.Substitution.{subst_types}
use Rattle.hol_terms.proofs.KeepsLemmas.{keeps_trans}
use Rattle.hol_terms.proofs.instantiate.instantiated.Goals as goal

pub instantiate_part-requires : goal.instantiate_part-requires
instantiate_part-requires g c =
    let e = c.in_ok-instantiate_beneath.ensures in
    record { term = e.keeps.terms c.args.t c.requires.term; subst = e.subst; memo = rw e.same e.memo; types = e.types }

pub returns-clause-tree : goal.returns-clause-tree
returns-clause-tree g c =
    let e = c.in_ok-instantiate_beneath.ensures in
    c.in_ok-r.ensures.tree ∙ (λ i. subst_types (e.same i) (e.keeps.trees c.args.t c.requires.term i))

pub returns-clause-keeps : goal.returns-clause-keeps
returns-clause-keeps g c = keeps_trans c.in_ok-instantiate_beneath.ensures.keeps c.in_ok-r.ensures.keeps

pub returns-in_err-r-clause-keeps : goal.returns-in_err-r-clause-keeps
returns-in_err-r-clause-keeps g c = keeps_trans c.in_ok-instantiate_beneath.ensures.keeps c.in_err-r.ensures.keeps
