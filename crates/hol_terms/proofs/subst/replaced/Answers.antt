use Rattle.std.proofs.Common.{◌∙◌}
use Rattle.hol_terms.specs.Substitution.{subst_free}
use Rattle.hol_terms.proofs.KeepsLemmas.{keeps_trans}
use Rattle.hol_terms.proofs.subst.replaced.Goals as goal

pub subst_part-requires : goal.subst_part-requires
subst_part-requires g c =
    let e = c.in_ok-subst_beneath.ensures in
    let k = e.keeps in
    let same_v = k.trees c.args.v c.requires.variable in
    let same_u = k.trees c.args.u c.requires.new in
    record { term = k.terms c.args.t c.requires.term; variable = k.terms c.args.v c.requires.variable; new = k.terms c.args.u c.requires.new; typed = rw same_u c.requires.typed; closed = rw same_u c.requires.closed; same_type = rw (same_u, same_v) c.requires.same_type; memo = rw (same_v, same_u) e.memo }

pub returns-clause-tree : goal.returns-clause-tree
returns-clause-tree g c =
    let k = c.in_ok-subst_beneath.ensures.keeps in
    c.in_ok-r.ensures.tree ∙ (λ i. subst_free (k.trees c.args.v c.requires.variable i) (k.trees c.args.u c.requires.new i) (k.trees c.args.t c.requires.term i))

pub returns-clause-keeps : goal.returns-clause-keeps
returns-clause-keeps g c = keeps_trans c.in_ok-subst_beneath.ensures.keeps c.in_ok-r.ensures.keeps

pub returns-in_err-r-clause-keeps : goal.returns-in_err-r-clause-keeps
returns-in_err-r-clause-keeps g c = keeps_trans c.in_ok-subst_beneath.ensures.keeps c.in_err-r.ensures.keeps
