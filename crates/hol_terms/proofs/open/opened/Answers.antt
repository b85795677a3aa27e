use Rattle.std.proofs.Common.{◌∙◌}
use Rattle.std.proofs.Common.{arith}
use Rattle.hol_terms.specs.Substitution.{subst_bound}
use Rattle.hol_terms.proofs.KeepsLemmas.{keeps_trans}
use Rattle.hol_terms.proofs.open.opened.Goals as goal

pub open_part-requires : goal.open_part-requires
open_part-requires g c =
    let e = c.in_ok-open_beneath.ensures in
    let k = e.keeps in
    let same_u = k.trees c.args.u c.requires.new in
    let same = k.trees c.args.body c.requires.body in
    record { term = k.terms c.args.body c.requires.body; new = k.terms c.args.u c.requires.new; typed = rw same_u c.requires.typed; closed = rw same_u c.requires.closed; fits = rw (same, same_u) c.requires.fits; room = omega arith; memo = rw same_u e.memo }

pub returns-clause-tree : goal.returns-clause-tree
returns-clause-tree g c =
    let k = c.in_ok-open_beneath.ensures.keeps in
    c.in_ok-r.ensures.tree ∙ (λ i. subst_bound (k.trees c.args.body c.requires.body i) 0 (k.trees c.args.u c.requires.new i))

pub returns-clause-keeps : goal.returns-clause-keeps
returns-clause-keeps g c = keeps_trans c.in_ok-open_beneath.ensures.keeps c.in_ok-r.ensures.keeps

pub returns-in_err-r-clause-keeps : goal.returns-in_err-r-clause-keeps
returns-in_err-r-clause-keeps g c = keeps_trans c.in_ok-open_beneath.ensures.keeps c.in_err-r.ensures.keeps
