use Rattle.std.proofs.Common.{◌∙◌}
use Rattle.std.proofs.Common.{arith}
use Rattle.hol_terms.specs.Substitution.{close_free}
use Rattle.hol_terms.proofs.KeepsLemmas.{keeps_trans}
use Rattle.hol_terms.proofs.close.closed.Goals as goal

pub close_part-requires : goal.close_part-requires
close_part-requires g c =
    let e = c.in_ok-close_beneath.ensures in
    let k = e.keeps in
    let same_v = k.trees c.args.v c.requires.variable in
    record { term = k.terms c.args.t c.requires.term; variable = k.terms c.args.v c.requires.variable; room = omega arith; memo = rw same_v e.memo }

pub returns-clause-tree : goal.returns-clause-tree
returns-clause-tree g c =
    let k = c.in_ok-close_beneath.ensures.keeps in
    c.in_ok-r.ensures.tree ∙ (λ i. close_free (k.trees c.args.t c.requires.term i) 0 (k.trees c.args.v c.requires.variable i))

pub returns-clause-keeps : goal.returns-clause-keeps
returns-clause-keeps g c = keeps_trans c.in_ok-close_beneath.ensures.keeps c.in_ok-r.ensures.keeps

pub returns-in_err-r-clause-keeps : goal.returns-in_err-r-clause-keeps
returns-in_err-r-clause-keeps g c = keeps_trans c.in_ok-close_beneath.ensures.keeps c.in_err-r.ensures.keeps
