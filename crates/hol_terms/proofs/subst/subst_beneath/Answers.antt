use Rattle.std.proofs.Common.{◌∙◌}
use Rattle.hol_types.proofs.ListLemmas.{item_there}
use Rattle.hol_terms.specs.Deep.{IsPart}
use Rattle.hol_terms.specs.TermStore.{term_tree}
use Rattle.hol_terms.proofs.KeepsLemmas.{keeps_trans}
use Rattle.hol_terms.proofs.subst.subst_beneath.Goals as goal

pub subst_part-requires : goal.subst_part-requires
subst_part-requires g c =
    let s = g.S.Terms.store c.args.store.now in
    let P = IsPart s (term_tree s c.args.t) in
    let item = item_there P c.in_ok-parts.parts.items c.as_slice-part-items.result.now c.as_slice-part-items.ensures.value c.in_ok-parts.ensures c.loop-part.part-index c.part-item.result c.loop-part-test.true c.part-item.is in
    let inv = c.loop-part.invariant in
    let k = inv.keeps in
    let same_v = k.trees c.args.v c.requires.variable in
    let same_u = k.trees c.args.u c.requires.new in
    record { term = k.terms c.part-item.result item.there; variable = k.terms c.args.v c.requires.variable; new = k.terms c.args.u c.requires.new; typed = rw same_u c.requires.typed; closed = rw same_u c.requires.closed; same_type = rw (same_u, same_v) c.requires.same_type; memo = rw (same_v, same_u) inv.memo }

pub loop-part-preserved : goal.loop-part-preserved
loop-part-preserved g c =
    let inv = c.loop-part.invariant in
    let k = inv.keeps in
    let now = c.in_ok-subst_part.ensures in
    record { memo = rw (k.trees c.args.v c.requires.variable, k.trees c.args.u c.requires.new) at now.memo; keeps = keeps_trans inv.keeps now.keeps; rest = now.rest ∙ inv.rest }

pub returns-in_err-subst_part-clause-keeps : goal.returns-in_err-subst_part-clause-keeps
returns-in_err-subst_part-clause-keeps g c = keeps_trans c.loop-part.invariant.keeps c.in_err-subst_part.ensures.keeps
