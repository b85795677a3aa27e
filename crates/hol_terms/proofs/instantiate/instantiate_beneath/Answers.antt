use Rattle.std.proofs.Common.{◌∙◌}
use Rattle.hol_types.proofs.ListLemmas.{item_there}
use Rattle.hol_terms.specs.Deep.{IsPart}
use Rattle.hol_terms.specs.TermStore.{term_tree}
use Rattle.hol_terms.proofs.KeepsLemmas.{keeps_trans}
use Rattle.hol_terms.proofs.instantiate.instantiate_beneath.Goals as goal

pub instantiate_part-requires : goal.instantiate_part-requires
instantiate_part-requires g c =
    let s = g.S.Terms.store c.args.store.now in
    let P = IsPart s (term_tree s c.args.t) in
    let part = item_there P c.in_ok-parts.parts.items c.as_slice-part-items.result.now c.as_slice-part-items.ensures.value c.in_ok-parts.ensures c.loop-part.part-index c.part-item.result c.loop-part-test.true c.part-item.is in
    let inv = c.loop-part.invariant in
    record { term = inv.keeps.terms c.part-item.result part.there; subst = inv.subst; memo = rw inv.same inv.memo; types = inv.types }

pub loop-part-preserved : goal.loop-part-preserved
loop-part-preserved g c =
    let inv = c.loop-part.invariant in
    let now = c.in_ok-instantiate_part.ensures in
    record {
      subst = now.subst;
      same = now.same ∙ inv.same;
      memo = rw inv.same at now.memo;
      keeps = keeps_trans inv.keeps now.keeps;
      rest = now.rest ∙ inv.rest;
      types = now.types;
    }

pub returns-in_err-instantiate_part-clause-keeps : goal.returns-in_err-instantiate_part-clause-keeps
returns-in_err-instantiate_part-clause-keeps g c = keeps_trans c.loop-part.invariant.keeps c.in_err-instantiate_part.ensures.keeps
