use Rattle.std.proofs.Common.{◌∙◌, sym, ap, refl, arith}
use Rattle.std.proofs.lemmas.Bool.{eq-eqb}
use Rattle.hol_types.specs.TypeStore.{type_tree}
use Rattle.hol_types.proofs.TypeLemmas.{eqb_sound, type_tree-injective}
use Rattle.hol_terms.specs.TermStore.{joined, term_tree}
use Rattle.hol_terms.proofs.ReachLemmas.{reach_fits}
use Rattle.hol_terms.proofs.MemoLemmas.{fits_put}
use Rattle.hol_terms.proofs.fits.+fits.Goals as goal

pub node_fits-returns-else-i-index-clause-fits : goal.node_fits-returns-else-i-index-clause-fits
node_fits-returns-else-i-index-clause-fits t c =
    let s = joined c.args.base.now c.args.own.now in
    let has = rw c.in-Bound.is at c.known_node_in.ensures.parts in
    rw c.in-Bound.ensures.tree (
      λ h e. ap (λ u. type_tree s.types u) (eqb_sound c.in-Bound.u c.args.ty (sym c.eq.ensures ∙ h)),
      λ h. c.eq.ensures ∙ eq-eqb c.in-Bound.u c.args.ty (type_tree-injective s.types c.requires.lawful.shape.types c.in-Bound.u c.args.ty has c.requires.ty (h c.if-i-index.false)),
    )

pub part_fits-returns-then-reach_in-part-clause-fits : goal.part_fits-returns-then-reach_in-part-clause-fits
part_fits-returns-then-reach_in-part-clause-fits t c =
    let s = joined c.args.base.now c.args.own.now in
    (λ h. reach_fits (term_tree s c.args.part.term) c.args.part.index (type_tree s.types c.args.ty) (omega (arith, c.reach_in.ensures, c.if-reach_in-part.true)), λ h. refl)

pub part_fits-returns-in_ok-insert-clause-seen : goal.part_fits-returns-in_ok-insert-clause-seen
part_fits-returns-in_ok-insert-clause-seen t c =
    let s = joined c.args.base.now c.args.own.now in
    fits_put s (type_tree s.types c.args.ty) c.node_fits.new.seen c.insert.new.self c.args.part c.in_ok-fits.ensures.seen (λ q. c.in_ok-insert.ensures.updates.0 q) (c.in_ok-fits.ensures.fits.0 c.if-fits.true)
