use Rattle.std.proofs.Common.{◌∙◌}
use Rattle.hol_terms.proofs.SubstitutionLemmas.{closed_typed}
use Rattle.hol_formulas.proofs.binder.make_abstraction.Goals as goal

pub make-requires-clause-typed : goal.make-requires-clause-typed
make-requires-clause-typed g c =
    let ty = c.close.ensures.keeps.type_trees c.ty-ty.result c.ty-ty.ensures.there ∙ c.ty-ty.ensures.ty in
    (rw c.in_ok-body.ensures.tree (closed_typed _ 0 _ c.ty-given.ensures.typed), rw ty (c.in_ok-body.ensures.fits c.requires.closed))
