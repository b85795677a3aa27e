use Rattle.std.proofs.Common.{◌∙◌, sym, ap, ap₂}
use Rattle.hol_types.specs.Ty.{FunTy}
use Rattle.hol_terms.specs.Term.{Term, ty_of}
use Rattle.hol_terms.specs.TermStore.{term_tree}
use Rattle.hol_terms.proofs.SubstitutionLemmas.{closed_ty}
use Rattle.hol_formulas.proofs.GrowthLemmas.{constants_keep}
use Rattle.hol_formulas.proofs.binder.make_general.Goals as goal

pub make_all-requires-clause-constants : goal.make_all-requires-clause-constants
make_all-requires-clause-constants g c = constants_keep _ _ c.make_abstraction.ensures.keeps _ c.requires.constants

pub make_all-requires-clause-predicate : goal.make_all-requires-clause-predicate
make_all-requires-clause-predicate g c =
    let s = g.S.Terms.store c.args.store.now in
    let kept = c.make_abstraction.ensures.keeps.type_trees c.ty-ty.result c.ty-ty.ensures.there ∙ c.ty-ty.ensures.ty in
    ap (λ (u : Term). ty_of u) c.in_ok-p.ensures.tree ∙ ap₂ FunTy (sym kept) (closed_ty (term_tree s c.args.a) 0 (term_tree s c.args.v) ∙ c.requires.bool)
