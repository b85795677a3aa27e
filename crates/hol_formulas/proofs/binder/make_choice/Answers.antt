use Rattle.std.proofs.Common.{◌≡◌, ◌∙◌, ap, ap₂, refl}
use Rattle.hol_types.specs.Ty.{FunTy}
use Rattle.hol_types.specs.TypeStore.{type_tree}
use Rattle.hol_terms.specs.Term.{Term, ConstTm, ty_of}
use Rattle.hol_terms.specs.TermStore.{term_tree}
use Rattle.hol_terms.specs.Constants.{choice_tm}
use Rattle.hol_formulas.proofs.ConstantLemmas.{takes_predicate}
use Rattle.hol_formulas.proofs.binder.make_choice.Goals as goal

pub apply_fitting-requires-clause-fits : goal.apply_fitting-requires-clause-fits
apply_fitting-requires-clause-fits g c =
    takes_predicate (term_tree (g.S.Terms.store c.of_predicates.new.store) c.in_ok-choice.choice) (term_tree (g.S.Terms.store c.of_predicates.new.store) c.args.p) _ _ _ c.in_ok-choice.ensures.is.is (ap (λ (u : Term). ty_of u) (c.of_predicates.ensures.keeps.trees c.args.p c.requires.there) ∙ c.requires.predicate)

pub returns-clause-tree : goal.returns-clause-tree
returns-clause-tree g c =
    let s = g.S.Terms.store c.args.store.now in
    let head : term_tree (g.S.Terms.store c.of_predicates.new.store) c.in_ok-choice.choice ≡ choice_tm (type_tree s.types c.args.ty) =
    c.in_ok-choice.ensures.is.is ∙ ap₂ ConstTm c.requires.constants.names.choice.is (ap₂ FunTy refl refl) in
    let argument = c.of_predicates.ensures.keeps.trees c.args.p c.requires.there in
    cc c.in_ok-t.ensures.tree
