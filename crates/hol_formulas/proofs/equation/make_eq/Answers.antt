use Rattle.std.proofs.Common.{◌≡◌, ◌∙◌, sym, ap}
use Rattle.hol_terms.specs.Term.{Term, ty_of}
use Rattle.hol_terms.specs.TermStore.{term_tree}
use Rattle.hol_terms.specs.Constants.{eq_tm}
use Rattle.hol_formulas.proofs.ConstantLemmas.{takes_equals}
use Rattle.hol_formulas.proofs.equation.make_eq.Goals as goal

pub applied_to_two-requires-clause-fits : goal.applied_to_two-requires-clause-fits
applied_to_two-requires-clause-fits g c =
    let keeps = c.equality.ensures.keeps in
    takes_equals _ _ _ _ c.in_ok-eq.ensures.is.is (ap (λ (u : Term). ty_of u) (keeps.trees c.args.a c.requires.left) ∙ sym c.ty-ty.ensures.ty) (ap (λ (u : Term). ty_of u) (keeps.trees c.args.b c.requires.right) ∙ c.requires.same ∙ sym c.ty-ty.ensures.ty)

pub returns-clause-tree : goal.returns-clause-tree
returns-clause-tree g c =
    let keeps = c.equality.ensures.keeps in
    let s = g.S.Terms.store c.args.store.now in
    let eq : term_tree (g.S.Terms.store c.equality.new.store) c.in_ok-eq.eq ≡ eq_tm (ty_of (term_tree s c.args.a)) = c.in_ok-eq.ensures.is.is ∙ ap (λ u. eq_tm u) c.ty-ty.ensures.ty in
    let left = keeps.trees c.args.a c.requires.left in
    let right = keeps.trees c.args.b c.requires.right in
    cc c.in_ok-t.ensures.tree
