use Rattle.std.proofs.Common.{◌≡◌, ◌∙◌, sym, ap}
use Rattle.hol_terms.specs.Term.{Term, AppTm, ty_of}
use Rattle.hol_terms.specs.TermStore.{term_tree}
use Rattle.hol_terms.specs.Constants.{ite_tm}
use Rattle.hol_terms.proofs.KeepsLemmas.{keeps_trans}
use Rattle.hol_formulas.proofs.ConstantLemmas.{takes_branches, takes_condition}
use Rattle.hol_formulas.proofs.equation.make_ite.Goals as goal

pub apply_fitting-requires-clause-fits : goal.apply_fitting-requires-clause-fits
apply_fitting-requires-clause-fits g c =
    takes_condition (term_tree (g.S.Terms.store c.selection.new.store) c.in_ok-ite.ite) (term_tree (g.S.Terms.store c.selection.new.store) c.args.c) _ c.in_ok-ite.ensures.is.is (ap (λ (u : Term). ty_of u) (c.selection.ensures.keeps.trees c.args.c c.requires.condition) ∙ c.requires.bool)

pub applied_to_two-requires-clause-fits : goal.applied_to_two-requires-clause-fits
applied_to_two-requires-clause-fits g c =
    let keeps = keeps_trans c.selection.ensures.keeps c.apply_fitting.ensures.keeps in
    takes_branches _ _ _ _ _ (c.in_ok-chosen.ensures.tree ∙ ap (λ f. AppTm f (term_tree (g.S.Terms.store c.selection.new.store) c.args.c)) c.in_ok-ite.ensures.is.is)
    (ap (λ (u : Term). ty_of u) (keeps.trees c.args.a c.requires.left) ∙ sym c.ty-ty.ensures.ty) (ap (λ (u : Term). ty_of u) (keeps.trees c.args.b c.requires.right) ∙ c.requires.same ∙ sym c.ty-ty.ensures.ty)

pub returns-clause-tree : goal.returns-clause-tree
returns-clause-tree g c =
    let keeps = keeps_trans c.selection.ensures.keeps c.apply_fitting.ensures.keeps in
    let s = g.S.Terms.store c.args.store.now in
    let ite : term_tree (g.S.Terms.store c.selection.new.store) c.in_ok-ite.ite ≡ ite_tm (ty_of (term_tree s c.args.a)) = c.in_ok-ite.ensures.is.is ∙ ap (λ u. ite_tm u) c.ty-ty.ensures.ty in
    let condition = c.selection.ensures.keeps.trees c.args.c c.requires.condition in
    let chosen = c.in_ok-chosen.ensures.tree in
    let left = keeps.trees c.args.a c.requires.left in
    let right = keeps.trees c.args.b c.requires.right in
    cc c.in_ok-t.ensures.tree

pub applied_to_two-requires-clause-left : goal.applied_to_two-requires-clause-left
applied_to_two-requires-clause-left g c = (keeps_trans c.selection.ensures.keeps c.apply_fitting.ensures.keeps).terms c.args.a c.requires.left

pub applied_to_two-requires-clause-right : goal.applied_to_two-requires-clause-right
applied_to_two-requires-clause-right g c = (keeps_trans c.selection.ensures.keeps c.apply_fitting.ensures.keeps).terms c.args.b c.requires.right
