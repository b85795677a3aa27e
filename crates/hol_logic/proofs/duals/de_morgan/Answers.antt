use Rattle.std.proofs.Common.{◌≡◌, ◌∙◌, [], refl, sym, ap, subst, true}
use Rattle.hol_types.specs.Ty.{BoolTy}
use Rattle.hol_types.specs.TypeStore.{type_tree}
use Rattle.hol_terms.specs.TermStore.{term_tree}
use Rattle.hol_terms.specs.Constants.{negation, conjunction, disjunction, for_all, exists, equation}
use Rattle.hol_logic.specs.States.{States}
use Rattle.hol_logic.specs.Duals.{contrary, of_and, of_or, of_imp, of_all, of_exists}
use Rattle.hol_logic.proofs.duals.de_morgan.Goals as goal

pub returns-in-Some-and_parts-clause-states : goal.returns-in-Some-and_parts-clause-states
returns-in-Some-and_parts-clause-states c =
    let s = c.args.k.now.store in
    let a = term_tree s c.in-Some-and_parts.sides.left in
    let b = term_tree s c.in-Some-and_parts.sides.right in
    (disjunction (negation a) (negation b), of_and a b (c.in-Some.ensures.some ∙ ap (λ t. negation t) c.in-Some-and_parts.ensures.some) refl, c.in_ok-r.ensures.states)

pub returns-in-Some-or_parts-clause-states : goal.returns-in-Some-or_parts-clause-states
returns-in-Some-or_parts-clause-states c =
    let s = c.args.k.now.store in
    let a = term_tree s c.in-Some-or_parts.sides.left in
    let b = term_tree s c.in-Some-or_parts.sides.right in
    (conjunction (negation a) (negation b), of_or a b (c.in-Some.ensures.some ∙ ap (λ t. negation t) c.in-Some-or_parts.ensures.some) refl, c.in_ok-r-2.ensures.states)

pub returns-in-Some-imp_parts-clause-states : goal.returns-in-Some-imp_parts-clause-states
returns-in-Some-imp_parts-clause-states c =
    let s = c.args.k.now.store in
    let a = term_tree s c.in-Some-imp_parts.sides.left in
    let b = term_tree s c.in-Some-imp_parts.sides.right in
    (conjunction a (negation b), of_imp a b (c.in-Some.ensures.some ∙ ap (λ t. negation t) c.in-Some-imp_parts.ensures.some) refl, c.in_ok-r-3.ensures.states)

pub returns-in-Some-quantified_by-clause-states : goal.returns-in-Some-quantified_by-clause-states
returns-in-Some-quantified_by-clause-states c =
    let s = c.args.k.now.store in
    let ty = type_tree s.types c.in-Some-quantified_by.all.ty in
    let p = term_tree s c.in-Some-quantified_by.all.predicate in
    let whole : term_tree s c.in-Some.whole ≡ for_all ty p = c.in-Some-quantified_by.ensures.some ∙ rw c.constants-name.ensures.are.names.all.is refl in
    let is = c.in-Some.ensures.some ∙ ap (λ t. negation t) whole in
    let d = exists ty (contrary ty p) in
    (d, of_all ty p is refl, subst (λ t. States c.of_all.new.k c.in_ok-r-4.r (equation BoolTy t d) [] true) (sym is) c.in_ok-r-4.ensures.states)

pub returns-in-Some-quantified_by-2-clause-states : goal.returns-in-Some-quantified_by-2-clause-states
returns-in-Some-quantified_by-2-clause-states c =
    let s = c.args.k.now.store in
    let ty = type_tree s.types c.in-Some-quantified_by-2.some.ty in
    let p = term_tree s c.in-Some-quantified_by-2.some.predicate in
    let whole : term_tree s c.in-Some.whole ≡ exists ty p = c.in-Some-quantified_by-2.ensures.some ∙ rw c.constants-name-2.ensures.are.names.ex.is refl in
    let is = c.in-Some.ensures.some ∙ ap (λ t. negation t) whole in
    let d = for_all ty (contrary ty p) in
    (d, of_exists ty p is refl, subst (λ t. States c.of_some.new.k c.in_ok-r-5.r (equation BoolTy t d) [] true) (sym is) c.in_ok-r-5.ensures.states)
