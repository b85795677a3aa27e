use Rattle.std.proofs.Common.{◌≡◌, ◌∙◌, ◌<◌, length, sym, ap, subst, arith, get_or}
use Rattle.hol_types.specs.Ty.{BoolTy}
use Rattle.hol_types.specs.TypeStore.{type_tree}
use Rattle.hol_terms.specs.Term.{ty_of}
use Rattle.hol_terms.specs.TermStore.{term_tree}
use Rattle.goal_text.specs.Scope.{HasTyped}
use Rattle.goal_text.proofs.OperationLemmas.{choice_of, choice_typed, item_at}
use Rattle.goal_text.proofs.operations.choice.Goals as goal

pub choose-requires-clause-condition : goal.choose-requires-clause-condition
choose-requires-clause-condition c =
    let s = c.args.base.now in
    let ts = c.args.parts.now in
    let long : 2 < length ts = omega (arith, c.if-parts-lt3.false) in
    let first : 0 < length ts = omega arith in
    let is = choice_typed s ts c.requires.parts c.requires.fits long in
    subst (λ t. HasTyped s BoolTy t) (item_at ts 0 c.index-parts-0-2.result first c.index-parts-0-2.is) is.condition

pub choose-requires-clause-first : goal.choose-requires-clause-first
choose-requires-clause-first c =
    let s = c.args.base.now in
    let ts = c.args.parts.now in
    let long : 2 < length ts = omega (arith, c.if-parts-lt3.false) in
    let first : 1 < length ts = omega arith in
    let is = choice_typed s ts c.requires.parts c.requires.fits long in
    let ty : ty_of (term_tree s (get_or ts 1 0)) ≡ type_tree s.types c.ty-ty.result = ap (λ t. ty_of (term_tree s t)) (item_at ts 1 c.index-parts-1.result first c.index-parts-1.is) ∙ sym c.ty-ty.ensures.ty in
    subst (λ u. HasTyped s u c.index-parts-1-2.result) ty (subst (λ t. HasTyped s (ty_of (term_tree s (get_or ts 1 0))) t) (item_at ts 1 c.index-parts-1-2.result first c.index-parts-1-2.is) is.first)

pub choose-requires-clause-second : goal.choose-requires-clause-second
choose-requires-clause-second c =
    let s = c.args.base.now in
    let ts = c.args.parts.now in
    let long : 2 < length ts = omega (arith, c.if-parts-lt3.false) in
    let first : 1 < length ts = omega arith in
    let is = choice_typed s ts c.requires.parts c.requires.fits long in
    let ty : ty_of (term_tree s (get_or ts 1 0)) ≡ type_tree s.types c.ty-ty.result = ap (λ t. ty_of (term_tree s t)) (item_at ts 1 c.index-parts-1.result first c.index-parts-1.is) ∙ sym c.ty-ty.ensures.ty in
    subst (λ u. HasTyped s u c.index-parts-2.result) ty (subst (λ t. HasTyped s (ty_of (term_tree s (get_or ts 1 0))) t) (item_at ts 2 c.index-parts-2.result long c.index-parts-2.is) is.second)

pub returns-clause-read : goal.returns-clause-read
returns-clause-read c =
    let s = c.args.base.now in
    let ts = c.args.parts.now in
    let long : 2 < length ts = omega (arith, c.if-parts-lt3.false) in
    let first : 1 < length ts = omega arith in
    let same : c.index-parts-1.result ≡ c.index-parts-1-2.result = sym (item_at ts 1 c.index-parts-1.result first c.index-parts-1.is) ∙ item_at ts 1 c.index-parts-1-2.result first c.index-parts-1-2.is in
    let ty : type_tree s.types c.ty-ty.result ≡ ty_of (term_tree s c.index-parts-1-2.result) = c.ty-ty.ensures.ty ∙ ap (λ t. ty_of (term_tree s t)) same in
    rw (choice_of s ts c.index-parts-0-2.result c.index-parts-1-2.result c.index-parts-2.result long c.index-parts-0-2.is c.index-parts-1-2.is c.index-parts-2.is, ← ty) c.in_ok-t.ensures.read
