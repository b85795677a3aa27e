use Rattle.std.proofs.Common.{◌≡◌, ◌∙◌, ap₂}
use Rattle.hol_types.specs.Ty.{BoolTy}
use Rattle.hol_types.specs.TypeStore.{type_tree}
use Rattle.hol_terms.specs.Term.{ConstTm}
use Rattle.hol_terms.specs.Constants.{FunTy2}
use Rattle.hol_terms.proofs.KeepsLemmas.{keeps_trans}
use Rattle.hol_formulas.proofs.GrowthLemmas.{name_keeps}
use Rattle.hol_formulas.proofs.equation.equality.Goals as goal

pub returns-clause-is : goal.returns-clause-is
returns-clause-is g c =
    let name = name_keeps _ _ (keeps_trans c.function_type.ensures.keeps c.function_type-2.ensures.keeps) _ _ c.requires.constants.names.eq in
    let ty = c.function_type.ensures.keeps.type_trees c.args.ty c.requires.there in
    let test = c.in_ok-test.ensures.is.is in
    let bool = c.requires.constants.bool.is in
    let own = type_tree (g.S.Terms.store c.args.store.now).types c.args.ty in
    let whole : type_tree (g.S.Terms.store c.function_type-2.new.store).types c.in_ok-whole.whole ≡ FunTy2 own own BoolTy = cc c.in_ok-whole.ensures.is.is in
    record { there = c.in_ok-t.ensures.there; is = c.in_ok-t.ensures.tree ∙ ap₂ ConstTm name.is whole }

pub make-requires-clause-parts : goal.make-requires-clause-parts
make-requires-clause-parts g c =
    ((keeps_trans c.function_type.ensures.keeps c.function_type-2.ensures.keeps).names _ c.requires.constants.names.eq.there, c.in_ok-whole.ensures.is.there)
