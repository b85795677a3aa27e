use Rattle.std.proofs.Common.{◌≡◌, ◌∙◌, ap₂}
use Rattle.hol_types.specs.Ty.{BoolTy, FunTy}
use Rattle.hol_types.specs.TypeStore.{type_tree}
use Rattle.hol_terms.specs.Term.{ConstTm}
use Rattle.hol_terms.specs.Constants.{FunTy2}
use Rattle.hol_terms.proofs.KeepsLemmas.{keeps_trans}
use Rattle.hol_formulas.proofs.GrowthLemmas.{name_keeps, type_keeps}
use Rattle.hol_formulas.proofs.equation.selection.Goals as goal

pub returns-clause-is : goal.returns-clause-is
returns-clause-is g c =
    let later = keeps_trans c.function_type.ensures.keeps c.function_type-2.ensures.keeps in
    let name = name_keeps _ _ (keeps_trans later c.function_type-3.ensures.keeps) _ _ c.requires.constants.names.ite in
    let bool = (type_keeps _ _ later _ _ c.requires.constants.bool).is in
    let ty = c.function_type.ensures.keeps.type_trees c.args.ty c.requires.there in
    let second = c.in_ok-second.ensures.is.is in
    let first = c.in_ok-first.ensures.is.is in
    let own = type_tree (g.S.Terms.store c.args.store.now).types c.args.ty in
    let whole : type_tree (g.S.Terms.store c.function_type-3.new.store).types c.in_ok-whole.whole ≡ FunTy BoolTy (FunTy2 own own own) = cc c.in_ok-whole.ensures.is.is in
    record { there = c.in_ok-t.ensures.there; is = c.in_ok-t.ensures.tree ∙ ap₂ ConstTm name.is whole }

pub function_type-requires-3-clause-from : goal.function_type-requires-3-clause-from
function_type-requires-3-clause-from g c =
    (keeps_trans c.function_type.ensures.keeps c.function_type-2.ensures.keeps).types _ c.requires.constants.bool.there

pub make-requires-clause-parts : goal.make-requires-clause-parts
make-requires-clause-parts g c =
    ((keeps_trans (keeps_trans c.function_type.ensures.keeps c.function_type-2.ensures.keeps) c.function_type-3.ensures.keeps).names _ c.requires.constants.names.ite.there, c.in_ok-whole.ensures.is.there)
