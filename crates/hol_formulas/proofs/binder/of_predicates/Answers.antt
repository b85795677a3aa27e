use Rattle.std.proofs.Common.{◌≡◌, ◌∙◌, ap₂}
use Rattle.hol_types.specs.Ty.{BoolTy, FunTy}
use Rattle.hol_types.specs.TypeStore.{type_tree}
use Rattle.hol_terms.specs.Term.{ConstTm}
use Rattle.hol_terms.proofs.KeepsLemmas.{keeps_trans}
use Rattle.hol_formulas.proofs.binder.of_predicates.Goals as goal

pub returns-clause-is : goal.returns-clause-is
returns-clause-is g c =
    let s = g.S.Terms.store c.args.store.now in
    let keeps = keeps_trans c.function_type.ensures.keeps c.function_type-2.ensures.keeps in
    let name = keeps.texts c.args.name c.requires.name in
    let from = c.in_ok-from.ensures.is.is in
    let bool = c.requires.bool.is in
    let last = c.function_type.ensures.keeps.type_trees c.args.result_type c.requires.result_type in
    let whole : type_tree (g.S.Terms.store c.function_type-2.new.store).types c.in_ok-whole.whole ≡ FunTy (FunTy (type_tree s.types c.args.ty) BoolTy) (type_tree s.types c.args.result_type) = cc c.in_ok-whole.ensures.is.is in
    record { there = c.in_ok-t.ensures.there; is = c.in_ok-t.ensures.tree ∙ ap₂ ConstTm name whole }

pub make-requires-clause-parts : goal.make-requires-clause-parts
make-requires-clause-parts g c =
    ((keeps_trans c.function_type.ensures.keeps c.function_type-2.ensures.keeps).names c.args.name c.requires.name, c.in_ok-whole.ensures.is.there)
