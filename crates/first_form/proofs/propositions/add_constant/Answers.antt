use Rattle.std.proofs.Common.{◌≡◌, true, rules, sym}
use Rattle.hol_types.specs.Ty.{BoolTy}
use Rattle.hol_types.specs.TyEq.{ty_eq}
use Rattle.hol_types.specs.TypeStore.{type_tree}
use Rattle.hol_types.proofs.TyEqLemmas.{ty_eq_sound}
use Rattle.first_form.proofs.propositions.add_constant.Goals as goal

pub declare-requires-clause-proposition : goal.declare-requires-clause-proposition
declare-requires-clause-proposition c =
    let test : ty_eq BoolTy (type_tree c.args.base.now.types c.args.declared.ty) ≡ true = search rules in
    sym (ty_eq_sound BoolTy (type_tree c.args.base.now.types c.args.declared.ty) test)
