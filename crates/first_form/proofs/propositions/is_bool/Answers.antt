use Rattle.std.proofs.Common.{◌∙◌, sym, ap}
use Rattle.hol_types.specs.Ty.{BoolTy}
use Rattle.hol_types.specs.TyEq.{ty_eq}
use Rattle.goal_text.proofs.OperationLemmas.{is_bool_node, is_bool_type}
use Rattle.first_form.proofs.propositions.is_bool.Goals as goal

pub returns-in-Bool : goal.returns-in-Bool
returns-in-Bool c = sym (ap (ty_eq BoolTy) c.type_node.ensures.tree ∙ is_bool_node c.args.base.now.types c.type_node.result.now ∙ ap is_bool_type c.in-Bool.is)

pub returns-in-Int : goal.returns-in-Int
returns-in-Int c = sym (ap (ty_eq BoolTy) c.type_node.ensures.tree ∙ is_bool_node c.args.base.now.types c.type_node.result.now ∙ ap is_bool_type c.in-Int.is)

pub returns-in-Var : goal.returns-in-Var
returns-in-Var c = sym (ap (ty_eq BoolTy) c.type_node.ensures.tree ∙ is_bool_node c.args.base.now.types c.type_node.result.now ∙ ap is_bool_type c.in-Var.is)

pub returns-in-Fun : goal.returns-in-Fun
returns-in-Fun c = sym (ap (ty_eq BoolTy) c.type_node.ensures.tree ∙ is_bool_node c.args.base.now.types c.type_node.result.now ∙ ap is_bool_type c.in-Fun.is)

pub returns-in-Cons : goal.returns-in-Cons
returns-in-Cons c = sym (ap (ty_eq BoolTy) c.type_node.ensures.tree ∙ is_bool_node c.args.base.now.types c.type_node.result.now ∙ ap is_bool_type c.in-Cons.is)
