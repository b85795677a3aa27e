use Rattle.std.proofs.Common.{◌∙◌}
use Rattle.hol_types.specs.Ty.{FunTy}
use Rattle.hol_types.specs.TypeStore.{type_tree}
use Rattle.hol_terms.specs.TermStore.{joined}
use Rattle.hol_terms.proofs.typed.lambda_type_in.Goals as goal

pub returns-clause-tree : goal.returns-clause-tree
returns-clause-tree c = c.in_ok-u.ensures.tree ∙ (λ i. FunTy (type_tree (joined c.args.base.now c.args.own.now).types c.args.t) (c.ty_in-to.ensures.ty i))
