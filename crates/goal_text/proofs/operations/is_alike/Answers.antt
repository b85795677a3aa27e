use Rattle.goal_text.proofs.OperationLemmas.{same_types}
use Rattle.goal_text.proofs.operations.is_alike.Goals as goal

pub returns : goal.returns
returns c = same_types c.args.base.now.types c.ty.ensures.types_apart c.ty.result c.ty-2.result c.ty.ensures.there c.ty-2.ensures.there _ _ c.ty.ensures.ty c.ty-2.ensures.ty c.eq.result c.eq.ensures
