use Rattle.std.proofs.Common.{◌∙◌}
use Rattle.hol_types.specs.TypeStore.{type_tree}
use Rattle.hol_types.specs.TypeSubst.{variables_of}
use Rattle.goal_text.proofs.MatchLemmas.{ground_covers}
use Rattle.goal_text.proofs.matching.is_ground.Goals as goal

pub returns : goal.returns
returns c = c.covers.ensures ∙ ground_covers (variables_of (type_tree c.args.base.now.types c.args.t))
