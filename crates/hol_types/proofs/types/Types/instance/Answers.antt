use Rattle.hol_types.proofs.TypeLemmas.{trees_apart}
use Rattle.hol_types.proofs.types.Types.instance.Goals as goal

pub returns-clause-trees_apart : goal.returns-clause-trees_apart
returns-clause-trees_apart c = trees_apart _ c.instance_in.ensures.lawful
