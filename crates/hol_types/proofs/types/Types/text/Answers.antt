use Rattle.hol_types.proofs.TypeLemmas.{names_apart}
use Rattle.hol_types.proofs.types.Types.text.Goals as goal

pub returns-clause-names_apart : goal.returns-clause-names_apart
returns-clause-names_apart c = rw (← c.self.view_is) (names_apart _ c.self.invariant)
