use Rattle.hol_types.proofs.TypeLemmas.{names_apart}
use Rattle.hol_terms.proofs.type_tables.text_in.Goals as goal

pub returns-clause-apart : goal.returns-clause-apart
returns-clause-apart c = names_apart _ c.requires.lawful.shape.types
