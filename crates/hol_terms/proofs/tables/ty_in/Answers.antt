use Rattle.hol_types.proofs.TypeLemmas.{type_tree-injective}
use Rattle.hol_terms.proofs.tables.ty_in.Goals as goal

pub returns-clause-types_apart : goal.returns-clause-types_apart
returns-clause-types_apart c = type_tree-injective _ c.requires.lawful.shape.types
