use Rattle.hol_terms.proofs.TermLemmas.{term_tree-step, term_tree-injective}
use Rattle.hol_terms.proofs.tables.known_node_in.Goals as goal

pub returns-clause-tree : goal.returns-clause-tree
returns-clause-tree c = term_tree-step _ c.requires.lawful.shape c.args.t c.node_in.result c.node_in.ensures

pub returns-clause-parts : goal.returns-clause-parts
returns-clause-parts c = c.requires.lawful.shape.parts c.args.t c.node_in.result c.node_in.ensures

pub returns-clause-apart : goal.returns-clause-apart
returns-clause-apart c = term_tree-injective _ c.requires.lawful.shape
