use Rattle.hol_types.proofs.TypeLemmas.{trees_apart, type_tree-step}
use Rattle.hol_types.proofs.tables.known_node_in.Goals as goal

pub returns-clause-tree : goal.returns-clause-tree
returns-clause-tree c = type_tree-step _ c.requires.lawful c.args.t c.node_in.result.now c.node_in.ensures

pub returns-clause-parts : goal.returns-clause-parts
returns-clause-parts c = c.requires.lawful.parts c.args.t c.node_in.result.now c.node_in.ensures

pub returns-clause-arity : goal.returns-clause-arity
returns-clause-arity c = c.requires.lawful.arities c.args.t c.node_in.result.now c.node_in.ensures

pub returns-clause-apart : goal.returns-clause-apart
returns-clause-apart c = trees_apart _ c.requires.lawful
