use Rattle.hol_types.proofs.TypeLemmas.{type_tree-step, type_tree-injective}
use Rattle.hol_terms.proofs.type_tables.type_node_in.Goals as goal

pub returns-clause-tree : goal.returns-clause-tree
returns-clause-tree c =
    let is = rw (← c.base.view_is, ← c.own.view_is) at c.requires.lawful in
    rw (← c.base.view_is, ← c.own.view_is) (type_tree-step _ is.shape.types c.args.t c.node_in.result.now c.node_in.ensures)

pub returns-clause-parts : goal.returns-clause-parts
returns-clause-parts c =
    let is = rw (← c.base.view_is, ← c.own.view_is) at c.requires.lawful in
    rw (← c.base.view_is, ← c.own.view_is) (is.shape.types.parts c.args.t c.node_in.result.now c.node_in.ensures)

pub returns-clause-arity : goal.returns-clause-arity
returns-clause-arity c =
    let is = rw (← c.base.view_is, ← c.own.view_is) at c.requires.lawful in
    rw (← c.base.view_is, ← c.own.view_is) (is.shape.types.arities c.args.t c.node_in.result.now c.node_in.ensures)

pub returns-clause-apart : goal.returns-clause-apart
returns-clause-apart c = type_tree-injective _ c.requires.lawful.shape.types
