use Rattle.hol_terms.specs.TermStore.{joined}
use Rattle.hol_terms.specs.contracts.tables.TermTables.{the_view}
use Rattle.hol_terms.proofs.TermLemmas.{GrowsTo-types, IsTermStore-types, Keeps-from_grows}
use Rattle.hol_terms.proofs.type_tables.instance_part_in.Goals as goal

pub returns-clause-lawful : goal.returns-clause-lawful
returns-clause-lawful c =
    let is = rw (← c.base.view_is, ← c.own.view_is) at c.requires.lawful in
    rw (← c.base.view_is) (IsTermStore-types (joined (the_view c.base.inside) (the_view c.own.inside)) is _ c.instance_part.ensures.lawful c.instance_part.ensures.keeps)

pub returns-clause-keeps : goal.returns-clause-keeps
returns-clause-keeps c =
    let is = rw (← c.base.view_is, ← c.own.view_is) at c.requires.lawful in
    rw (← c.base.view_is, ← c.own.view_is) (Keeps-from_grows _ _ is.shape (GrowsTo-types (joined (the_view c.base.inside) (the_view c.own.inside)) is _ c.instance_part.ensures.lawful c.instance_part.ensures.keeps))
