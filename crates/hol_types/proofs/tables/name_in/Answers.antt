use Rattle.hol_types.proofs.TypeLemmas.{names_apart, Grows-named, IsTypeStore-named}
use Rattle.hol_types.proofs.KeepsLemmas.{keeps_types_grown}
use Rattle.hol_types.specs.contracts.tables.TypeTables.{the_view}
use Rattle.hol_types.proofs.tables.name_in.Goals as goal

pub returns-clause-grows : goal.returns-clause-grows
returns-clause-grows c =
    let is = rw (← c.base.view_is, ← c.own.view_is) at c.requires in
    rw (← c.base.view_is, ← c.own.view_is) (Grows-named (the_view c.base.inside) (the_view c.own.inside) is c.number_of_bytes.new.own c.in_ok-n.ensures.once _ c.in_ok-n.ensures.added)

pub returns-clause-lawful : goal.returns-clause-lawful
returns-clause-lawful c =
    let is = rw (← c.base.view_is, ← c.own.view_is) at c.requires in
    rw (← c.base.view_is) (IsTypeStore-named (the_view c.base.inside) (the_view c.own.inside) is c.number_of_bytes.new.own c.in_ok-n.ensures.once _ c.in_ok-n.ensures.added)

pub returns-clause-keeps : goal.returns-clause-keeps
returns-clause-keeps c = keeps_types_grown _ _ c.requires (returns-clause-grows c)

pub returns-clause-apart : goal.returns-clause-apart
returns-clause-apart c = names_apart _ (returns-clause-lawful c)
