use Rattle.std.proofs.Common.{refl}
use Rattle.std.proofs.lemmas.Option.{slice_get_within}
use Rattle.hol_types.proofs.TypeLemmas.{trees_apart, Grows-interned, IsTypeStore-interned, interned_tree}
use Rattle.hol_types.proofs.KeepsLemmas.{keeps_types_grown}
use Rattle.hol_types.specs.contracts.tables.TypeTables.{the_view}
use Rattle.hol_types.proofs.tables.intern_in.Goals as goal

pub returns-clause-grows : goal.returns-clause-grows
returns-clause-grows c =
    let is = rw (← c.base.view_is, ← c.own.view_is) at c.requires.lawful in
    rw (← c.base.view_is, ← c.own.view_is) (Grows-interned (the_view c.base.inside) (the_view c.own.inside) is c.number_in.new.own c.in_ok-t.ensures.once _ c.in_ok-t.ensures.added)

pub returns-clause-lawful : goal.returns-clause-lawful
returns-clause-lawful c =
    let is = rw (← c.base.view_is, ← c.own.view_is) at c.requires.lawful in
    let parts = rw (← c.base.view_is, ← c.own.view_is) at c.requires.parts in
    let arity = rw (← c.base.view_is, ← c.own.view_is) at (c.if-not-has_arity.ensures.0 refl) in
    rw (← c.base.view_is) (IsTypeStore-interned (the_view c.base.inside) (the_view c.own.inside) is c.number_in.new.own c.in_ok-t.ensures.once _ c.in_ok-t.ensures.added parts arity)

pub returns-clause-tree : goal.returns-clause-tree
returns-clause-tree c =
    let is = rw (← c.base.view_is, ← c.own.view_is) at c.requires.lawful in
    let parts = rw (← c.base.view_is, ← c.own.view_is) at c.requires.parts in
    let arity = rw (← c.base.view_is, ← c.own.view_is) at (c.if-not-has_arity.ensures.0 refl) in
    let lawful = IsTypeStore-interned (the_view c.base.inside) (the_view c.own.inside) is c.number_in.new.own c.in_ok-t.ensures.once _ c.in_ok-t.ensures.added parts arity in
    let grows = Grows-interned (the_view c.base.inside) (the_view c.own.inside) is c.number_in.new.own c.in_ok-t.ensures.once _ c.in_ok-t.ensures.added in
    rw (← c.base.view_is, ← c.own.view_is, c.new.ensures) (interned_tree _ _ is lawful grows c.args.node parts c.in_ok-t.t c.in_ok-t.ensures.at)

pub returns-clause-keeps : goal.returns-clause-keeps
returns-clause-keeps c = keeps_types_grown _ _ c.requires.lawful (returns-clause-grows c)

pub returns-clause-apart : goal.returns-clause-apart
returns-clause-apart c = trees_apart _ (returns-clause-lawful c)

pub returns-then-not-has_arity-clause-apart : goal.returns-then-not-has_arity-clause-apart
returns-then-not-has_arity-clause-apart c = trees_apart _ c.requires.lawful

pub returns-in_err-t-clause-apart : goal.returns-in_err-t-clause-apart
returns-in_err-t-clause-apart c =
    let is = rw (← c.base.view_is, ← c.own.view_is) at c.requires.lawful in
    rw (← c.base.view_is, c.in_err-t.ensures.err) (trees_apart _ is)

pub returns-clause-there : goal.returns-clause-there
returns-clause-there c = rw (← c.base.view_is, c.new.ensures) (slice_get_within _ _ _ c.in_ok-t.ensures.at)

pub returns-in_err-reserve-clause-apart : goal.returns-in_err-reserve-clause-apart
returns-in_err-reserve-clause-apart c = let is = rw (← c.own.view_is) at c.requires.lawful in trees_apart _ is
