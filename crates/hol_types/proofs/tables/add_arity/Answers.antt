use Rattle.std.proofs.Common.{◌∙◌}
use Rattle.indexmap.proofs.CallerLemmas.{insert_entry-new}
use Rattle.hol_types.proofs.tables.add_arity.Goals as goal

pub returns-clause-ok : goal.returns-clause-ok
returns-clause-ok c =
    let none = rw (← c.own.view_is) at c.requires in
    let e = c.in_ok-insert.ensures.entries ∙ insert_entry-new _ c.own.inside.arities c.args.n c.args.arity none in
    rw (← c.own.view_is) (λ i. record { names = c.own.inside.names; arities = e i; nodes = c.own.inside.nodes })
