use Rattle.std.proofs.Common.{subst, ◌≡◌, length, ◌+◌, arith}
use Rattle.hol_types.proofs.Places.{Absent-right, push_at}
use Rattle.hol_terms.specs.TermStore.{joined, IsTermStore, GrowsTo}
use Rattle.hol_terms.specs.contracts.tables.TermTables.{the_view}
use Rattle.hol_terms.proofs.TermLemmas.{pushed-joined, IsTermStore-pushed, GrowsTo-pushed}
use Rattle.hol_terms.proofs.tables.add_in.Goals as goal

pub push-requires : goal.push-requires
push-requires c =
    let absent = rw (← c.base.view_is, ← c.own.view_is) at c.requires.absent in
    Absent-right c.base.inside.nodes c.own.inside.nodes c.args.node absent

pub returns-clause-node : goal.returns-clause-node
returns-clause-node c =
    let e : c.in_ok-at.at ≡ length c.base.inside.nodes + length c.own.inside.nodes = omega (arith, c.in_ok-at.ensures, c.len.ensures.len, c.len-2.ensures.len) in
    rw (← c.base.view_is, c.new.ensures) (push_at c.base.inside.nodes c.own.inside.nodes c.push.new.self c.args.node c.in_ok-at.at c.in_ok-push.ensures.ok e)

pub returns-clause-grows : goal.returns-clause-grows
returns-clause-grows c =
    let s = joined (the_view c.base.inside) (the_view c.own.inside) in
    rw (← c.base.view_is, ← c.own.view_is, c.in_ok-push.ensures.ok, c.push_reserved.ensures.items, c.push_reserved-2.ensures.items, c.in_ok-reserve.ensures.items, c.in_ok-reserve-2.ensures.items)
    (subst (λ u. GrowsTo s u) (pushed-joined (the_view c.base.inside) (the_view c.own.inside) c.args.node c.args.ty c.args.reach) (GrowsTo-pushed s c.args.node c.args.ty c.args.reach))

pub returns-clause-lawful : goal.returns-clause-lawful
returns-clause-lawful c =
    let s = joined (the_view c.base.inside) (the_view c.own.inside) in
    let is = rw (← c.base.view_is, ← c.own.view_is) at c.requires.lawful in
    let absent = rw (← c.base.view_is, ← c.own.view_is) at c.requires.absent in
    let parts = rw (← c.base.view_is, ← c.own.view_is) at c.requires.parts in
    let typed = rw (← c.base.view_is, ← c.own.view_is) at c.requires.typed in
    let there = rw (← c.base.view_is, ← c.own.view_is) at c.requires.there in
    let fits = rw (← c.base.view_is, ← c.own.view_is) at c.requires.fits in
    let reaches = rw (← c.base.view_is, ← c.own.view_is) at c.requires.reaches in
    rw (← c.base.view_is, c.in_ok-push.ensures.ok, c.push_reserved.ensures.items, c.push_reserved-2.ensures.items, c.in_ok-reserve.ensures.items, c.in_ok-reserve-2.ensures.items)
    (subst (λ u. IsTermStore u) (pushed-joined (the_view c.base.inside) (the_view c.own.inside) c.args.node c.args.ty c.args.reach) (IsTermStore-pushed s is c.args.node c.args.ty c.args.reach absent parts typed there fits reaches))
