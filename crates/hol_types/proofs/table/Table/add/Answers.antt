use Rattle.hol_types.proofs.OnceLemmas.{Once-from_distinct, inserted}
use Rattle.hol_types.proofs.Places.{added_within}
use Rattle.hol_types.proofs.table.Table.add.Goals as goal

pub returns-clause-at : goal.returns-clause-at
returns-clause-at g c =
    let k = c.in_ok-added.ensures.stored in
    let e = g.met.T.Exact.exact c.args.item k.0 k.2 in
    rw e k.1

pub returns-clause-added : goal.returns-clause-added
returns-clause-added g c = rw (← c.self.view_is) (inserted g.T.PartialEq.eq g.met.T.Eq.laws g.met.T.Exact.exact _ _ c.args.item c.in_ok-added.ensures.keys)

pub returns-clause-within : goal.returns-clause-within
returns-clause-within g c = added_within c.args.item c.args.self.now _ (returns-clause-added g c) _ _ (returns-clause-at g c)

pub returns-clause-once : goal.returns-clause-once
returns-clause-once g c = Once-from_distinct g.T.PartialEq.eq g.met.T.Eq.laws _ c.in_ok-added.ensures.unique
