use Rattle.hol_types.proofs.Places.{slice_get-right, Once-added_right, IsAdded-right}
use Rattle.hol_types.specs.Once.{kept}
use Rattle.hol_types.proofs.layer.number_in.Goals as goal

pub returns-in_ok-number-in-Some-clause-added : goal.returns-in_ok-number-in-Some-clause-added
returns-in_ok-number-in-Some-clause-added g c = kept

pub returns-in_ok-at-in-None-clause-at : goal.returns-in_ok-at-in-None-clause-at
returns-in_ok-at-in-None-clause-at g c = rw c.len-before.ensures.len (slice_get-right c.args.base.now c.add.new.self c.in_ok-at-in-None.at c.args.item c.in_ok-at-in-None.ensures.at)

pub returns-in_ok-at-in-None-clause-once : goal.returns-in_ok-at-in-None-clause-once
returns-in_ok-at-in-None-clause-once g c = Once-added_right c.args.item c.args.base.now c.args.own.now c.add.new.self c.in_ok-at-in-None.ensures.added c.requires c.in_ok-at-in-None.ensures.once c.in-None.ensures.at

pub returns-in_ok-at-in-None-clause-added : goal.returns-in_ok-at-in-None-clause-added
returns-in_ok-at-in-None-clause-added g c = IsAdded-right c.args.item c.args.base.now c.args.own.now c.add.new.self c.in_ok-at-in-None.ensures.added
