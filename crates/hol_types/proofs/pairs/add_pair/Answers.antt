use Rattle.hol_types.specs.Once.{kept, pushed}
use Rattle.hol_types.proofs.pairs.add_pair.Goals as goal

pub returns-then-fresh : goal.returns-then-fresh
returns-then-fresh c = rw c.in_ok-push.ensures.items pushed

pub returns : goal.returns
returns c = kept
