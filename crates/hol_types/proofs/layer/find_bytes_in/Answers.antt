use Rattle.std.proofs.Common.{rules}
use Rattle.hol_types.proofs.Places.{slice_get-left, slice_get-right, Absent-join}
use Rattle.hol_types.proofs.layer.find_bytes_in.Goals as goal

pub returns-in-Some : goal.returns-in-Some
returns-in-Some c = search (rules, slice_get-left)

pub returns-in-Some-find_bytes : goal.returns-in-Some-find_bytes
returns-in-Some-find_bytes c = rw c.len-before.ensures.len (slice_get-right c.args.base.now c.args.own.now c.in-Some-find_bytes.at c.args.bytes.now c.in-Some-find_bytes.ensures.at)

pub returns-in-None-find_bytes : goal.returns-in-None-find_bytes
returns-in-None-find_bytes c = Absent-join c.args.base.now c.args.own.now c.args.bytes.now c.in-None.ensures.at c.in-None-find_bytes.ensures.at
