use Rattle.std.proofs.Common.{sym}
use Rattle.hol_types.specs.Matching.{new}
use Rattle.hol_types.proofs.MatchLemmas.{given_before}
use Rattle.hol_types.proofs.matching.match_variable.Goals as goal

pub returns-in-Some : goal.returns-in-Some
returns-in-Some c = given_before c.args.n c.args.t c.in-Some.u c.args.found.now.items (rw c.as_slice.ensures.value at (sym c.in-Some.ensures)) c.eq.result c.eq.ensures

pub returns-in_ok-push-in-None : goal.returns-in_ok-push-in-None
returns-in_ok-push-in-None c = rw c.in_ok-push-in-None.ensures.items (new (rw c.as_slice.ensures.value at (sym c.in-None.ensures)))
