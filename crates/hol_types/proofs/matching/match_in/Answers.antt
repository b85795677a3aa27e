use Rattle.hol_types.proofs.MatchLemmas.{least_when, never_from_none, none_of, refused_when}
use Rattle.hol_types.proofs.PairLemmas.{least_ahead, none_ahead}
use Rattle.hol_types.proofs.matching.match_in.Goals as goal

pub returns-then-not-may-clause-none : goal.returns-then-not-may-clause-none
returns-then-not-may-clause-none c =
    let nothing = rw c.in_ok-found.ensures.items at (c.in_ok-may.ensures.refused c.if-not-may.true) in
    λ _. never_from_none _ _ _ nothing

pub returns-then-matched-clause-least : goal.returns-then-matched-clause-least
returns-then-matched-clause-least c =
    let ahead = rw c.in_ok-found.ensures.items at (c.in_ok-may.ensures.ahead c.if-not-may.false) in
    rw c.new.ensures (least_ahead _ _ _ _ _ ahead (least_when c.if-matched.true c.in_ok-matched.ensures.answer))

pub returns-clause-none : goal.returns-clause-none
returns-clause-none c =
    let ahead = rw c.in_ok-found.ensures.items at (c.in_ok-may.ensures.ahead c.if-not-may.false) in
    λ _. never_from_none _ _ _ (none_ahead _ _ _ _ ahead (none_of (refused_when c.if-matched.false c.in_ok-matched.ensures.answer)))
