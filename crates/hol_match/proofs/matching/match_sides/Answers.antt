use Rattle.hol_match.proofs.MatchLemmas.{matched_when, refused_when, whole_instance, whole_is, whole_none, whole_types}
use Rattle.hol_match.proofs.matching.match_sides.Goals as goal

pub returns-then-matched-clause-is : goal.returns-then-matched-clause-is
returns-then-matched-clause-is g c =
    let answer = rw c.new-3.ensures at c.in_ok-matched.ensures.answer in
    whole_is _ _ c.args.pattern c.args.term c.match_part.new.progress.found c.in_ok-matched.ensures.progress.found (matched_when c.if-matched.true answer)

pub returns-then-matched-clause-types : goal.returns-then-matched-clause-types
returns-then-matched-clause-types g c =
    let answer = rw c.new-3.ensures at c.in_ok-matched.ensures.answer in
    whole_types _ _ c.args.pattern c.args.term c.match_part.new.progress.found c.in_ok-matched.ensures.progress.found (matched_when c.if-matched.true answer)

pub returns-then-matched-clause-exactly : goal.returns-then-matched-clause-exactly
returns-then-matched-clause-exactly g c =
    let answer = rw c.new-3.ensures at c.in_ok-matched.ensures.answer in
    whole_instance _ _ c.args.pattern c.args.term c.match_part.new.progress.found c.in_ok-matched.ensures.progress.found (matched_when c.if-matched.true answer)

pub returns-clause-exactly : goal.returns-clause-exactly
returns-clause-exactly g c =
    let answer = rw c.new-3.ensures at c.in_ok-matched.ensures.answer in
    whole_none _ _ (refused_when c.if-matched.false answer)
