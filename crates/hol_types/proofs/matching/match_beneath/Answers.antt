use Rattle.hol_types.specs.TypeStore.{joined, type_tree}
use Rattle.hol_types.specs.TypeMatch.{Matches}
use Rattle.hol_types.specs.Pairs.{IsPair}
use Rattle.hol_types.proofs.ListLemmas.{item_there}
use Rattle.hol_types.proofs.MatchLemmas.{least_when, refused_when, none_of}
use Rattle.hol_types.proofs.PairLemmas.{ahead_start, ahead_more, ahead_none}
use Rattle.hol_types.proofs.matching.match_beneath.Goals as goal

pub loop-pair-init : goal.loop-pair-init
loop-pair-init c = record { ahead = ahead_start _ _ _; found = c.requires.found; once = λ h. h; done = c.requires.done }

pub match_part-requires : goal.match_part-requires
match_part-requires c =
    let s = joined c.args.base.now c.args.own.now in
    let P = IsPair s (type_tree s c.args.pattern) (type_tree s c.args.t) in
    let item = item_there P c.in_ok-pairs.pairs.items c.as_slice-pair-items.result.now c.as_slice-pair-items.ensures.value c.in_ok-pairs.ensures c.loop-pair.pair-index c.pair-item.result c.loop-pair-test.true c.pair-item.is in
    let inv = c.loop-pair.invariant in
    record { lawful = c.requires.lawful; pattern = item.part; there = item.there; found = inv.found; done = inv.done }

pub loop-pair-preserved : goal.loop-pair-preserved
loop-pair-preserved c =
    let s = joined c.args.base.now c.args.own.now in
    let P = IsPair s (type_tree s c.args.pattern) (type_tree s c.args.t) in
    let item = item_there P c.in_ok-pairs.pairs.items c.as_slice-pair-items.result.now c.as_slice-pair-items.ensures.value c.in_ok-pairs.ensures c.loop-pair.pair-index c.pair-item.result c.loop-pair-test.true c.pair-item.is in
    let inv = c.loop-pair.invariant in
    let now = c.in_ok-matched.ensures in
    record {
      ahead = ahead_more (type_tree s c.args.pattern) (type_tree s c.args.t) (Matches (type_tree s c.pair-item.result.0) (type_tree s c.pair-item.result.1)) _ _ _ item.needed inv.ahead (least_when c.if-not-matched.false now.answer);
      found = now.found;
      once = λ h. now.once (inv.once h);
      done = now.done;
    }

pub returns-then-not-matched-clause-refused : goal.returns-then-not-matched-clause-refused
returns-then-not-matched-clause-refused c =
    let s = joined c.args.base.now c.args.own.now in
    let P = IsPair s (type_tree s c.args.pattern) (type_tree s c.args.t) in
    let item = item_there P c.in_ok-pairs.pairs.items c.as_slice-pair-items.result.now c.as_slice-pair-items.ensures.value c.in_ok-pairs.ensures c.loop-pair.pair-index c.pair-item.result c.loop-pair-test.true c.pair-item.is in
    let inv = c.loop-pair.invariant in
    λ _. ahead_none (type_tree s c.args.pattern) (type_tree s c.args.t) (Matches (type_tree s c.pair-item.result.0) (type_tree s c.pair-item.result.1)) _ _ item.needed inv.ahead (none_of (refused_when c.if-not-matched.true c.in_ok-matched.ensures.answer))

pub returns-then-not-matched-clause-once : goal.returns-then-not-matched-clause-once
returns-then-not-matched-clause-once c = λ h. c.in_ok-matched.ensures.once (c.loop-pair.invariant.once h)
