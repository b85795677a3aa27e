use Rattle.std.proofs.Common.{arith}
use Rattle.hol_types.specs.TypeStore.{HasType, joined}
use Rattle.hol_types.specs.Pairs.{IsPair}
use Rattle.hol_types.proofs.ListLemmas.{all_added}
use Rattle.hol_types.proofs.PairLemmas.{pair_left, pair_right}
use Rattle.hol_types.proofs.pairs.add_sides.Goals as goal

pub returns-in_ok-add_pair-in-Some-2 : goal.returns-in_ok-add_pair-in-Some-2
returns-in_ok-add_pair-in-Some-2 c = λ pattern type is all.
    let s = joined c.args.base.now c.args.own.now in
    let p = rw c.in-Fun.is at c.known_node_in.ensures.parts in
    let e = rw c.in-Fun.is at c.known_node_in.ensures.tree in
    let has_a : HasType s c.in-Fun.a = omega arith in
    let has_b : HasType s c.in-Fun.b = omega arith in
    let there = c.in-Some.ensures.there in
    let left = pair_left s pattern type c.args.part c.args.t c.in-Fun.a c.in-Fun.b _ _ is e c.in-Some.ensures.sides has_a there.0 in
    let right = pair_right s pattern type c.args.part c.args.t c.in-Fun.a c.in-Fun.b _ _ is e c.in-Some.ensures.sides has_b there.1 in
    all_added (IsPair s pattern type) _ _ _ c.in_ok-add_pair-in-Some-2.ensures right (all_added (IsPair s pattern type) _ _ _ c.in_ok-add_pair-in-Some.ensures left all)
