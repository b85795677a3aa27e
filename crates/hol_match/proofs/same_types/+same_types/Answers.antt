use Rattle.std.proofs.Common.{◌≡◌, ◌∙◌, ◌<◌, sym, refl, length, arith, rules}
use Rattle.std.specs.List.{AllByRecursion}
use Rattle.hol_match.proofs.TypeLemmas.{all_same, count_differs, known_type, next_differs, next_same, same_put}
use Rattle.hol_match.proofs.MatchLemmas.{refutes}
use Rattle.hol_match.proofs.same_types.+same_types.Goals as goal

pub is_same_type-returns-in-Some-clause-same : goal.is_same_type-returns-in-Some-clause-same
is_same_type-returns-in-Some-clause-same g t c =
    let p = g.P.Terms.store c.args.patterns.now in
    let s = g.S.Terms.store c.args.terms.now in
    let k = c.requires.known.each c.args.a c.in-Some.u (sym c.get.ensures.value ∙ sym c.in-Some.ensures) in
    rw c.eq.ensures (known_type p.types s.types c.type_node-apart.ensures.types_apart c.args.a c.in-Some.u c.args.t k c.requires.term)

pub is_same_type-returns-then-same-clause-known : goal.is_same_type-returns-then-same-clause-known
is_same_type-returns-then-same-clause-known g t c =
    let p = g.P.Terms.store c.args.patterns.now in
    let s = g.S.Terms.store c.args.terms.now in
    same_put p.types s.types c.is_same_node.new.known c.insert.new.self c.args.a c.args.t c.in_ok-same-in-None.ensures.known (λ q. c.in_ok-insert-in-None.ensures.updates.0 q) c.requires.pattern c.requires.term (c.in_ok-same-in-None.ensures.same.0 c.if-same.true)

pub are_same_types-loop-i-preserved : goal.are_same_types-loop-i-preserved
are_same_types-loop-i-preserved g t c =
    let p = (g.P.Terms.store c.args.patterns.now).types in
    let s = (g.S.Terms.store c.args.terms.now).types in
    record {
      first = next_same p s c.args.ps.now c.args.ts.now c.loop-i.i c.index-ps-i.result c.index-ts-i.result c.loop-i-test.true c.requires.count c.index-ps-i.is c.index-ts-i.is c.loop-i.invariant.first (c.in_ok-same.ensures.same.0 c.if-not-same.false);
      known = c.in_ok-same.ensures.known;
    }

pub are_same_types-returns-then-not-same-clause-same : goal.are_same_types-returns-then-not-same-clause-same
are_same_types-returns-then-not-same-clause-same g t c =
    let p = (g.P.Terms.store c.args.patterns.now).types in
    let s = (g.S.Terms.store c.args.terms.now).types in
    next_differs p s c.args.ps.now c.args.ts.now c.loop-i.i c.index-ps-i.result c.index-ts-i.result c.loop-i-test.true c.requires.count c.index-ps-i.is c.index-ts-i.is (refutes c.if-not-same.true c.in_ok-same.ensures.same)

pub are_same_types-returns-clause-same : goal.are_same_types-returns-clause-same
are_same_types-returns-clause-same g t c =
    let p = (g.P.Terms.store c.args.patterns.now).types in
    let s = (g.S.Terms.store c.args.terms.now).types in
    let e : c.loop-i.i ≡ length c.args.ps.now = omega arith in
    ((λ h. all_same p s c.args.ps.now c.args.ts.now c.requires.count (rw e at c.loop-i.invariant.first)), (λ h. refl))

pub is_same_node-returns-then-len-other-clause-same : goal.is_same_node-returns-then-len-other-clause-same
is_same_node-returns-then-len-other-clause-same g t c =
    let p = (g.P.Terms.store c.args.patterns.now).types in
    let s = (g.S.Terms.store c.args.terms.now).types in
    let tree = rw c.in-Cons.is at c.type_node.ensures.tree in
    count_differs p s _ _ _ _ c.in-Cons.ps c.in-Some-constructor.other.1.now tree c.in-Some-constructor.ensures.tree (λ e. c.if-len-other.true (c.len.ensures ∙ e))

pub is_same_node-are_same_types-requires : goal.is_same_node-are_same_types-requires
is_same_node-are_same_types-requires g t c =
    let parts = rw c.in-Cons.is at c.type_node.ensures.parts in
    let below : AllByRecursion (λ u. u < c.args.a) c.as_slice.result.now = rw c.as_slice.ensures parts.1 in
    let same : length c.in-Cons.ps ≡ length c.in-Some-constructor.other.1.now = sym c.len.ensures ∙ c.if-len-other.false in
    let count : length c.as_slice.result.now ≡ length c.in-Some-constructor.other.1.now = rw c.as_slice.ensures same in
    let there = c.in-Some-constructor.ensures.there in
    search rules
