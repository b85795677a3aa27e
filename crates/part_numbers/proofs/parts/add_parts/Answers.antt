use Rattle.std.proofs.Common.{◌≡◌, ◌<◌, [], ◌∷◌, length, sym, subst, ◌∙◌}
use Rattle.std.proofs.lemmas.List.{nil_from_length}
use Rattle.part_numbers.specs.Walk.{IsWalk, ahead}
use Rattle.part_numbers.proofs.WalkLemmas.{walk_start, walk_end, walk_next, walk_skipped, walk_added, first_pushed, shorter_skip, shorter_add}
use Rattle.part_numbers.proofs.parts.add_parts.Goals as goal

pub loop-next-init : goal.loop-next-init
loop-next-init g c =
    let s = g.S.Terms.store c.args.store.now in
    let e : c.push.new.self.items ≡ c.args.t ∷ [] = first_pushed c.in_ok-push.ensures.items c.new-stack.ensures.items in
    subst (λ m. IsWalk s c.args.parts.now.keys c.args.t c.args.parts.now.keys m) (sym e) (walk_start s c.args.parts.now.keys c.args.t c.requires.term c.requires.there c.requires.covered)

pub node-node-requires : goal.node-node-requires
node-node-requires g c = walk_next (g.S.Terms.store c.args.store.now) c.args.parts.now.keys c.args.t c.loop-next.parts.keys c.loop-next.stack.items c.pop.new.self.items c.in-Some.next c.in-Some.ensures.items c.loop-next.invariant

pub push_beneath-requires : goal.push_beneath-requires
push_beneath-requires g c = walk_next (g.S.Terms.store c.args.store.now) c.args.parts.now.keys c.args.t c.loop-next.parts.keys c.loop-next.stack.items c.pop.new.self.items c.in-Some.next c.in-Some.ensures.items c.loop-next.invariant

pub loop-next-smaller-in-Continue-branch-3 : goal.loop-next-smaller-in-Continue-branch-3
loop-next-smaller-in-Continue-branch-3 g c =
    let s = g.S.Terms.store c.args.store.now in
    subst (λ m. length (ahead s c.push_beneath.new.stack.items) < length (ahead s m)) (sym c.in-Some.ensures.items) (shorter_add s c.pop.new.self.items c.push_beneath.new.stack.items c.in-Some.next c.in_ok-push_beneath.ensures)

pub loop-next-preserved-in-Continue-branch-3 : goal.loop-next-preserved-in-Continue-branch-3
loop-next-preserved-in-Continue-branch-3 g c =
    walk_added (g.S.Terms.store c.args.store.now) c.args.parts.now.keys c.args.t c.loop-next.parts.keys c.loop-next.stack.items c.pop.new.self.items c.in-Some.next c.in-Some.ensures.items c.loop-next.invariant c.insert_full.new.self.keys c.in_ok-fresh.ensures.keys c.in_ok-fresh.fresh c.in_ok-fresh.ensures.added c.node-node.ensures.apart c.push_beneath.new.stack.items c.if-fresh.true c.in_ok-push_beneath.ensures

pub loop-next-smaller : goal.loop-next-smaller
loop-next-smaller g c =
    let s = g.S.Terms.store c.args.store.now in
    subst (λ m. length (ahead s c.pop.new.self.items) < length (ahead s m)) (sym c.in-Some.ensures.items) (shorter_skip s c.pop.new.self.items c.in-Some.next)

pub loop-next-preserved : goal.loop-next-preserved
loop-next-preserved g c =
    walk_skipped (g.S.Terms.store c.args.store.now) c.args.parts.now.keys c.args.t c.loop-next.parts.keys c.loop-next.stack.items c.pop.new.self.items c.in-Some.next c.in-Some.ensures.items c.loop-next.invariant c.insert_full.new.self.keys c.in_ok-fresh.ensures.keys c.in_ok-fresh.fresh c.in_ok-fresh.ensures.added c.if-fresh.false

pub returns-clause-covered : goal.returns-clause-covered
returns-clause-covered g c =
    let s = g.S.Terms.store c.args.store.now in
    (walk_end s c.args.parts.now.keys c.args.t c.loop-next.parts.keys (subst (λ m. IsWalk s c.args.parts.now.keys c.args.t c.loop-next.parts.keys m) (nil_from_length c.loop-next.stack.items (sym c.loop-next.stack.ok.0 ∙ c.in_default.ensures.cases.0)) c.loop-next.invariant)).1

pub returns-clause-parts : goal.returns-clause-parts
returns-clause-parts g c =
    let s = g.S.Terms.store c.args.store.now in
    (walk_end s c.args.parts.now.keys c.args.t c.loop-next.parts.keys (subst (λ m. IsWalk s c.args.parts.now.keys c.args.t c.loop-next.parts.keys m) (nil_from_length c.loop-next.stack.items (sym c.loop-next.stack.ok.0 ∙ c.in_default.ensures.cases.0)) c.loop-next.invariant)).0
