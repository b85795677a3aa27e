use Rattle.hol_terms.specs.TermStore.{term_tree}
use Rattle.hol_terms.proofs.MemoLemmas.{without_put}
use Rattle.hol_terms.proofs.OpenLemmas.{free_here, free_left, free_right, fails}
use Rattle.hol_terms.proofs.free_in.+free_in.Goals as goal

pub node_has-returns-in-Free-clause-free : goal.node_has-returns-in-Free-clause-free
node_has-returns-in-Free-clause-free g t c =
    let s = g.S.Terms.store c.args.store.now in
    free_here s c.in-Free.ensures.apart c.args.t c.args.v c.requires.term c.requires.variable _ _ _ c.in-Free.ensures.tree c.eq.result c.eq.ensures

pub node_has-returns-then-left-clause-free : goal.node_has-returns-then-left-clause-free
node_has-returns-then-left-clause-free g t c =
    let s = g.S.Terms.store c.args.store.now in
    rw c.in-App.ensures.tree (free_left (term_tree s c.args.v) (term_tree s c.in-App.f) (term_tree s c.in-App.x) (c.in_ok-left-in-App.ensures.free.0 c.if-left.true))

pub node_has-returns-in_ok-right-in-App-clause-free : goal.node_has-returns-in_ok-right-in-App-clause-free
node_has-returns-in_ok-right-in-App-clause-free g t c =
    let s = g.S.Terms.store c.args.store.now in
    rw c.in-App.ensures.tree (free_right (term_tree s c.args.v) (term_tree s c.in-App.f) (term_tree s c.in-App.x) c.in_ok-right-in-App.right (fails c.in_ok-left-in-App.left c.if-left.false c.in_ok-left-in-App.ensures.free) c.in_ok-right-in-App.ensures.free)

pub part_has-returns-clause-seen : goal.part_has-returns-clause-seen
part_has-returns-clause-seen g t c =
    let s = g.S.Terms.store c.args.store.now in
    without_put s (term_tree s c.args.v) c.node_has.new.seen c.insert.new.self c.args.t c.in_ok-has.ensures.seen (λ q. c.in_ok-insert.ensures.updates.0 q) (fails c.in_ok-has.has c.if-has.false c.in_ok-has.ensures.free)
