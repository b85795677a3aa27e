use Rattle.std.proofs.Common.{sym, arith}
use Rattle.hol_types.specs.TypeStore.{type_tree, trees_at}
use Rattle.hol_types.specs.TypeSubst.{variables_of, variables_of_all}
use Rattle.hol_formulas.proofs.ListLemmas.{In-from_Contains}
use Rattle.hol_formulas.proofs.TypesFoundLemmas.{types_kept, types_put, finds_variable, adds_variable, adds_then, finds_both, adds_both, in_all, from_all, found_more, found_all}
use Rattle.hol_formulas.proofs.type_variables.+types.Goals as goal

pub find_in_type-returns-clause-seen : goal.find_in_type-returns-clause-seen
find_in_type-returns-clause-seen g t c =
    types_put (g.S.Terms.store c.args.store.now).types c.find_in_type_node.new.found.items c.find_in_type_node.new.seen c.insert.new.self c.args.t c.in_ok-find_in_type_node.ensures.seen (λ q. c.in_ok-insert.ensures.updates.0 q) c.in_ok-find_in_type_node.ensures.finds

pub find_in_type_node-returns-in_ok-push-in-Var-clause-finds : goal.find_in_type_node-returns-in_ok-push-in-Var-clause-finds
find_in_type_node-returns-in_ok-push-in-Var-clause-finds g t c =
    let s = (g.S.Terms.store c.args.store.now).types in
    let tree = rw c.in-Var.is at c.type_node.ensures.tree in
    rw tree (finds_variable s c.args.found.now.items c.push.new.self.items c.args.t _ tree c.in_ok-push-in-Var.ensures.items)

pub find_in_type_node-returns-in_ok-push-in-Var-clause-adds : goal.find_in_type_node-returns-in_ok-push-in-Var-clause-adds
find_in_type_node-returns-in_ok-push-in-Var-clause-adds g t c =
    let s = (g.S.Terms.store c.args.store.now).types in
    let tree = rw c.in-Var.is at c.type_node.ensures.tree in
    rw tree (adds_variable s c.args.found.now.items c.push.new.self.items c.args.t _ tree c.in_ok-push-in-Var.ensures.items c.requires.there)

pub find_in_type_node-returns-in_ok-push-in-Var-clause-seen : goal.find_in_type_node-returns-in_ok-push-in-Var-clause-seen
find_in_type_node-returns-in_ok-push-in-Var-clause-seen g t c =
    let s = (g.S.Terms.store c.args.store.now).types in
    let tree = rw c.in-Var.is at c.type_node.ensures.tree in
    types_kept s c.args.found.now.items c.push.new.self.items _ c.args.seen.now (adds_variable s c.args.found.now.items c.push.new.self.items c.args.t _ tree c.in_ok-push-in-Var.ensures.items c.requires.there) c.requires.seen

pub find_in_type_node-returns-in_ok-find_in_type-in-Fun-2-clause-finds : goal.find_in_type_node-returns-in_ok-find_in_type-in-Fun-2-clause-finds
find_in_type_node-returns-in_ok-find_in_type-in-Fun-2-clause-finds g t c =
    let s = (g.S.Terms.store c.args.store.now).types in
    let tree = rw c.in-Fun.is at c.type_node.ensures.tree in
    rw tree (finds_both s c.args.found.now.items c.find_in_type.new.found.items c.find_in_type-in-Fun.new.found.items (variables_of (type_tree s c.in-Fun.a)) (variables_of (type_tree s c.in-Fun.b)) c.in_ok-find_in_type-in-Fun-2.ensures.adds c.in_ok-find_in_type-in-Fun.ensures.finds c.in_ok-find_in_type-in-Fun-2.ensures.finds)

pub find_in_type_node-returns-in_ok-find_in_type-in-Fun-2-clause-adds : goal.find_in_type_node-returns-in_ok-find_in_type-in-Fun-2-clause-adds
find_in_type_node-returns-in_ok-find_in_type-in-Fun-2-clause-adds g t c =
    let s = (g.S.Terms.store c.args.store.now).types in
    let tree = rw c.in-Fun.is at c.type_node.ensures.tree in
    rw tree (adds_both s c.args.found.now.items c.find_in_type.new.found.items c.find_in_type-in-Fun.new.found.items (variables_of (type_tree s c.in-Fun.a)) (variables_of (type_tree s c.in-Fun.b)) c.in_ok-find_in_type-in-Fun.ensures.adds c.in_ok-find_in_type-in-Fun-2.ensures.adds)

pub find_in_types-loop-t-preserved : goal.find_in_types-loop-t-preserved
find_in_types-loop-t-preserved g t c =
    let s = (g.S.Terms.store c.args.store.now).types in
    let old = c.loop-t.found.items in
    let new = c.find_in_type.new.found.items in
    let adds = c.in_ok-find_in_type.ensures.adds in
    let there = In-from_Contains c.args.ts.now c.t-item.result (c.loop-t.t-index, c.loop-t-test.true, sym c.t-item.is) in
    let all = variables_of_all (trees_at s c.args.ts.now) in
    record {
      seen = c.in_ok-find_in_type.ensures.seen;
      adds = adds_then s c.args.found.now.items old new all (variables_of (type_tree s c.t-item.result)) all (λ n i. i) (λ n i. in_all (λ t. type_tree s t) c.args.ts.now c.t-item.result n there i) c.loop-t.invariant.adds adds;
      done = found_more s c.args.ts.now (λ t. variables_of (type_tree s t)) old new c.loop-t.t-index c.t-item.result c.loop-t-test.true c.t-item.is adds c.in_ok-find_in_type.ensures.finds c.loop-t.invariant.done;
    }

pub find_in_types-returns-clause-finds : goal.find_in_types-returns-clause-finds
find_in_types-returns-clause-finds g t c =
    let s = (g.S.Terms.store c.args.store.now).types in
    found_all s c.args.ts.now (λ t. variables_of (type_tree s t)) c.loop-t.found.items (variables_of_all (trees_at s c.args.ts.now)) (λ n h. from_all (λ t. type_tree s t) c.args.ts.now n h) (λ k h. c.loop-t.invariant.done k (omega (arith, h, c.loop-t-test.false)))
