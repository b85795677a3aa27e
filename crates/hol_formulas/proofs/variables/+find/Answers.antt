use Rattle.hol_terms.specs.TermStore.{term_tree}
use Rattle.hol_formulas.proofs.FoundLemmas.{all_found_kept, found_put, finds_free, adds_free, finds_app, adds_app, finds_lam, adds_lam}
use Rattle.hol_formulas.proofs.variables.+find.Goals as goal

pub find_in_node-returns-in_ok-push-in-Free-clause-finds : goal.find_in_node-returns-in_ok-push-in-Free-clause-finds
find_in_node-returns-in_ok-push-in-Free-clause-finds g t c =
    finds_free (g.S.Terms.store c.args.store.now) c.args.found.now.items _ c.args.t _ _ _ c.in-Free.ensures.tree c.in_ok-push-in-Free.ensures.items

pub find_in_node-returns-in_ok-push-in-Free-clause-seen : goal.find_in_node-returns-in_ok-push-in-Free-clause-seen
find_in_node-returns-in_ok-push-in-Free-clause-seen g t c =
    let s = g.S.Terms.store c.args.store.now in
    all_found_kept s c.args.found.now.items _ (term_tree s c.args.t) c.args.seen.now (adds_free s c.args.found.now.items _ c.args.t _ _ _ c.in-Free.ensures.tree c.in_ok-push-in-Free.ensures.items c.requires.term) c.requires.seen

pub find_in_node-returns-in_ok-find_in_part-in-App-2-clause-finds : goal.find_in_node-returns-in_ok-find_in_part-in-App-2-clause-finds
find_in_node-returns-in_ok-find_in_part-in-App-2-clause-finds g t c =
    let s = g.S.Terms.store c.args.store.now in
    rw c.in-App.ensures.tree
    (finds_app s c.args.found.now.items c.find_in_part.new.found.items c.find_in_part-in-App.new.found.items (term_tree s c.in-App.f) (term_tree s c.in-App.x) c.in_ok-find_in_part-in-App-2.ensures.adds c.in_ok-find_in_part-in-App.ensures.finds c.in_ok-find_in_part-in-App-2.ensures.finds)

pub find_in_node-returns-in_ok-find_in_part-in-App-2-clause-adds : goal.find_in_node-returns-in_ok-find_in_part-in-App-2-clause-adds
find_in_node-returns-in_ok-find_in_part-in-App-2-clause-adds g t c =
    let s = g.S.Terms.store c.args.store.now in
    rw c.in-App.ensures.tree
    (adds_app s c.args.found.now.items c.find_in_part.new.found.items c.find_in_part-in-App.new.found.items (term_tree s c.in-App.f) (term_tree s c.in-App.x) c.in_ok-find_in_part-in-App.ensures.adds c.in_ok-find_in_part-in-App-2.ensures.adds)

pub find_in_node-returns-in_ok-find_in_part-in-Lam-clause-finds : goal.find_in_node-returns-in_ok-find_in_part-in-Lam-clause-finds
find_in_node-returns-in_ok-find_in_part-in-Lam-clause-finds g t c =
    let s = g.S.Terms.store c.args.store.now in
    rw c.in-Lam.ensures.tree (finds_lam s _ _ (term_tree s c.in-Lam.b) c.in_ok-find_in_part-in-Lam.ensures.finds)

pub find_in_node-returns-in_ok-find_in_part-in-Lam-clause-adds : goal.find_in_node-returns-in_ok-find_in_part-in-Lam-clause-adds
find_in_node-returns-in_ok-find_in_part-in-Lam-clause-adds g t c =
    let s = g.S.Terms.store c.args.store.now in
    rw c.in-Lam.ensures.tree (adds_lam s _ _ _ (term_tree s c.in-Lam.b) c.in_ok-find_in_part-in-Lam.ensures.adds)

pub find_in_part-returns-clause-seen : goal.find_in_part-returns-clause-seen
find_in_part-returns-clause-seen g t c =
    found_put (g.S.Terms.store c.args.store.now) _ c.find_in_node.new.seen c.insert.new.self c.args.t c.in_ok-find_in_node.ensures.seen (λ q. c.in_ok-insert.ensures.updates.0 q) c.in_ok-find_in_node.ensures.finds
