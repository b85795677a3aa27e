use Rattle.hol_types.specs.TypeStore.{type_tree}
use Rattle.hol_types.specs.TypeSubst.{variables_of}
use Rattle.hol_terms.specs.TermStore.{term_tree}
use Rattle.hol_terms.specs.Substitution.{type_variables}
use Rattle.hol_formulas.proofs.TypesFoundLemmas.{finds_both, adds_both, terms_put}
use Rattle.hol_formulas.proofs.type_variables.+terms.Goals as goal

pub find_in_node-returns-in_ok-find_in_part-in-App-2-clause-finds : goal.find_in_node-returns-in_ok-find_in_part-in-App-2-clause-finds
find_in_node-returns-in_ok-find_in_part-in-App-2-clause-finds g t c =
    let s = g.S.Terms.store c.args.store.now in
    rw c.in-App.ensures.tree
    (finds_both s.types c.args.found.now.items c.find_in_part.new.found.items c.find_in_part-in-App.new.found.items (type_variables (term_tree s c.in-App.f)) (type_variables (term_tree s c.in-App.x)) c.in_ok-find_in_part-in-App-2.ensures.adds c.in_ok-find_in_part-in-App.ensures.finds c.in_ok-find_in_part-in-App-2.ensures.finds)

pub find_in_node-returns-in_ok-find_in_part-in-App-2-clause-adds : goal.find_in_node-returns-in_ok-find_in_part-in-App-2-clause-adds
find_in_node-returns-in_ok-find_in_part-in-App-2-clause-adds g t c =
    let s = g.S.Terms.store c.args.store.now in
    rw c.in-App.ensures.tree
    (adds_both s.types c.args.found.now.items c.find_in_part.new.found.items c.find_in_part-in-App.new.found.items (type_variables (term_tree s c.in-App.f)) (type_variables (term_tree s c.in-App.x)) c.in_ok-find_in_part-in-App.ensures.adds c.in_ok-find_in_part-in-App-2.ensures.adds)

pub find_in_node-returns-in_ok-find_in_part-in-Lam-clause-finds : goal.find_in_node-returns-in_ok-find_in_part-in-Lam-clause-finds
find_in_node-returns-in_ok-find_in_part-in-Lam-clause-finds g t c =
    let s = g.S.Terms.store c.args.store.now in
    rw c.in-Lam.ensures.tree
    (finds_both s.types c.args.found.now.items c.find_beside-in-Lam.new.found.items c.find_in_part-in-Lam.new.found.items (variables_of (type_tree s.types c.in-Lam.ty)) (type_variables (term_tree s c.in-Lam.b)) c.in_ok-find_in_part-in-Lam.ensures.adds c.in_ok-find_beside-in-Lam.ensures.finds c.in_ok-find_in_part-in-Lam.ensures.finds)

pub find_in_node-returns-in_ok-find_in_part-in-Lam-clause-adds : goal.find_in_node-returns-in_ok-find_in_part-in-Lam-clause-adds
find_in_node-returns-in_ok-find_in_part-in-Lam-clause-adds g t c =
    let s = g.S.Terms.store c.args.store.now in
    rw c.in-Lam.ensures.tree
    (adds_both s.types c.args.found.now.items c.find_beside-in-Lam.new.found.items c.find_in_part-in-Lam.new.found.items (variables_of (type_tree s.types c.in-Lam.ty)) (type_variables (term_tree s c.in-Lam.b)) c.in_ok-find_beside-in-Lam.ensures.adds c.in_ok-find_in_part-in-Lam.ensures.adds)

pub find_in_part-returns-clause-terms : goal.find_in_part-returns-clause-terms
find_in_part-returns-clause-terms g t c =
    terms_put (g.S.Terms.store c.args.store.now) c.find_in_node.new.found.items c.find_in_node.new.terms c.insert.new.self c.args.t c.in_ok-find_in_node.ensures.terms (λ q. c.in_ok-insert.ensures.updates.0 q) c.in_ok-find_in_node.ensures.finds
