-- A term of a store has no more binders within one another than 2^32.
use Rattle.std.proofs.Common.{ℕ, zero, suc, ◌+◌, ◌^◌, ◌<◌, ◌≤◌, arith}
use Rattle.hol_terms.specs.Term.{Term}
use Rattle.hol_terms.specs.TermStore.{TermStore, node_at, node_tree, tree_within, term_tree}
use Rattle.hol_terms.specs.declared.node.Node.{Node}
use Rattle.hol_terms.specs.declared.node.Node.TheVariants.{Free, Bound, Const, Num, App, Lam}
use Rattle.goal_print.specs.Under.{nested}

-- a node has at most one binder more than its parts
node_nested : (s : TermStore) (tree : ℕ → Term) (k : ℕ) (n : Node) → ((u : ℕ) → nested (tree u) ≤ k) → nested (node_tree s tree n) ≤ k + 1
node_nested s tree k (Free kind name ty) parts = omega arith
node_nested s tree k (Bound i ty) parts = omega arith
node_nested s tree k (Const name ty) parts = omega arith
node_nested s tree k (Num z) parts = omega arith
node_nested s tree k (App f x) parts =
    let first = parts f in
    let second = parts x in
    omega (arith, first, second)
node_nested s tree k (Lam ty b) parts =
    let body = parts b in
    omega (arith, body)

nested_within : (s : TermStore) (k t : ℕ) → nested (tree_within s k t) ≤ k
unfolding tree_within
nested_within s zero t = omega arith
nested_within s (suc k) t =
    let most = node_nested s (λ u. tree_within s k u) k (node_at s t) (λ u. nested_within s k u) in
    omega (arith, most)

-- a tree is looked up as many times as its number says, and one binder is met each time
pub nested_few : (s : TermStore) (t : ℕ) → t < 2 ^ 32 → nested (term_tree s t) ≤ 2 ^ 32
unfolding term_tree
nested_few s t small = let most = nested_within s (suc t) t in omega (arith, most, small)
