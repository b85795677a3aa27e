use Rattle.std.proofs.Common.{◌≡◌, ap, arith, tests}
use Rattle.hol_terms.specs.TermStore.{term_tree}
use Rattle.hol_logic.proofs.StateLemmas.{chain_sides, chain_stated}
use Rattle.hol_logic.proofs.equality.trans.Goals as goal

pub returns-then-ne-clause-shape : goal.returns-then-ne-clause-shape
returns-then-ne-clause-shape c =
    let one = c.in-Some.ensures.some in
    let two = c.in-Some-sides_of.ensures.some in
    let apart : c.in-Some.first.right ≡ c.in-Some-sides_of.second.left → ⊥ = λ e. grind (arith, tests, c.ne.ensures, c.if-ne.true, e) in
    λ e chain. apart (c.in-Some.ensures.apart c.in-Some.first.right c.in-Some-sides_of.second.left one.right two.left (chain_sides chain _ _ _ _ _ _ one.concl two.concl))

pub chained-requires-clause-middle : goal.chained-requires-clause-middle
chained-requires-clause-middle c =
    let same_id : c.in-Some.first.right ≡ c.in-Some-sides_of.second.left = grind (arith, tests, c.ne.ensures, c.if-ne.false) in
    ap (λ t. term_tree c.args.k.now.store t) same_id

pub returns-clause-states : goal.returns-clause-states
returns-clause-states c =
    let same_id : c.in-Some.first.right ≡ c.in-Some-sides_of.second.left = grind (arith, tests, c.ne.ensures, c.if-ne.false) in
    chain_stated c.in-Some.ensures.some c.in-Some-sides_of.ensures.some (ap (λ t. term_tree c.args.k.now.store t) same_id) c.in_ok-r.ensures.states
