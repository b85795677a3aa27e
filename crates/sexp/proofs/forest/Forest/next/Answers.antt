use Rattle.std.proofs.Common.{arith, refl, ◌≡◌}
use Rattle.sexp.specs.Forest.{IsForest, after_of}
use Rattle.sexp.proofs.ForestLemmas.{trees_at-step, trees_at-none, run_rest}
use Rattle.sexp.proofs.forest.Forest.next.Goals as goal

pub returns-then-i-end : goal.returns-then-i-end
returns-then-i-end c =
    let forest = c.args.self.now in
    let i = c.args.i in
    let end = c.args.end in
    let is : IsForest forest = rw c.self.view_is at c.self.invariant.0 in
    let e : c.record.result.after ≡ after_of forest i = rw (c.record.ensures, c.self.view_is) refl in
    let there = c.requires.there in
    let parts = is i (omega (arith, c.if-i-end.true)) in
    let o = parts.order in
    let n = c.requires.nested i (omega arith) c.if-i-end.true in
    rw e (trees_at-step forest is i end c.requires c.if-i-end.true, omega (arith, c.if-i-end.true), refl, omega arith, n, run_rest forest is i end c.requires c.if-i-end.true)

pub returns-else-i-end : goal.returns-else-i-end
returns-else-i-end c = trees_at-none c.args.self.now c.args.i c.args.end c.if-i-end.false
