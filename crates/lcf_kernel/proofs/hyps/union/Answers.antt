use Rattle.std.proofs.Common.{arith, ◌<◌, ◌≤◌, ◌≡◌, ◌⊎◌, inl, inr, length}
use Rattle.std.proofs.lemmas.Bool.Decides.{nat_tests}
use Rattle.lcf_kernel.proofs.MergeLemmas.{merging_left, merging_right, merging_both, merged, IsUnion-merge}
use Rattle.lcf_kernel.proofs.hyps.union.Goals.{then-merge-test+else-j-b, else-merge-test}
use Rattle.lcf_kernel.proofs.hyps.union.Goals as goal

pub merge-preserved-then-lt : goal.merge-preserved-then-lt
merge-preserved-then-lt c =
    let below : c.index-a-i.result < c.index-b-j.result = grind (arith, nat_tests, c.lt.ensures, c.if-lt.true) in
    rw c.in_ok-push.ensures.items (merging_left _ _ _ _ _ c.index-a-i.result c.index-b-j.result c.merge.invariant c.merge-test.true c.if-j-b.true c.index-a-i.is c.index-b-j.is below)

pub merge-preserved-then-lt-2 : goal.merge-preserved-then-lt-2
merge-preserved-then-lt-2 c =
    let below : c.index-b-j.result < c.index-a-i.result = grind (arith, nat_tests, c.lt-else-lt.ensures, c.if-lt-2.true) in
    rw c.in_ok-push-2.ensures.items (merging_right _ _ _ _ _ c.index-a-i.result c.index-b-j.result c.merge.invariant c.merge-test.true c.if-j-b.true c.index-a-i.is c.index-b-j.is below)

pub merge-preserved : goal.merge-preserved
merge-preserved c =
    let same : c.index-a-i.result ≡ c.index-b-j.result = grind (arith, nat_tests, c.lt.ensures, c.if-lt.false, c.lt-else-lt.ensures, c.if-lt-2.false) in
    rw c.in_ok-push-3.ensures.items (merging_both _ _ _ _ _ c.index-a-i.result c.index-b-j.result c.merge.invariant c.merge-test.true c.if-j-b.true c.index-a-i.is c.index-b-j.is same)

pub returns-clause-rises : goal.returns-clause-rises
returns-clause-rises c =
    let ended : (length c.args.a.now ≤ c.merge.i) ⊎ (length c.args.b.now ≤ c.merge.j) = elim c.merge-test.branch [ then-merge-test+else-j-b w ↦ inr w.if-j-b.false | else-merge-test w ↦ inl w.merge-test.false ] in
    rw (c.new.ensures, c.in_ok-extend_from_slice-2.ensures.items, c.in_ok-extend_from_slice.ensures.items) (IsUnion-merge _ _ _ c.requires.left c.requires.right (merged _ _ _ _ _ c.merge.invariant ended)).rises

pub returns-clause-union : goal.returns-clause-union
returns-clause-union c =
    let ended : (length c.args.a.now ≤ c.merge.i) ⊎ (length c.args.b.now ≤ c.merge.j) = elim c.merge-test.branch [ then-merge-test+else-j-b w ↦ inr w.if-j-b.false | else-merge-test w ↦ inl w.merge-test.false ] in
    rw (c.new.ensures, c.in_ok-extend_from_slice-2.ensures.items, c.in_ok-extend_from_slice.ensures.items) (IsUnion-merge _ _ _ c.requires.left c.requires.right (merged _ _ _ _ _ c.merge.invariant ended)).same
