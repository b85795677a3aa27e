use Rattle.std.proofs.Common.{◌≡◌, ◌+◌, ◌-◌, ◌<◌, length, sym, arith}
use Rattle.hol_types.specs.Ty.{BoolTy}
use Rattle.hol_terms.proofs.KeepsLemmas.{keeps_trans}
use Rattle.goal_text.proofs.KeptLemmas.{same_Ok}
use Rattle.goal_text.proofs.OperationLemmas.{right_next, part_typed, two_typed, typed_kept, typed_terms}
use Rattle.goal_text.proofs.operations.to_the_right.Goals as goal

pub apply_two-requires-clause-first : goal.apply_two-requires-clause-first
apply_two-requires-clause-first c =
    let below : c.loop-n.n - 1 < length c.args.parts.now = omega (arith, c.loop-n.invariant.below) in
    (part_typed c.args.base.now c.loop-n.base BoolTy c.args.parts.now (c.loop-n.n - 1) c.index-parts-n.result c.loop-n.invariant.keeps c.requires.parts below c.index-parts-n.is).there

pub loop-n-preserved : goal.loop-n-preserved
loop-n-preserved c =
    let s = c.args.base.now in
    let now = c.loop-n.base in
    let new = c.apply_two.new.base in
    let inv = c.loop-n.invariant in
    let made = sym (same_Ok _ _ c.in_ok-t.ensures.read) in
    let next : c.loop-n.n ≡ c.loop-n.n - 1 + 1 = omega (arith, c.loop-n-test.true) in
    record {
      below = omega (arith, inv.below);
      typed = two_typed now new c.args.f _ _ c.in_ok-t.t BoolTy BoolTy BoolTy (typed_kept inv.keeps c.requires.function) c.in_ok-t.ensures.there made;
      keeps = keeps_trans inv.keeps c.in_ok-t.ensures.keeps;
      read = right_next s now new inv.keeps c.args.f c.requires.function.there c.args.parts.now (typed_terms s BoolTy c.args.parts.now c.requires.parts) (c.loop-n.n - 1) c.loop-n.n c.index-parts-n.result c.loop-n.t c.in_ok-t.t next inv.below c.index-parts-n.is inv.read made;
    }
