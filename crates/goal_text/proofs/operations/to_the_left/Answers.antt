use Rattle.std.proofs.Common.{sym, arith}
use Rattle.hol_types.specs.Ty.{IntTy}
use Rattle.hol_terms.proofs.KeepsLemmas.{keeps_trans}
use Rattle.goal_text.proofs.KeptLemmas.{same_Ok}
use Rattle.goal_text.proofs.OperationLemmas.{left_next, part_typed, two_typed, typed_kept, typed_terms}
use Rattle.goal_text.proofs.operations.to_the_left.Goals as goal

pub apply_two-requires-clause-second : goal.apply_two-requires-clause-second
apply_two-requires-clause-second c = (part_typed c.args.base.now c.loop-i.base IntTy c.args.parts.now c.loop-i.i c.index-parts-i.result c.loop-i.invariant.keeps c.requires.parts c.loop-i-test.true c.index-parts-i.is).there

pub loop-i-preserved : goal.loop-i-preserved
loop-i-preserved c =
    let s = c.args.base.now in
    let now = c.loop-i.base in
    let new = c.apply_two.new.base in
    let inv = c.loop-i.invariant in
    let made = sym (same_Ok _ _ c.in_ok-t.ensures.read) in
    record {
      within = omega (arith, c.loop-i-test.true);
      typed = two_typed now new c.args.f _ _ c.in_ok-t.t IntTy IntTy IntTy (typed_kept inv.keeps c.requires.function) c.in_ok-t.ensures.there made;
      keeps = keeps_trans inv.keeps c.in_ok-t.ensures.keeps;
      read = left_next s now new inv.keeps c.args.f c.requires.function.there c.args.parts.now (typed_terms s IntTy c.args.parts.now c.requires.parts) _ c.loop-i.i c.index-parts-i.result c.loop-i.t c.in_ok-t.t c.loop-i-test.true c.index-parts-i.is inv.read made;
    }
