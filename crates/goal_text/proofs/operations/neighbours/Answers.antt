use Rattle.std.proofs.Common.{◌≡◌, ◌+◌, ◌-◌, ◌<◌, length, sym, arith}
use Rattle.hol_types.specs.Ty.{BoolTy}
use Rattle.hol_terms.proofs.KeepsLemmas.{keeps_trans}
use Rattle.goal_text.proofs.KeptLemmas.{same_Ok}
use Rattle.goal_text.proofs.OperationLemmas.{all_typed_kept, all_typed_pushed, fits_two, neighbours_next, part_typed, two_typed, typed_kept, typed_terms}
use Rattle.goal_text.proofs.operations.neighbours.Goals as goal

pub apply_two-requires-clause-first : goal.apply_two-requires-clause-first
apply_two-requires-clause-first c =
    let below : c.loop-i.i - 1 < length c.args.parts.now = omega (arith, c.loop-i-test.true) in
    (part_typed c.args.base.now c.loop-i.base _ c.args.parts.now (c.loop-i.i - 1) c.index-parts-previous.result c.loop-i.invariant.keeps c.requires.parts below c.index-parts-previous.is).there

pub apply_two-requires-clause-second : goal.apply_two-requires-clause-second
apply_two-requires-clause-second c = (part_typed c.args.base.now c.loop-i.base _ c.args.parts.now c.loop-i.i c.index-parts-i.result c.loop-i.invariant.keeps c.requires.parts c.loop-i-test.true c.index-parts-i.is).there

pub apply_two-requires-clause-fits : goal.apply_two-requires-clause-fits
apply_two-requires-clause-fits c =
    let below : c.loop-i.i - 1 < length c.args.parts.now = omega (arith, c.loop-i-test.true) in
    fits_two c.loop-i.base c.args.f c.index-parts-previous.result c.index-parts-i.result _ _ BoolTy (typed_kept c.loop-i.invariant.keeps c.requires.function)
    (part_typed c.args.base.now c.loop-i.base _ c.args.parts.now (c.loop-i.i - 1) c.index-parts-previous.result c.loop-i.invariant.keeps c.requires.parts below c.index-parts-previous.is)
    (part_typed c.args.base.now c.loop-i.base _ c.args.parts.now c.loop-i.i c.index-parts-i.result c.loop-i.invariant.keeps c.requires.parts c.loop-i-test.true c.index-parts-i.is)

pub loop-i-preserved : goal.loop-i-preserved
loop-i-preserved c =
    let s = c.args.base.now in
    let now = c.loop-i.base in
    let new = c.apply_two.new.base in
    let inv = c.loop-i.invariant in
    let k = c.in_ok-t.ensures.keeps in
    let fs = c.loop-i.formulas.items in
    let made = sym (same_Ok _ _ c.in_ok-t.ensures.read) in
    let next : c.loop-i.i - 1 + 1 ≡ c.loop-i.i = omega (arith, inv.some) in
    let now_typed = typed_kept inv.keeps c.requires.function in
    let is = two_typed now new c.args.f _ _ c.in_ok-t.t _ _ BoolTy now_typed c.in_ok-t.ensures.there made in
    let previous : c.loop-i.i + 1 - 1 ≡ c.loop-i.i = omega arith in
    record {
      some = omega arith;
      within = omega (arith, c.loop-i-test.true);
      typed = rw c.in_ok-push.ensures.items (all_typed_pushed new BoolTy fs c.in_ok-t.t (all_typed_kept BoolTy fs k inv.typed) is);
      keeps = keeps_trans inv.keeps k;
      read = rw (c.in_ok-push.ensures.items, previous) (neighbours_next s now new inv.keeps c.args.f c.requires.function.there c.args.parts.now (typed_terms s _ c.args.parts.now c.requires.parts) k _ fs (c.loop-i.i - 1) c.loop-i.i c.index-parts-previous.result c.index-parts-i.result c.in_ok-t.t
          (typed_terms now BoolTy fs inv.typed) next c.loop-i-test.true c.index-parts-previous.is c.index-parts-i.is inv.read made);
    }
