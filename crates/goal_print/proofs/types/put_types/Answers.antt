use Rattle.std.proofs.Common.{◌≡◌, ◌+◌, ◌-◌, ◌<◌, length, [], drop, arith}
use Rattle.std.proofs.Math.Seq.{drop-length}
use Rattle.goal_print.specs.TypeText.{types_text}
use Rattle.goal_print.proofs.PutLemmas.{put_none, put_type_before}
use Rattle.goal_print.proofs.types.put_types.Goals as goal

pub loop-k-init : goal.loop-k-init
unfolding types_text
loop-k-init c =
    let none : drop (length c.args.types.now) c.args.types.now ≡ [] = drop-length c.args.types.now in
    record { within = omega arith; puts = λ s consts there. rw none (put_none s consts _) }

pub loop-k-preserved : goal.loop-k-preserved
loop-k-preserved c =
    let k = c.loop-k.k in
    let within : k - 1 < length c.args.types.now = omega (arith, c.loop-k.invariant.within, c.loop-k-test.true) in
    let next : (k - 1) + 1 ≡ k = omega (arith, c.loop-k-test.true) in
    record {
      within = omega arith;
      puts = λ s consts there. put_type_before s consts c.args.types.now (k - 1) k c.index-types-k.result _ _ _ _ within next c.index-types-k.is there (c.loop-k.invariant.puts s consts there) c.in_ok-push.ensures.items c.in_ok-push-2.ensures.items;
    }

pub returns : goal.returns
returns c = λ s consts there.
    let none : c.loop-k.k ≡ 0 = omega arith in
    rw none at (c.loop-k.invariant.puts s consts there)
