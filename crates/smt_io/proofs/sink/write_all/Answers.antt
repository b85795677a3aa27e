use Rattle.std.proofs.Common.{◌-◌, ◌≤◌, ◌∙◌, ap, take, drop, arith}
use Rattle.std.specs.Io.KnownBytes.{append_known}
use Rattle.smt_io.proofs.WrittenLemmas.{append_known-front}
use Rattle.smt_io.proofs.sink.write_all.Goals as goal

pub loop-written-preserved : goal.loop-written-preserved
loop-written-preserved g c =
    let done = c.loop-written.written in
    let end = c.in_ok-written.written in
    let piece = c.args.piece.now in
    let wrote = c.in_ok-written.ensures in
    let later : done ≤ end = omega (arith, wrote.further) in
    record {
      within = wrote.within;
      front = wrote.appended ∙ ap (λ told. append_known told (take (end - done) (drop done piece))) c.loop-written.invariant.front ∙ append_known-front _ piece done end later;
      count = omega (arith, wrote.count_stays);
    }
