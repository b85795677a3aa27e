use Rattle.std.proofs.Common.{◌≡◌, Some, true, false, sym, ap, ◌∙◌}
use Rattle.std.specs.Str.{bytes_eq}
use Rattle.smt_io.proofs.FindLemmas.{found_here, not_here}
use Rattle.smt_io.proofs.mem_files.find.Goals as goal

pub returns-then-eq : goal.returns-then-eq
returns-then-eq c =
    let same : bytes_eq c.file-item.result.name c.args.name.now ≡ true = ap (λ n. bytes_eq n c.args.name.now) (sym c.as_str.ensures) ∙ sym c.eq.ensures ∙ c.if-eq.true in
    sym c.loop-file.invariant ∙ found_here c.args.files.now c.args.name.now c.loop-file.file-index c.file-item.result c.loop-file-test.true c.file-item.is same ∙ ap Some (sym c.as_slice.ensures)

pub loop-file-preserved : goal.loop-file-preserved
loop-file-preserved c =
    let other : bytes_eq c.file-item.result.name c.args.name.now ≡ false = ap (λ n. bytes_eq n c.args.name.now) (sym c.as_str.ensures) ∙ sym c.eq.ensures ∙ c.if-eq.false in
    not_here c.args.files.now c.args.name.now c.loop-file.file-index c.file-item.result c.loop-file-test.true c.file-item.is other ∙ c.loop-file.invariant
