use Rattle.lcf_kernel.proofs.MarkLemmas.{may_reset_kept}
use Rattle.kernel_tests.proofs.marks.undone.Goals as goal

pub reset-requires : goal.reset-requires
reset-requires c = may_reset_kept c.in_ok-made.ensures.records c.mark-m.ensures.may_reset

pub returns : goal.returns
returns c = c.reset.ensures.back c.args.k.now c.mark-m.ensures.may_reset c.mark-m.ensures.whole c.in_ok-made.ensures.records
