use Rattle.lcf_kernel.proofs.HypLemmas.{gives_union}
use Rattle.lcf_kernel.proofs.kernel.Kernel.hyps_of_both.Goals as goal

pub returns-clause-gives : goal.returns-clause-gives
returns-clause-gives c =
    gives_union c.args.self.now c.hyps.ensures.lawful c.args.a c.args.b c.requires.left c.requires.right c.in_ok-c.c c.in_ok-c.ensures.rises (rw (← c.hyps.ensures.is, ← c.hyps-2.ensures.is) c.in_ok-c.ensures.union)
