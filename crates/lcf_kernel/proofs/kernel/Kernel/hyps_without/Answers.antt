use Rattle.lcf_kernel.proofs.HypLemmas.{gives_without}
use Rattle.lcf_kernel.proofs.kernel.Kernel.hyps_without.Goals as goal

pub returns-clause-gives : goal.returns-clause-gives
returns-clause-gives c =
    gives_without c.args.self.now c.hyps.ensures.lawful c.know_apart.ensures.apart c.args.a c.args.t c.requires.thm c.requires.there c.in_ok-c.c
    (rw (← c.hyps.ensures.is) c.in_ok-c.ensures.rises) (rw (← c.hyps.ensures.is) c.in_ok-c.ensures.without)
