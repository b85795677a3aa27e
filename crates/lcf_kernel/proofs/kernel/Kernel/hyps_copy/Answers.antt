use Rattle.lcf_kernel.proofs.HypLemmas.{gives_same}
use Rattle.lcf_kernel.proofs.kernel.Kernel.hyps_copy.Goals as goal

pub returns-clause-gives : goal.returns-clause-gives
returns-clause-gives c = rw (c.in_ok-c.ensures, c.hyps.ensures.is) (gives_same c.args.self.now c.hyps.ensures.lawful c.args.a c.requires)
