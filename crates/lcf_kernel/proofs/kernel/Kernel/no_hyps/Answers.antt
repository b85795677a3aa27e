use Rattle.lcf_kernel.proofs.HypLemmas.{gives_none}
use Rattle.lcf_kernel.proofs.kernel.Kernel.no_hyps.Goals as goal

pub returns-clause-gives : goal.returns-clause-gives
returns-clause-gives c = rw (c.new-2.ensures, c.new.ensures.items) (gives_none c.args.self.now c.know_apart.ensures.lawful)
