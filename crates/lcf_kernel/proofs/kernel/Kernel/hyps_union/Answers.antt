use Rattle.lcf_kernel.proofs.HypLemmas.{gives_both}
use Rattle.lcf_kernel.proofs.kernel.Kernel.hyps_union.Goals as goal

pub returns-clause-gives : goal.returns-clause-gives
returns-clause-gives c = gives_both c.args.self.now c.know_apart.ensures.lawful c.args.x.now c.args.y.now c.requires.left c.requires.right c.in_ok-c.c c.in_ok-c.ensures.rises c.in_ok-c.ensures.union
