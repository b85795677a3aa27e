use Rattle.std.proofs.Common.{rules}
use Rattle.lcf_kernel.proofs.MarkLemmas.{reset_back}
use Rattle.lcf_kernel.proofs.kernel.Kernel.reset.Goals as goal

pub returns-clause-back : goal.returns-clause-back
returns-clause-back c was may whole keeps = reset_back c.args.self.now _ was c.args.m (search rules) may whole keeps
