use Rattle.lcf_kernel.proofs.KeepLemmas.{keeps_all_rest}
use Rattle.lcf_kernel.proofs.kernel.Kernel.conditional.Goals as goal

pub returns-in_err-r-clause-keeps : goal.returns-in_err-r-clause-keeps
returns-in_err-r-clause-keeps c = keeps_all_rest c.args.self.now c.make_ite.new.store c.constants-constants.ensures.lawful c.make_ite.ensures.keeps c.make_ite.ensures.rest

pub returns-clause-keeps : goal.returns-clause-keeps
returns-clause-keeps c = keeps_all_rest c.args.self.now c.make_ite.new.store c.constants-constants.ensures.lawful c.make_ite.ensures.keeps c.make_ite.ensures.rest
