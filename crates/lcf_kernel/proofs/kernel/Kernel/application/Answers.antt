use Rattle.lcf_kernel.proofs.KeepLemmas.{keeps_all_rest}
use Rattle.lcf_kernel.proofs.kernel.Kernel.application.Goals as goal

pub returns-in_err-r-clause-keeps : goal.returns-in_err-r-clause-keeps
returns-in_err-r-clause-keeps c = keeps_all_rest c.args.self.now c.apply_fitting.new.store c.know_apart.ensures.lawful c.apply_fitting.ensures.keeps c.apply_fitting.ensures.rest

pub returns-clause-keeps : goal.returns-clause-keeps
returns-clause-keeps c = keeps_all_rest c.args.self.now c.apply_fitting.new.store c.know_apart.ensures.lawful c.apply_fitting.ensures.keeps c.apply_fitting.ensures.rest
