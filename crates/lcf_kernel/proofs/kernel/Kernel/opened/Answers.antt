use Rattle.lcf_kernel.proofs.KeepLemmas.{keeps_all_rest}
use Rattle.lcf_kernel.proofs.kernel.Kernel.opened.Goals as goal

pub returns-in_err-r-clause-keeps : goal.returns-in_err-r-clause-keeps
returns-in_err-r-clause-keeps c = keeps_all_rest c.args.self.now c.open.new.self c.know_apart.ensures.lawful c.open.ensures.keeps c.open.ensures.rest

pub returns-clause-keeps : goal.returns-clause-keeps
returns-clause-keeps c = keeps_all_rest c.args.self.now c.open.new.self c.know_apart.ensures.lawful c.open.ensures.keeps c.open.ensures.rest
