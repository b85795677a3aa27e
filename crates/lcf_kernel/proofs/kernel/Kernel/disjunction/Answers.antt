use Rattle.lcf_kernel.proofs.KeepLemmas.{keeps_all_rest}
use Rattle.lcf_kernel.proofs.kernel.Kernel.disjunction.Goals as goal

pub returns-in_err-t-clause-keeps : goal.returns-in_err-t-clause-keeps
returns-in_err-t-clause-keeps c = keeps_all_rest c.args.self.now c.make_or.new.store c.constants-constants.ensures.lawful c.make_or.ensures.keeps c.make_or.ensures.rest

pub returns-clause-keeps : goal.returns-clause-keeps
returns-clause-keeps c = keeps_all_rest c.args.self.now c.make_or.new.store c.constants-constants.ensures.lawful c.make_or.ensures.keeps c.make_or.ensures.rest
