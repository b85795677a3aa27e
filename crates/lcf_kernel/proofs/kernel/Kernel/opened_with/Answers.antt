use Rattle.lcf_kernel.proofs.KeepLemmas.{keeps_all_trans}
use Rattle.lcf_kernel.proofs.kernel.Kernel.opened_with.Goals as goal

pub returns-in_err-right-clause-keeps : goal.returns-in_err-right-clause-keeps
returns-in_err-right-clause-keeps c = keeps_all_trans c.opened.ensures.keeps c.opened-2.ensures.keeps

pub returns-clause-keeps : goal.returns-clause-keeps
returns-clause-keeps c = keeps_all_trans c.opened.ensures.keeps c.opened-2.ensures.keeps
