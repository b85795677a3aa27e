use Rattle.lcf_kernel.proofs.KeepLemmas.{keeps_all_trans}
use Rattle.hol_logic.proofs.congruence.place_other.Goals as goal

pub returns-in_err-right-clause-keeps : goal.returns-in_err-right-clause-keeps
returns-in_err-right-clause-keeps c = keeps_all_trans c.application.ensures.keeps c.place_argument.ensures.keeps

pub returns-in_err-r-clause-keeps : goal.returns-in_err-r-clause-keeps
returns-in_err-r-clause-keeps c = keeps_all_trans (keeps_all_trans c.application.ensures.keeps c.place_argument.ensures.keeps) c.equal.ensures.keeps

pub returns-clause-keeps : goal.returns-clause-keeps
returns-clause-keeps c = keeps_all_trans (keeps_all_trans c.application.ensures.keeps c.place_argument.ensures.keeps) c.equal.ensures.keeps
