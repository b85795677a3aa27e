use Rattle.std.proofs.Common.{◌∙◌}
use Rattle.hol_terms.proofs.KeepsLemmas.{keeps_trans}
use Rattle.lcf_kernel.proofs.KeepLemmas.{keeps_all_rest}
use Rattle.hol_logic.proofs.fresh.variable.Goals as goal

pub returns-in_err-v-clause-keeps : goal.returns-in_err-v-clause-keeps
returns-in_err-v-clause-keeps c = keeps_all_rest c.args.k.now c.make.new.store c.constants-constants.ensures.lawful (keeps_trans c.name.ensures.keeps c.make.ensures.keeps) (c.make.ensures.rest ∙ c.name.ensures.rest)

pub returns-clause-keeps : goal.returns-clause-keeps
returns-clause-keeps c = keeps_all_rest c.args.k.now c.make.new.store c.constants-constants.ensures.lawful (keeps_trans c.name.ensures.keeps c.make.ensures.keeps) (c.make.ensures.rest ∙ c.name.ensures.rest)
