use Rattle.hol_terms.proofs.KeepsLemmas.{keeps_trans}
use Rattle.call_tests.proofs.small_terms.constant.Goals as goal

pub returns-clause-keeps : goal.returns-clause-keeps
returns-clause-keeps g c = keeps_trans c.in_ok-ty.ensures.keeps (keeps_trans c.in_ok-name.ensures.keeps c.in_ok-t.ensures.keeps)
