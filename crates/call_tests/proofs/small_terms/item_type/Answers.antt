use Rattle.hol_terms.proofs.KeepsLemmas.{keeps_trans}
use Rattle.call_tests.proofs.small_terms.item_type.Goals as goal

pub returns-clause-keeps : goal.returns-clause-keeps
returns-clause-keeps g c = keeps_trans c.in_ok-letter.ensures.keeps c.in_ok-var.ensures.keeps
