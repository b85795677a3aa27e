use Rattle.hol_logic.proofs.StateLemmas.{passed_on}
use Rattle.hol_logic.proofs.UnderLemmas.{under_assume}
use Rattle.hol_logic.proofs.contradiction.assumed.Goals as goal

pub assume-requires-clause-there : goal.assume-requires-clause-there
assume-requires-clause-there c = c.requires.there

pub assume-requires-clause-closed : goal.assume-requires-clause-closed
assume-requires-clause-closed c = c.requires.formula.closed

pub returns-clause-under : goal.returns-clause-under
returns-clause-under c hyps has = under_assume _ has c.in_ok-r.ensures.hyps c.in_ok-r.ensures.bare

pub returns-in_err-r-clause-shape : goal.returns-in_err-r-clause-shape
returns-in_err-r-clause-shape c = passed_on c.from_residual.result c.in_err-r.field-0.0 c.from_residual.ensures.1 (λ e. c.in_err-r.ensures.shape e c.requires.formula.bool)

pub returns-in_err-r-clause-keeps : goal.returns-in_err-r-clause-keeps
returns-in_err-r-clause-keeps c = c.assume.ensures.keeps

pub returns-clause-keeps : goal.returns-clause-keeps
returns-clause-keeps c = c.assume.ensures.keeps
