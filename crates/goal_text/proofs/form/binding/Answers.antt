use Rattle.std.proofs.Common.{[]}
use Rattle.goal_text.proofs.FormLemmas.{skip_one}
use Rattle.goal_text.proofs.form.binding.Goals as goal

pub returns-clause-parts : goal.returns-clause-parts
returns-clause-parts c = λ names. skip_one names [] _ _ _ c.in_ok-list.ensures.rest

pub returns-clause-run : goal.returns-clause-run
returns-clause-run c = c.in_ok-list.ensures.run
