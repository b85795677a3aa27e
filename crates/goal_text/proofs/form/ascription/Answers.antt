use Rattle.std.proofs.Common.{[]}
use Rattle.goal_text.proofs.FormLemmas.{skip_both, two_trees}
use Rattle.goal_text.proofs.form.ascription.Goals as goal

pub returns-clause-parts : goal.returns-clause-parts
returns-clause-parts c = λ names. skip_both names [] _ _ _ (two_trees c.args.at _ _ _ c.in_ok-constant.ensures.read)
