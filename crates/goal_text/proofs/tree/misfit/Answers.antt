use Rattle.std.proofs.Common.{◌∙◌, sym, ap}
use Rattle.goal_text.specs.Lexicon as lexicon
use Rattle.goal_text.proofs.tree.misfit.Goals as goal

pub returns-in-Some : goal.returns-in-Some
returns-in-Some c = c.misfit_of.ensures ∙ sym (ap lexicon.misfit c.in-Some.ensures)
