use Rattle.std.proofs.Common.{◌∙◌}
use Rattle.sexp.proofs.ForestLemmas.{text_is}
use Rattle.sexp.proofs.forest.Forest.text.Goals as goal

pub returns-in-Some : goal.returns-in-Some
returns-in-Some c = text_is c.args.self.now c.args.i ∙ (rw c.self.view_is at c.in-Some.ensures)
