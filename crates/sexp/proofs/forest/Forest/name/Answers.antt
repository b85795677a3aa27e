use Rattle.std.proofs.Common.{◌∙◌}
use Rattle.sexp.proofs.ForestLemmas.{text_is, tells, list_is, match_both}
use Rattle.sexp.specs.Forest.{kept_at}
use Rattle.sexp.proofs.forest.Forest.name.Goals as goal

pub returns : goal.returns
returns c =
    match_both c.text.result _ _ _ _
    (λ none. rw (list_is (kept_at c.args.self.now c.args.i).body none) at (tells c.args.self.now c.args.i))
    (λ text is. text_is c.args.self.now c.args.i ∙ is)
    (rw c.self.view_is at c.text.ensures)
