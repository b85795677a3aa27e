use Rattle.std.proofs.Common.{◌∙◌, sym, ap, Ok}
use Rattle.hol_terms.specs.TermStore.{term_tree}
use Rattle.goal_text.proofs.BuiltLemmas.{apply_fits, apply_not}
use Rattle.goal_text.proofs.built.apply_at.Goals as goal

pub returns-in-Ok-clause-read : goal.returns-in-Ok-clause-read
returns-in-Ok-clause-read c = apply_fits c.args.at (term_tree c.args.base.now c.args.f) (term_tree c.args.base.now c.args.x) c.in-Ok.ensures.typed.2 ∙ ap Ok (sym c.in-Ok.ensures.tree)

pub returns-in-Err-Ill-clause-read : goal.returns-in-Err-Ill-clause-read
returns-in-Err-Ill-clause-read c =
    rw c.refuse.ensures (apply_not c.args.at (term_tree c.args.base.now c.args.f) (term_tree c.args.base.now c.args.x) c.ty-function.ensures.typed c.ty-argument.ensures.typed (c.in-Err-Ill.ensures.ill c.in-Err-Ill.field-0-is))
