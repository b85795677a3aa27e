use Rattle.hol_terms.specs.TermStore.{term_tree}
use Rattle.goal_text.specs.ItemsIn.{declared_in}
use Rattle.goal_print.specs.Pieces.{AppendsPart}
use Rattle.goal_print.specs.TermText.{goal_text}
use Rattle.goal_print.proofs.LoopLemmas.{part_none, on_err}
use Rattle.goal_print.proofs.print.append_under.Goals as goal

pub returns-in_err-schematic-clause-err : goal.returns-in_err-schematic-clause-err
returns-in_err-schematic-clause-err c =
    let part : AppendsPart (goal_text (declared_in c.args.base.now c.args.consts.now) (term_tree c.args.base.now c.args.goal)) c.args.out.now c.args.out.now = (goal_text (declared_in c.args.base.now c.args.consts.now) (term_tree c.args.base.now c.args.goal), part_none _ _) in
    on_err _ _ part

pub returns-in_err-append_goal-clause-err : goal.returns-in_err-append_goal-clause-err
returns-in_err-append_goal-clause-err c =
    let known = c.in_ok-schematic.ensures in
    let part : AppendsPart (goal_text (declared_in c.args.base.now c.args.consts.now) (term_tree c.args.base.now c.args.goal)) c.args.out.now c.append_goal.new.out = c.in_err-append_goal.ensures.err _ known in
    on_err _ _ part
