use Rattle.std.proofs.Common.{IfOk, ap, subst}
use Rattle.smt_cli.specs.Answers.{FailedAt}
use Rattle.smt_cli.specs.PlanAnswers.{GoalDerivable}
use Rattle.smt_cli.specs.Writing.{IsLineOf}
use Rattle.smt_cli.proofs.AnswerLemmas.{failed_answers, failed_status, failed_proves}
use Rattle.smt_cli.proofs.replay_line.failed_line.Goals as goal

pub returns-clause-proved : goal.returns-clause-proved
returns-clause-proved c = failed_proves c.node.result.now.name c.node.result.now.rule c.args.why (GoalDerivable c.args.plan) c.failed_at.result c.failed_at.ensures

pub returns-clause-answered : goal.returns-clause-answered
returns-clause-answered c =
    let same = ap (λ n. FailedAt n.name n.rule c.args.why) c.node.ensures.is in
    failed_answers c.args.plan c.root-root.ensures.lawful c.args.k c.args.why c.requires.outcome c.failed_at.result
    (subst (λ a. IfOk c.failed_at.result (λ line. IsLineOf a line.text.items line.status)) same c.failed_at.ensures)

pub returns-clause-status : goal.returns-clause-status
returns-clause-status c = failed_status c.node.result.now.name c.node.result.now.rule c.args.why c.failed_at.result c.failed_at.ensures
