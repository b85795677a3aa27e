use Rattle.std.proofs.Common.{◌∙◌, IfOk, sym, ap, subst}
use Rattle.hol_terms.specs.TermStore.{term_tree}
use Rattle.goal_text.specs.ItemsIn.{IsProblem, declared_in}
use Rattle.discharge.specs.ProvedValue.{ProvedValue}
use Rattle.smt_cli.specs.Answers.{Answer, ProvedGoal}
use Rattle.smt_cli.specs.PlanAnswers.{GoalDerivable}
use Rattle.smt_cli.specs.Writing.{IsLineOf}
use Rattle.smt_cli.proofs.AnswerLemmas.{all_answer, proved_status, proves}
use Rattle.smt_cli.proofs.replay_line.proved_line.Goals as goal

pub proved-requires : goal.proved-requires
proved-requires c =
    let P : ProvedValue → Type 0 = λ v. IsProblem (record { base = v.store; consts = c.args.consts; facts = v.facts; goal = v.goal }) in
    subst P (sym c.finish-theorem.ensures.is) c.requires.problem

pub returns-clause-proved : goal.returns-clause-proved
returns-clause-proved c = proves (GoalDerivable c.args.plan) c.proved.result c.finish-theorem.ensures.derivable

pub returns-clause-answered : goal.returns-clause-answered
returns-clause-answered c =
    let tree = ap (λ (v : ProvedValue). ProvedGoal (declared_in v.store c.args.consts) (term_tree v.store v.goal)) c.finish-theorem.ensures.is in
    let same = tree ∙ sym (all_answer (declared_in c.args.plan.store c.args.consts) c.args.plan c.root-root.ensures.lawful c.requires.outcome.0) in
    let P : Answer → Type 0 = λ a. IfOk c.proved.result (λ line. IsLineOf a line.text.items line.status) in
    subst P same c.proved.ensures

pub returns-clause-status : goal.returns-clause-status
returns-clause-status c = proved_status (declared_in c.finish-theorem.result.store c.args.consts) (term_tree c.finish-theorem.result.store c.finish-theorem.result.goal) c.proved.result c.proved.ensures
