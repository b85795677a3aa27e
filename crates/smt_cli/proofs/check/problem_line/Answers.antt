use Rattle.std.proofs.Common.{◌∙◌, ap, subst}
use Rattle.hol_terms.specs.TermStore.{term_tree}
use Rattle.goal_text.specs.ItemsIn.{declared_in}
use Rattle.goal_text.proofs.ProblemKeptLemmas.{constants_same, problem_kept}
use Rattle.first_form.specs.ProofForm.{proof_form}
use Rattle.first_form.specs.Source.{source_at}
use Rattle.smt_cli.specs.Answers.{Answer}
use Rattle.smt_cli.specs.PlanAnswers.{plan_answer}
use Rattle.smt_cli.specs.Writing.{IsLineOf}
use Rattle.smt_cli.proofs.AnswerLemmas.{answer_is}
use Rattle.smt_cli.proofs.check.problem_line.Goals as goal

pub replay_line-requires-clause-problem : goal.replay_line-requires-clause-problem
replay_line-requires-clause-problem g c =
    problem_kept c.args.problem c.in-Ok.plan.store c.in-Ok.consts c.in-Ok.ensures.keeps c.requires c.in-Ok.ensures.consts c.in-Ok.plan.parts.facts c.in-Ok.plan.parts.goal c.in-Ok.ensures.same_facts c.in-Ok.ensures.same_goal

pub returns-in-Ok-clause-answered : goal.returns-in-Ok-clause-answered
returns-in-Ok-clause-answered g c = λ h told.
    let problem = c.args.problem in
    let plan = c.in-Ok.plan in
    let source = source_at problem in
    let line = c.in_ok-line-in-Ok.line in
    let consts = constants_same problem plan.store c.in-Ok.consts c.in-Ok.ensures.keeps c.requires c.in-Ok.ensures.consts in
    let same = ap (λ t. proof_form source t) c.as_slice.ensures ∙ c.in_ok-text.ensures.proof h source told in
    let P : Answer → Type 0 = λ a. IsLineOf a line.text.items line.status in
    subst P
    (ap (λ cs. plan_answer cs plan) consts
    ∙ answer_is source c.as_slice.result.now h (declared_in problem.base problem.consts) (term_tree problem.base problem.goal) plan same c.in-Ok.ensures.read c.in-Ok.ensures.goal)
    c.in_ok-line-in-Ok.ensures.answered
