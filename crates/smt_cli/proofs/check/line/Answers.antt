use Rattle.std.proofs.Common.{◌∙◌, sym, ap, subst}
use Rattle.goal_text.specs.GoalRead.{goal_read}
use Rattle.smt_cli.specs.Answers.{Answer, GoalRefused}
use Rattle.smt_cli.specs.Writing.{IsLineOf}
use Rattle.smt_cli.proofs.CheckLemmas.{answer_said, follows_said, no_fault_read, no_problem_read, refuses, same_fault, says_read, unbuilt_said}
use Rattle.smt_cli.proofs.check.line.Goals as goal

pub returns-in-Ok-clause-proved : goal.returns-in-Ok-clause-proved
returns-in-Ok-clause-proved g c = λ zero all told.
    let cut = ap (λ t. goal_read t) c.as_slice.ensures ∙ c.in_ok-text.ensures.goal all told in
    let is = c.in-Ok.ensures.read in
    (is.said, sym cut ∙ is.read, follows_said c.in-Ok.problem is.said is.says (c.in_ok-line-in-Ok.ensures.proved zero))

pub returns-in-Ok-clause-refused : goal.returns-in-Ok-clause-refused
returns-in-Ok-clause-refused g c = λ all fault told first.
    let cut = ap (λ t. goal_read t) c.as_slice.ensures ∙ c.in_ok-text.ensures.goal all told in
    absurd (no_fault_read c.as_slice.result.now all c.in-Ok.problem fault c.in-Ok.ensures.read cut first)

pub returns-in-Ok-clause-unbuilt : goal.returns-in-Ok-clause-unbuilt
returns-in-Ok-clause-unbuilt g c = λ all p told read not_yet.
    let cut = ap (λ t. goal_read t) c.as_slice.ensures ∙ c.in_ok-text.ensures.goal all told in
    let says = says_read c.as_slice.result.now all c.in-Ok.problem p c.in-Ok.ensures.read cut read in
    c.in_ok-line-in-Ok.ensures.unbuilt (unbuilt_said c.in-Ok.problem p says ∙ not_yet)

pub returns-in-Ok-clause-taken : goal.returns-in-Ok-clause-taken
returns-in-Ok-clause-taken g c = λ all p told some.
    let cut = ap (λ t. goal_read t) c.as_slice.ensures ∙ c.in_ok-text.ensures.goal all told in
    let says = says_read c.as_slice.result.now all c.in-Ok.problem p c.in-Ok.ensures.read cut some.read in
    c.in_ok-line-in-Ok.ensures.taken (unbuilt_said c.in-Ok.problem p says ∙ some.built)

pub returns-in-Ok-clause-answered : goal.returns-in-Ok-clause-answered
returns-in-Ok-clause-answered g c = λ all p h told some other.
    let cut = ap (λ t. goal_read t) c.as_slice.ensures ∙ c.in_ok-text.ensures.goal all told in
    let says = says_read c.as_slice.result.now all c.in-Ok.problem p c.in-Ok.ensures.read cut some.read in
    let line = c.in_ok-line-in-Ok.line in
    let there = ap (λ f. f c.args.proof.now) c.in_ok-text.ensures.contents_stay ∙ other in
    let P : Answer → Type 0 = λ a. IsLineOf a line.text.items line.status in
    subst P (answer_said c.in-Ok.problem p says h) (c.in_ok-line-in-Ok.ensures.answered h (unbuilt_said c.in-Ok.problem p says ∙ some.built) there)

pub returns-in-Err-Refused-clause-refused : goal.returns-in-Err-Refused-clause-refused
returns-in-Err-Refused-clause-refused g c = λ all fault told first.
    let cut = ap (λ t. goal_read t) c.as_slice.ensures ∙ c.in_ok-text.ensures.goal all told in
    let line = c.in_ok-line-in-Err-Refused.line in
    let P : Answer → Type 0 = λ a. IsLineOf a line.text.items line.status in
    subst P (ap GoalRefused (same_fault c.as_slice.result.now all c.in-Err-Refused.fault fault (refuses c.as_slice.result.now c.in-Err-Refused.fault c.in-Err-Refused.field-0 c.in-Err-Refused.field-0-is c.in-Err-Refused.ensures.refused) cut first)) c.in_ok-line-in-Err-Refused.ensures

pub returns-in-Err-Refused-clause-unbuilt : goal.returns-in-Err-Refused-clause-unbuilt
returns-in-Err-Refused-clause-unbuilt g c = λ all p told read not_yet.
    let cut = ap (λ t. goal_read t) c.as_slice.ensures ∙ c.in_ok-text.ensures.goal all told in
    absurd (no_problem_read c.as_slice.result.now all c.in-Err-Refused.fault p (refuses c.as_slice.result.now c.in-Err-Refused.fault c.in-Err-Refused.field-0 c.in-Err-Refused.field-0-is c.in-Err-Refused.ensures.refused) cut read)

pub returns-in-Err-Refused-clause-taken : goal.returns-in-Err-Refused-clause-taken
returns-in-Err-Refused-clause-taken g c = λ all p told some.
    let cut = ap (λ t. goal_read t) c.as_slice.ensures ∙ c.in_ok-text.ensures.goal all told in
    absurd (no_problem_read c.as_slice.result.now all c.in-Err-Refused.fault p (refuses c.as_slice.result.now c.in-Err-Refused.fault c.in-Err-Refused.field-0 c.in-Err-Refused.field-0-is c.in-Err-Refused.ensures.refused) cut some.read)

pub returns-in-Err-Refused-clause-answered : goal.returns-in-Err-Refused-clause-answered
returns-in-Err-Refused-clause-answered g c = λ all p h told some other.
    let cut = ap (λ t. goal_read t) c.as_slice.ensures ∙ c.in_ok-text.ensures.goal all told in
    absurd (no_problem_read c.as_slice.result.now all c.in-Err-Refused.fault p (refuses c.as_slice.result.now c.in-Err-Refused.fault c.in-Err-Refused.field-0 c.in-Err-Refused.field-0-is c.in-Err-Refused.ensures.refused) cut some.read)
