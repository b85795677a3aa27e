-- A problem in a store: what it says, by the trees of its numbers.
use Rattle.std.specs.Prelude.{List, ℕ, [], Bool}
use Rattle.hol_terms.specs.TermStore.{term_tree}
use Rattle.hol_terms.specs.Derivable.{Derivable}
use Rattle.goal_text.specs.declared.problem.Problem.{Problem}
use Rattle.goal_text.specs.ItemsIn.{declared_in}
use Rattle.goal_text.specs.Scope.{terms_at}
use Rattle.first_form.specs.Source.{source_at}
use Rattle.first_form.specs.ProofForm.{proof_form}
use Rattle.smt_cli.specs.Answers.{Answer, ProvedGoal, proof_answer}
use Rattle.smt_cli.specs.Unbuilt.{is_unbuilt}

-- its goal is derivable from its facts, without hypotheses
abbrev pub FollowsIn : Problem → Type 0
FollowsIn problem = Derivable (terms_at problem.base problem.facts) [] (term_tree problem.base problem.goal)

-- it isn't taken yet
abbrev pub is_unbuilt_in : Problem → Bool
is_unbuilt_in problem = is_unbuilt (terms_at problem.base problem.facts) (term_tree problem.base problem.goal)

-- the answer to it, by the text of a proof file
abbrev pub answer_in : Problem → List ℕ → Answer
answer_in problem text =
    proof_answer (proof_form (source_at problem) text) (ProvedGoal (declared_in problem.base problem.consts) (term_tree problem.base problem.goal))
