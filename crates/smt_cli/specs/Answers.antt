-- What `check` answers, by the bytes of both files.
use Rattle.std.specs.Prelude.{ℕ, List, [], ◌∷◌, ◌++◌, Option, Some, None, map, codes, decimal, slice_index_or}
use Rattle.hol_terms.specs.Term.{Term}
use Rattle.hol_terms.specs.Constants.{false_tm}
use Rattle.proof_plan.specs.declared.rule.Rule.{Rule}
use Rattle.proof_plan.specs.declared.rule.Rule.TheVariants.{Asserted}
use Rattle.proof_plan.specs.declared.why.Why.{Why}
use Rattle.proof_plan.specs.Rules.{rule_name}
use Rattle.proof_plan.specs.WhyText.{why_text}
use Rattle.proof_plan.specs.Accept.{Verdict, accepted, refused, step_answer}
use Rattle.goal_text.specs.declared.fault.GoalFault.{GoalFault}
use Rattle.goal_text.specs.KindNames.{kind_name}
use Rattle.goal_text.specs.Names.{Constants}
use Rattle.goal_text.specs.GoalRead.{GoalProblem}
use Rattle.goal_print.specs.TermText.{goal_text}
use Rattle.first_form.specs.Source.{source_of}
use Rattle.first_form.specs.ProofForm.{Proof, proof_form}
use Rattle.first_form.specs.ProofNodes.{ProofNode, nodes_of}

pub data Answer : Type 0 where
  -- the goal file's first fault
  GoalRefused : (fault : GoalFault) → Answer
  -- the goal file says a problem that isn't taken yet
  GoalUnbuilt : Answer
  -- the proof file is outside its form
  ProofRefused : Answer
  -- the node of this name is the first that its rule doesn't accept, for this cause
  FailedAt : (name : List ℕ) → (rule : Rule) → (why : Why) → Answer
  -- each node is proved, and so is the goal, of which these are the declared constants
  ProvedGoal : (consts : Constants) → (goal : Term) → Answer

-- the exit status of an answer
abbrev pub status_of : Answer → ℕ
status_of (GoalRefused fault) = 3
status_of GoalUnbuilt = 3
status_of ProofRefused = 4
status_of (FailedAt name rule why) = 1
status_of (ProvedGoal consts goal) = 0

-- the line that an answer is printed as
abbrev pub text_of : Answer → List ℕ
text_of (GoalRefused fault) = codes "goal refused at " ++ decimal fault.at ++ codes ": " ++ kind_name fault.kind ++ codes "\n"
text_of GoalUnbuilt = codes "goal refused at 0: Unbuilt\n"
text_of ProofRefused = codes "proof refused\n"
text_of (FailedAt name rule why) = codes "failed at " ++ name ++ codes " (" ++ rule_name rule ++ codes "): " ++ why_text why ++ codes "\n"
text_of (ProvedGoal consts goal) = codes "proved " ++ goal_text consts goal ++ codes "\n"

-- no rule application
abbrev pub no_node : ProofNode
no_node = record { name = []; place = 0; rule = Asserted; premises = []; claim = false_tm }

-- what the node of a number claims
abbrev pub claim_at : List ProofNode → ℕ → Term
claim_at nodes j = (slice_index_or nodes j no_node).claim

-- what is said of a node: that it is too large, or what its rule's row says
abbrev pub verdict : List ProofNode → ProofNode → Verdict
verdict nodes n = step_answer n.rule (map (λ j. claim_at nodes j) n.premises) n.claim

-- a node with this verdict, before others with this answer
abbrev pub before : Verdict → ProofNode → Answer → Answer
before accepted n others = others
before (refused w) n others = FailedAt n.name n.rule w

-- The last of the nodes are replayed in order, up to the first that its rule doesn't accept. Where each is accepted, the
-- answer is the last one.
unfoldable pub replayed : List ProofNode → List ProofNode → Answer → Answer
replayed nodes [] last = last
replayed nodes (n ∷ ns) last = before (verdict nodes n) n (replayed nodes ns last)

-- all nodes are replayed
abbrev pub replay_answer : List ProofNode → Answer → Answer
replay_answer nodes last = replayed nodes nodes last

-- the answer to a proof, if there is one
abbrev pub proof_answer : Option Proof → Answer → Answer
proof_answer None last = ProofRefused
proof_answer (Some proof) last = replay_answer (nodes_of proof) last

-- the answer to a problem, by the text of a proof file
abbrev pub problem_answer : GoalProblem → List ℕ → Answer
problem_answer problem text = proof_answer (proof_form (source_of problem) text) (ProvedGoal problem.consts problem.goal)
