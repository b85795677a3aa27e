-- How a run of `check` ends, by its line.
use Rattle.std.proofs.Common.{◌≡◌, ◌∙◌, ◌⊎◌, ℕ, List, [], Option, Some, Ok, Err, true, refl, sym, subst, inl, inr, arith}
use Rattle.hol_terms.specs.Derivable.{Derivable}
use Rattle.hol_terms.specs.TermStore.{term_tree}
use Rattle.goal_text.specs.declared.fault.GoalFault.{GoalFault}
use Rattle.goal_text.specs.declared.problem.Problem.{Problem}
use Rattle.goal_text.specs.GoalRead.{FirstFault, GoalProblem, GoalRead, goal_read}
use Rattle.goal_text.specs.declared.fault.GoalFailure.{GoalFailure}
use Rattle.goal_text.specs.declared.fault.GoalFailure.TheVariants.{Refused}
use Rattle.goal_text.specs.ItemsIn.{IsRead, Refuses, Says}
use Rattle.goal_text.specs.Read.{Read}
use Rattle.goal_text.proofs.KeptLemmas.{same_Ok}
use Rattle.smt_cli.specs.Answers.{Answer, GoalRefused, GoalUnbuilt, problem_answer, text_of}
use Rattle.smt_cli.specs.Checking.{Checks, IsTaken}
use Rattle.smt_cli.specs.Follows.{Follows, IsCheckStatus, IsLineStatus, IsProblemStatus}
use Rattle.smt_cli.specs.Problems.{FollowsIn, answer_in, is_unbuilt_in}
use Rattle.smt_cli.specs.Unbuilt.{is_unbuilt}
use Rattle.smt_cli.specs.Writing.{Ends, EndsSomehow, IsLine, IsLineOf, Writes}

-- a line that is an answer's is a line
pub is_line_of : {a : Answer} {text : List ℕ} {status : ℕ} → IsLineOf a text status → IsLine text status
is_line_of {a} is = (a, is)

-- a line that is an answer's, written, ends the run with the answer
pub line_ends : (a : Answer) (text : List ℕ) (status : ℕ) (before after : Option (List ℕ)) (result : ℕ) → IsLineOf a text status → Writes text status before after result → Ends a before after result
line_ends a text status before after result is w = inl (subst (λ s. Writes (text_of a) s before after result) is.status_is (subst (λ t. Writes t status before after result) is.text_is w))

-- a line that is written ends the run somehow, and so does nothing written
pub line_ends_somehow : {before after : Option (List ℕ)} (text : List ℕ) (status result : ℕ) → IsLine text status → Writes text status before after result → EndsSomehow before after result
line_ends_somehow {before} {after} text status result (a, is) w = (a, line_ends a text status before after result is w)

pub early_ends : (before : Option (List ℕ)) (result : ℕ) → (result ≡ 5) ⊎ (result ≡ 7) → EndsSomehow before before result
early_ends before result e = (GoalUnbuilt, inr (e, refl))

written_status : (text : List ℕ) (status : ℕ) (before after : Option (List ℕ)) (result : ℕ) → Writes text status before after result → (result ≡ status) ⊎ (result ≡ 6)
written_status text status before after result (inl w) = inl w.0
written_status text status before after result (inr w) = inr w.0

check_status : (status result : ℕ) → IsLineStatus status → (result ≡ status) ⊎ (result ≡ 6) → IsCheckStatus result
check_status status result is (inl e) = inl (subst (λ s. IsLineStatus s) (sym e) is)
check_status status result is (inr e) = inr (inr (inl e))

not_refused : (status result : ℕ) → IsProblemStatus status → (result ≡ status) ⊎ (result ≡ 6) → result ≡ 3 → ⊥
not_refused status result (inl s) (inl e) three = omega arith
not_refused status result (inr (inl s)) (inl e) three = omega arith
not_refused status result (inr (inr s)) (inl e) three = omega arith
not_refused status result is (inr e) three = omega arith

-- a run that writes a line
pub line_checks : (goal proof before after : Option (List ℕ)) (result : ℕ) (text : List ℕ) (status : ℕ) → Writes text status before after result → IsLineStatus status
    → ((g : List ℕ) (fault : GoalFault) → goal ≡ Some g → FirstFault g fault → IsLineOf (GoalRefused fault) text status)
    → ((g : List ℕ) (p : GoalProblem) → goal ≡ Some g → GoalRead g p → is_unbuilt p.facts p.goal ≡ true → IsLineOf GoalUnbuilt text status)
    → ((g : List ℕ) (p : GoalProblem) → goal ≡ Some g → IsTaken g p → IsProblemStatus status)
    → ((g : List ℕ) (p : GoalProblem) (h : List ℕ) → goal ≡ Some g → IsTaken g p → proof ≡ Some h → IsLineOf (problem_answer p h) text status)
    → Checks goal proof before after result
line_checks goal proof before after result text status w is refused unbuilt taken answered = record {
  status = check_status status result is (written_status text status before after result w);
  refused = λ g fault told first. line_ends (GoalRefused fault) text status before after result (refused g fault told first) w;
  unbuilt = λ g p told read not_yet. line_ends GoalUnbuilt text status before after result (unbuilt g p told read not_yet) w;
  taken = λ g p told some three. not_refused status result (taken g p told some) (written_status text status before after result w) three;
  answered = λ g p h told some other. line_ends (problem_answer p h) text status before after result (answered g p h told some other) w;
}

-- a run that ends early
pub early_checks : (goal proof before : Option (List ℕ)) (result : ℕ) → (result ≡ 5) ⊎ (result ≡ 7) → Checks goal proof before before result
early_checks goal proof before result e = record {
  status = status e;
  refused = λ g fault told first. inr (e, refl);
  unbuilt = λ g p told read not_yet. inr (e, refl);
  taken = λ g p told some three. taken e three;
  answered = λ g p h told some other. inr (e, refl);
}
  where
    status : (result ≡ 5) ⊎ (result ≡ 7) → IsCheckStatus result
    status (inl f) = inr (inl f)
    status (inr f) = inr (inr (inr f))

    taken : (result ≡ 5) ⊎ (result ≡ 7) → result ≡ 3 → ⊥
    taken (inl f) three = omega arith
    taken (inr f) three = omega arith

-- ---- what a goal file is read as, by its text or so much of it

-- a failure that is a fault is the first
pub refuses : (text : List ℕ) (fault : GoalFault) (failure : GoalFailure) → failure ≡ Refused fault → Refuses text failure → FirstFault text fault
refuses text fault failure e h = let P : GoalFailure → Type 0 = Refuses text in subst P e h

-- a problem that was read is the one that the file says
pub says_read : (text all : List ℕ) (problem : Problem) (p : GoalProblem) → IsRead text problem → goal_read text ≡ goal_read all → GoalRead all p → Says problem p
says_read text all problem p is cut read = let P : GoalProblem → Type 0 = Says problem in subst P (same_Ok is.said p (sym is.read ∙ cut ∙ read)) is.says

-- where a problem was read there is no fault
pub no_fault_read : (text all : List ℕ) (problem : Problem) (fault : GoalFault) → IsRead text problem → goal_read text ≡ goal_read all → FirstFault all fault → ⊥
no_fault_read text all problem fault is cut first = ok_err (sym is.read ∙ cut ∙ first)
  where
    ok_err : ◌≡◌ {A = Read GoalProblem} (Ok is.said) (Err fault) → ⊥
    ok_err k = cc

-- where a fault was met there is no problem, and it is the first fault
pub no_problem_read : (text all : List ℕ) (fault : GoalFault) (p : GoalProblem) → FirstFault text fault → goal_read text ≡ goal_read all → GoalRead all p → ⊥
no_problem_read text all fault p first cut read = ok_err (sym read ∙ sym cut ∙ first)
  where
    ok_err : ◌≡◌ {A = Read GoalProblem} (Ok p) (Err fault) → ⊥
    ok_err k = cc

pub same_fault : (text all : List ℕ) (met fault : GoalFault) → FirstFault text met → goal_read text ≡ goal_read all → FirstFault all fault → met ≡ fault
same_fault text all met fault one cut first = same_Err (sym one ∙ cut ∙ first)
  where
    same_Err : ◌≡◌ {A = Read GoalProblem} (Err met) (Err fault) → met ≡ fault
    same_Err k = cc

module _ (problem : Problem) (p : GoalProblem) (says : Says problem p) where
  pub unbuilt_said : is_unbuilt_in problem ≡ is_unbuilt p.facts p.goal
  unbuilt_said = let f = says.facts in let g = says.goal in rw (f, g) refl

  pub answer_said : (text : List ℕ) → answer_in problem text ≡ problem_answer p text
  answer_said text = let f = says.facts in let g = says.goal in let c = says.consts in rw (f, g, c) refl

  pub follows_said : FollowsIn problem → Follows p
  follows_said d = subst (λ g. Derivable p.facts [] g) says.goal (subst (λ fs. Derivable fs [] (term_tree problem.base problem.goal)) says.facts d)
