-- Which nodes a proof rule accepts: each rule has its row, on the claim and the premises' claims.
-- A node of more than 100,000 distinct parts is refused before its row is looked at. The rows of `asserted`, `goal`,
-- `mp` by an implication, and `unit-resolution` on claims without `or` are there. The row of each other rule isn't there
-- yet and reads: Shape.
use Rattle.std.specs.Prelude.{ℕ, Bool, true, false, ◌||◌, nat_lt, if◌then◌else◌, List, [], ◌∷◌, length}
use Rattle.std.specs.List.{list_any}
use Rattle.hol_terms.specs.Term.{Term}
use Rattle.hol_terms.specs.TermEq.{term_eq}
use Rattle.hol_terms.specs.Constants.{false_tm, negation, implication}
use Rattle.proof_plan.specs.declared.rule.Rule.{Rule}
use Rattle.proof_plan.specs.declared.rule.Rule.TheVariants.{Asserted, Goal, Mp, UnitResolution}
use Rattle.proof_plan.specs.declared.why.Why.{Why}
use Rattle.proof_plan.specs.declared.why.Why.TheVariants.{Shape, TooLarge}
use Rattle.part_numbers.specs.Parts.{parts_of}
use Rattle.proof_plan.specs.PlanValue.{PlanValue, rule_of, claim_of, premise_claims}

-- the answer of a row
pub data Verdict : Type 0 where
  accepted : Verdict
  refused : Why → Verdict

-- the answer of a row that is a form
abbrev pub by_form : Bool → Verdict
by_form true = accepted
by_form false = refused Shape

-- the one formula is the other's negation
abbrev pub are_complements : Term → Term → Bool
are_complements d e = term_eq d (negation e) || term_eq e (negation d)

-- the second premise is the implication from the first to the claim
abbrev pub is_modus_ponens : List Term → Term → Bool
is_modus_ponens [] c = false
is_modus_ponens (a ∷ []) c = false
is_modus_ponens (a ∷ b ∷ []) c = term_eq b (implication a c)
is_modus_ponens (a ∷ b ∷ d ∷ ps) c = false

-- the first premise is a complement of a further one, or the claim, or false; a step that needs that it is a disjunction
-- of such formulas or of pieces of the claim isn't accepted yet, as the proof form has no `or`
abbrev pub is_resolved : List Term → Term → Bool
is_resolved [] c = false
is_resolved (a ∷ ps) c = list_any (are_complements a) ps || term_eq a c || term_eq a false_tm

-- the row of a rule, on the premises' claims and the claim
unfoldable pub row : Rule → List Term → Term → Verdict
row Asserted ps c = accepted
row Goal ps c = accepted
row Mp ps c = by_form (is_modus_ponens ps c)
row UnitResolution ps c = by_form (is_resolved ps c)
row r ps c = refused Shape

-- how many distinct parts a claim and its premises' claims have
unfoldable pub count_of : List Term → Term → ℕ
count_of ps c = length (parts_of (c ∷ ps))

-- the answer to a rule, the premises' claims and the claim: too large, or the row's
unfoldable pub step_answer : Rule → List Term → Term → Verdict
step_answer r ps c = if nat_lt 100000 (count_of ps c) then refused (TooLarge (count_of ps c)) else row r ps c

-- the answer of the row of node k's rule
unfoldable pub row_answer : PlanValue → ℕ → Verdict
row_answer p k = row (rule_of p k) (premise_claims p k) (claim_of p k)

-- whether node k is accepted, and else why not
unfoldable pub Accept : PlanValue → ℕ → Verdict
Accept p k = step_answer (rule_of p k) (premise_claims p k) (claim_of p k)
