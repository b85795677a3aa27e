-- The rows of acceptance as facts about a node, for what decides them. The number of its parts is not looked at here.
use Rattle.std.specs.Prelude.{◌≡◌, ◌⊎◌, ℕ, ◌<◌, length}
use Rattle.hol_terms.specs.Term.{Term}
use Rattle.hol_terms.specs.Constants.{false_tm, negation, implication}
use Rattle.proof_plan.specs.declared.rule.Rule.{Rule}
use Rattle.proof_plan.specs.declared.rule.Rule.TheVariants.{Asserted, Goal, Mp, UnitResolution}
use Rattle.proof_plan.specs.declared.why.Why.TheVariants.{Shape}
use Rattle.proof_plan.specs.PlanValue.{PlanValue, premises_of, claim_of, premise_claim}
use Rattle.proof_plan.specs.Accept.{Verdict, accepted, refused, row_answer}

-- the one formula is the negation of the other
abbrev pub AreComplements : Term → Term → Type 0
AreComplements d e = (d ≡ negation e) ⊎ (e ≡ negation d)

-- the second premise of node k is the implication from the first to its claim
abbrev pub IsModusPonens : PlanValue → ℕ → Type 0
IsModusPonens p k = premise_claim p k 1 ≡ implication (premise_claim p k 0) (claim_of p k)

-- a further premise of node k is a complement of the first
abbrev pub HasComplement : PlanValue → ℕ → Type 0
HasComplement p k = (i : ℕ) × (0 < i) × (i < length (premises_of p k)) × AreComplements (premise_claim p k 0) (premise_claim p k i)

-- the first premise of node k is a complement of a further one, or the claim, or false
abbrev pub IsResolved : PlanValue → ℕ → Type 0
IsResolved p k = HasComplement p k ⊎ (premise_claim p k 0 ≡ claim_of p k) ⊎ (premise_claim p k 0 ≡ false_tm)

-- the row's answer where the row is a form: accepted where it is met, else Shape
pub record IsForm (Form : Type 0) (v : Verdict) : Type 0 where
  pub met : Form → v ≡ accepted
  pub missed : (Form → ⊥) → v ≡ refused Shape

-- the row of the rule, for node k
abbrev pub IsRow : PlanValue → ℕ → Rule → Type 0
IsRow p k Asserted = row_answer p k ≡ accepted
IsRow p k Goal = row_answer p k ≡ accepted
IsRow p k Mp = IsForm (IsModusPonens p k) (row_answer p k)
IsRow p k UnitResolution = IsForm (IsResolved p k) (row_answer p k)
IsRow p k r = row_answer p k ≡ refused Shape
