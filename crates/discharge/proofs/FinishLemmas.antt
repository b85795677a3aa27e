-- The goal of a plan follows from its facts.
use Rattle.std.proofs.Common.{◌≡◌, ℕ, ◌-◌, List, [], length, map, ap, subst}
use Rattle.hol_terms.specs.Term.{Term}
use Rattle.hol_terms.specs.Formula.{WithinBut}
use Rattle.hol_terms.specs.Constants.{negation}
use Rattle.hol_terms.specs.Derivable.{Derivable}
use Rattle.hol_terms.specs.declared.parts.Def.{Def}
use Rattle.proof_plan.specs.PlanValue.{PlanValue, tree_in, trees_in}
use Rattle.proof_plan.specs.Claims.{Facts, Hyps, Claim, definition}
use Rattle.proof_plan.specs.IsPlan.{IsPlan}
use Rattle.proof_plan.proofs.ContextLemmas.{facts_formulas}
use Rattle.discharge.specs.Negation.{AssertsNegation}
use Rattle.discharge.specs.ProvedValue.{ProvedValue, IsProved}
use Rattle.discharge.proofs.RefutationLemmas.{but_both, but_nothing, but_last, from_refutation}

-- what is proved of a plan's goal
abbrev pub goal_of : PlanValue → ProvedValue
goal_of p = record { store = p.store; facts = p.parts.facts; goal = p.parts.goal }

-- the root may use the facts and the negation of the goal
root_hyps : (p : PlanValue) → IsPlan p → AssertsNegation p → p.definitions ≡ [] → WithinBut (negation (tree_in p p.parts.goal)) (Hyps p (length p.nodes - 1)) (Facts p)
root_hyps p plan asserts none =
    but_both (but_both (but_last _ (Facts p) asserts) (but_nothing _ (Facts p) (ap (λ (ds : List Def). map (λ d. definition p d) ds) none))) (but_nothing _ (Facts p) (ap (λ (hs : List ℕ). trees_in p hs) plan.closed))

-- so the goal is derivable from the facts alone
pub goal_derivable : (p : PlanValue) → IsPlan p → Claim p (length p.nodes - 1) → AssertsNegation p → p.definitions ≡ [] → Derivable (Facts p) [] (tree_in p p.parts.goal)
goal_derivable p plan root asserts none =
    from_refutation (Facts p) (Hyps p (length p.nodes - 1)) (tree_in p p.parts.goal) (facts_formulas p plan) plan.goal.formula (root_hyps p plan asserts none)
    (subst (λ (t : Term). Derivable (Facts p) (Hyps p (length p.nodes - 1)) t) plan.root root)

-- and the plan's goal is proved
pub goal_is_proved : (p : PlanValue) → IsPlan p → Claim p (length p.nodes - 1) → AssertsNegation p → p.definitions ≡ [] → IsProved (goal_of p)
goal_is_proved p plan root asserts none = record {
  facts = λ k d l. let h = plan.facts k d l in record { there = h.there; formula = h.formula };
  goal = record { there = plan.goal.there; formula = plan.goal.formula };
  derivable = goal_derivable p plan root asserts none;
}
