-- The rows of acceptance, from the tests that compute them.
use Rattle.std.proofs.Common.{◌≡◌, ◌⊎◌, ℕ, zero, suc, ◌<◌, Bool, true, false, List, [], ◌∷◌, length, map, refl, sym, ap, ◌∙◌, true≢false, inl, inr, arith, ◌||◌, slice_index_or, Decides}
use Rattle.std.specs.List.{list_any}
use Rattle.std.proofs.lemmas.Bool.Decides.{Decides-or, Decides-like}
use Rattle.hol_terms.specs.Term.{Term}
use Rattle.hol_terms.specs.TermEq.{term_eq}
use Rattle.hol_terms.specs.Constants.{false_tm, negation, implication}
use Rattle.hol_terms.proofs.TermEqLemmas.{term_eq_decides}
use Rattle.proof_plan.specs.declared.rule.Rule.{Rule}
use Rattle.proof_plan.specs.declared.rule.Rule.TheVariants.{Mp, UnitResolution}
use Rattle.proof_plan.specs.Rules.{TakesPremises}
use Rattle.proof_plan.specs.PlanValue.{PlanValue, rule_of, premises_of, claim_of, premise_claims}
use Rattle.proof_plan.specs.Accept.{Verdict, by_form, are_complements, is_modus_ponens, is_resolved, row, row_answer}
use Rattle.proof_plan.specs.Rows.{AreComplements, IsForm, IsRow}

-- a row that is a form, by the test that decides the form
form_by_test : {Form : Type 0} (b : Bool) → Decides b Form → IsForm Form (by_form b)
form_by_test true d = record { met = λ _. refl; missed = λ no. absurd (no (d.0 refl)) }
form_by_test false d = record { met = λ f. absurd (true≢false (sym (d.1 f))); missed = λ _. refl }

complements_decides : (d e : Term) → Decides (are_complements d e) (AreComplements d e)
complements_decides d e = Decides-or (term_eq d (negation e)) (term_eq e (negation d)) (term_eq_decides d (negation e)) (term_eq_decides e (negation d))

-- some formula of those at the numbers is a complement
abbrev AnyComplement : (ℕ → Term) → Term → List ℕ → Type 0
AnyComplement f a js = (i : ℕ) × (i < length js) × AreComplements a (f (slice_index_or js i 0))

first : (f : ℕ → Term) (a : Term) (j : ℕ) (js : List ℕ) → AreComplements a (f j) ⊎ AnyComplement f a js → AnyComplement f a (j ∷ js)
first f a j js (inl e) = (0, omega arith, e)
first f a j js (inr e) = let l : e.0 < length js = e.1 in (suc e.0, omega arith, e.2)

last : (f : ℕ → Term) (a : Term) (j : ℕ) (js : List ℕ) → AnyComplement f a (j ∷ js) → AreComplements a (f j) ⊎ AnyComplement f a js
last f a j js (zero, l, e) = inl e
last f a j js (suc i, l, e) = inr (i, omega arith, e)

any_decides : (f : ℕ → Term) (a : Term) (js : List ℕ) → Decides (list_any (are_complements a) (map f js)) (AnyComplement f a js)
any_decides f a [] = (λ h. absurd (true≢false (sym h)), λ e. absurd (let l = e.1 in omega arith))
any_decides f a (j ∷ js) =
    Decides-like (are_complements a (f j) || list_any (are_complements a) (map f js)) (first f a j js) (last f a j js)
    (Decides-or (are_complements a (f j)) (list_any (are_complements a) (map f js)) (complements_decides a (f j)) (any_decides f a js))

-- the row of `mp`, by the premises' numbers
mp_form : (f : ℕ → Term) (js : List ℕ) (c : Term) → length js ≡ 2 → IsForm (f (slice_index_or js 1 0) ≡ implication (f (slice_index_or js 0 0)) c) (by_form (is_modus_ponens (map f js) c))
mp_form f [] c l = absurd (omega arith)
mp_form f (a ∷ []) c l = absurd (omega arith)
mp_form f (a ∷ b ∷ []) c l = form_by_test (term_eq (f b) (implication (f a) c)) (term_eq_decides (f b) (implication (f a) c))
mp_form f (a ∷ b ∷ d ∷ js) c l = absurd (omega arith)

-- what `unit-resolution` asks, by the premises' numbers
abbrev Resolved : (ℕ → Term) → List ℕ → Term → Type 0
Resolved f js c = ((i : ℕ) × (0 < i) × (i < length js) × AreComplements (f (slice_index_or js 0 0)) (f (slice_index_or js i 0))) ⊎ (f (slice_index_or js 0 0) ≡ c) ⊎ (f (slice_index_or js 0 0) ≡ false_tm)

to_resolved : (f : ℕ → Term) (a : ℕ) (js : List ℕ) (c : Term) → (AnyComplement f (f a) js ⊎ (f a ≡ c)) ⊎ (f a ≡ false_tm) → Resolved f (a ∷ js) c
to_resolved f a js c (inl (inl e)) = let l : e.0 < length js = e.1 in inl (suc e.0, omega arith, omega arith, e.2)
to_resolved f a js c (inl (inr e)) = inr (inl e)
to_resolved f a js c (inr e) = inr (inr e)

from_resolved : (f : ℕ → Term) (a : ℕ) (js : List ℕ) (c : Term) → Resolved f (a ∷ js) c → (AnyComplement f (f a) js ⊎ (f a ≡ c)) ⊎ (f a ≡ false_tm)
from_resolved f a js c (inl (zero, s, l, e)) = absurd (omega arith)
from_resolved f a js c (inl (suc i, s, l, e)) = inl (inl (i, omega arith, e))
from_resolved f a js c (inr (inl e)) = inl (inr e)
from_resolved f a js c (inr (inr e)) = inr e

resolved_form : (f : ℕ → Term) (js : List ℕ) (c : Term) → 0 < length js → IsForm (Resolved f js c) (by_form (is_resolved (map f js) c))
resolved_form f [] c l = absurd (omega arith)
resolved_form f (a ∷ js) c l =
    let by_complement = any_decides f (f a) js in
    let by_claim = term_eq_decides (f a) c in
    let by_false = term_eq_decides (f a) false_tm in
    let some = list_any (are_complements (f a)) (map f js) in
    form_by_test (some || term_eq (f a) c || term_eq (f a) false_tm)
    (Decides-like (some || term_eq (f a) c || term_eq (f a) false_tm) (to_resolved f a js c) (from_resolved f a js c)
    (Decides-or (some || term_eq (f a) c) (term_eq (f a) false_tm) (Decides-or some (term_eq (f a) c) by_complement by_claim) by_false))

-- the answer of the rule's row
answer_by : (p : PlanValue) (k : ℕ) (r : Rule) → rule_of p k ≡ r → row_answer p k ≡ row r (premise_claims p k) (claim_of p k)
unfolding row_answer
answer_by p k r e = ap (λ (s : Rule). row s (premise_claims p k) (claim_of p k)) e

form_along : {Form : Type 0} (v w : Verdict) → v ≡ w → IsForm Form w → IsForm Form v
form_along v w e f = record { met = λ h. e ∙ f.met h; missed = λ no. e ∙ f.missed no }

-- the row of each rule, for a node with as many premises as the rule takes
pub row_is : (p : PlanValue) (k : ℕ) (r : Rule) → rule_of p k ≡ r → TakesPremises r (length (premises_of p k)) → IsRow p k r
unfolding row
row_is p k Mp e n = form_along _ _ (answer_by p k Mp e) (mp_form (λ j. claim_of p j) (premises_of p k) (claim_of p k) n)
row_is p k UnitResolution e n = form_along _ _ (answer_by p k UnitResolution e) (resolved_form (λ j. claim_of p j) (premises_of p k) (claim_of p k) n)
row_is p k r e n = answer_by p k r e
