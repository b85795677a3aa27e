-- A plan of two nodes: `false` is asserted, and follows.
use Rattle.std.proofs.Common.{◌≡◌, ℕ, zero, suc, ◌<◌, [], ◌∷◌, refl, inl, inr, arith}
use Rattle.std.proofs.lemmas.List.Elements.{All-nil, All-cons}
use Rattle.hol_terms.specs.TermStore.{TermStore, term_tree, HasTerm}
use Rattle.hol_terms.specs.Formula.{IsFormula}
use Rattle.hol_terms.specs.Constants.{false_tm}
use Rattle.hol_terms.proofs.SetLemmas.{same_refl}
use Rattle.proof_plan.specs.PlanValue.{PlanValue, node_at}
use Rattle.call_tests.specs.Small.{asserted_false, resolved_false}
use Rattle.proof_plan.specs.IsPlan.{IsPlan, IsNode, IsFormulaIn, IsAssertionIn, IsContextFormula}

abbrev pub small_plan : TermStore → ℕ → PlanValue
small_plan s f = record { store = s; parts = record { facts = []; goal = f; assertions = f ∷ []; defs = []; origins = [] }; nodes = asserted_false f ∷ resolved_false f ∷ []; definitions = [] }

false_formula : IsFormula false_tm
false_formula = record { typed = tt; closed = tt; bool = refl }

formula_in : (s : TermStore) (f : ℕ) → HasTerm s f → term_tree s f ≡ false_tm → IsFormulaIn (small_plan s f) f
formula_in s f there is = record { there = there; formula = rw is false_formula }

assertion_in : (s : TermStore) (f : ℕ) → HasTerm s f → term_tree s f ≡ false_tm → IsAssertionIn (small_plan s f) f
assertion_in s f there is =
    let context : IsContextFormula false_tm = record { formula = false_formula; given = λ k n ty free. absurd free } in
    record { there = there; context = rw is context }

small_node : (s : TermStore) (f : ℕ) → HasTerm s f → term_tree s f ≡ false_tm → (k : ℕ) → k < 2 → IsNode (small_plan s f) k (node_at (small_plan s f) k)
small_node s f there is zero l = record {
  count = refl;
  below = All-nil _;
  claim = formula_in s f there is;
  variables = All-nil _;
  adds = inl refl;
  hyps_there = All-nil _;
  hyps = same_refl [];
  asserted = λ _. inl refl;
}
small_node s f there is (suc zero) l = record {
  count = omega arith;
  below = All-cons (λ j. j < 1) 0 [] (omega arith) (All-nil (λ j. j < 1));
  claim = formula_in s f there is;
  variables = All-nil _;
  adds = inl refl;
  hyps_there = All-nil _;
  hyps = same_refl [];
  asserted = λ states. elim states [ inl e ↦ absurd (cc) | inr e ↦ absurd (cc) ];
}
small_node s f there is (suc (suc k)) l = absurd (omega arith)

-- it is a plan
pub small_is_plan : (s : TermStore) (f : ℕ) → HasTerm s f → term_tree s f ≡ false_tm → IsPlan (small_plan s f)
small_is_plan s f there is = record {
  some = omega arith;
  few = omega arith;
  facts = All-nil _;
  goal = formula_in s f there is;
  assertions = All-cons (IsAssertionIn (small_plan s f)) f [] (assertion_in s f there is) (All-nil (IsAssertionIn (small_plan s f)));
  lifted = refl;
  definitions = All-nil _;
  nodes = small_node s f there is;
  root = is;
  closed = refl;
}
