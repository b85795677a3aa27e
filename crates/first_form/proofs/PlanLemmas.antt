-- The plan of a proof of `false`.
use Rattle.std.proofs.Common.{◌≡◌, ℕ, ◌+◌, ◌-◌, ◌<◌, inl, inr, zero, suc, List, [], ◌∷◌, length, get_or, refl, sym, ap, subst, ◌∙◌, arith}
use Rattle.std.specs.Prelude.{All, Bool, true, false, ◌&&◌, nat_lt}
use Rattle.std.proofs.Common.{true≢false}
use Rattle.std.proofs.lemmas.Bool.Decides.{nat_tests}
use Rattle.std.specs.List.{flat_map}
use Rattle.std.proofs.lemmas.List.Elements.{All-nil, All-from_recursion, All-weaker}
use Rattle.hol_terms.specs.Constants.{false_tm}
use Rattle.hol_terms.specs.Formula.{In, SameMembers}
use Rattle.hol_terms.specs.Term.{Term}
use Rattle.hol_terms.specs.TermEq.{term_eq}
use Rattle.hol_terms.specs.TermStore.{TermStore, HasTerm, Keeps, term_tree}
use Rattle.hol_terms.proofs.TermEqLemmas.{term_eq_sound}
use Rattle.proof_plan.specs.declared.node.PlanNode.{PlanNode}
use Rattle.proof_plan.specs.declared.rule.Rule.{Rule}
use Rattle.proof_plan.specs.declared.rule.Rule.TheVariants as rules_of
use Rattle.proof_plan.specs.PlanValue.{PlanValue, node_at, no_node, tree_in, trees_in, claim_of}
use Rattle.proof_plan.specs.Claims.{open_hyps}
use Rattle.proof_plan.specs.OpenHypotheses.{hyps_by, hyps_of}
use Rattle.proof_plan.specs.IsPlan.{IsPlan, IsNode, IsFormulaIn, IsAssertionIn, IsVariableIn, IsDefinitionIn, StatesAssertion}
use Rattle.first_form.specs.declared.setting.Setting.{Setting}
use Rattle.goal_text.specs.Scope.{terms_at}
use Rattle.goal_text.specs.Sentences.{HasSentence, HaveSentences}
use Rattle.first_form.specs.ProofPlan.{IsAbout, last_claim}
use Rattle.first_form.specs.Setting.{IsSetting}
use Rattle.first_form.specs.Steps.{AreSteps, IsFirstRule, IsStep}
use Rattle.first_form.proofs.LexiconLemmas.{formula_kept, formulas_kept, terms_kept}

-- step k
step_at : (s : TermStore) (given : List ℕ) (from : ℕ) (nodes : List PlanNode) → AreSteps s given from nodes → (k : ℕ) → k < length nodes → IsStep s given (from + k) (get_or nodes k no_node)
step_at s given from [] are k there = absurd (omega arith)
step_at s given from (n ∷ ns) are zero there =
    let P : ℕ → Type 0 = λ j. IsStep s given j n in
    let e : from ≡ from + 0 = omega arith in
    subst P e are.0
step_at s given from (n ∷ ns) are (suc k) there =
    let P : ℕ → Type 0 = λ j. IsStep s given j (get_or ns k no_node) in
    let e : suc from + k ≡ from + suc k = omega arith in
    subst P e (step_at s given (suc from) ns are.1 k (omega arith))

-- no step has open hypotheses
no_hyps : (s : TermStore) (given : List ℕ) (from : ℕ) (nodes : List PlanNode) → AreSteps s given from nodes → (k : ℕ) → (get_or nodes k no_node).hyps ≡ []
no_hyps s given from [] are k = refl
no_hyps s given from (n ∷ ns) are zero = are.0.hyps
no_hyps s given from (n ∷ ns) are (suc k) = no_hyps s given (suc from) ns are.1 k

none_together : (f : ℕ → List Term) → ((j : ℕ) → f j ≡ []) → (js : List ℕ) → flat_map f js ≡ []
none_together f h [] = refl
none_together f h (j ∷ js) = let e = h j in let r = none_together f h js in rw (e, r) refl

-- the rules of the first form pass open hypotheses on
passes : (r : Rule) (c : Term) (hs : List Term) → IsFirstRule r → hyps_by r c hs ≡ hs
passes r c hs (inl e) = let P : Rule → Type 0 = λ q. hyps_by q c hs ≡ hs in subst P (sym e) refl
passes r c hs (inr (inl e)) = let P : Rule → Type 0 = λ q. hyps_by q c hs ≡ hs in subst P (sym e) refl
passes r c hs (inr (inr e)) = let P : Rule → Type 0 = λ q. hyps_by q c hs ≡ hs in subst P (sym e) refl

no_goal_rule : (r : Rule) → r ≡ rules_of.Goal → IsFirstRule r → r ≡ rules_of.Asserted
no_goal_rule r g (inl e) = e
no_goal_rule r g (inr (inl e)) = absurd (cc)
no_goal_rule r g (inr (inr e)) = absurd (cc)

module _ (p : PlanValue) where
  formula_in : (t : ℕ) → HasSentence p.store t → IsFormulaIn p t
  formula_in t is = record { there = is.there; formula = is.sentence.formula }

  assertion_in : (t : ℕ) → HasSentence p.store t → IsAssertionIn p t
  assertion_in t is = record {
    there = is.there;
    context = record {
      formula = is.sentence.formula;
      given = λ k n ty member. let P : List Term → Type 0 = In _ in absurd (subst P is.sentence.variables member);
    };
  }

  same_members : (xs ys : List Term) → xs ≡ [] → ys ≡ [] → SameMembers xs ys
  same_members xs ys e f =
      let X : Term → List Term → Type 0 = λ t ts. In t ts in
      record { to = λ t h. absurd (subst (X t) e h); from = λ t h. absurd (subst (X t) f h) }

  module _ (steps : AreSteps p.store p.parts.assertions 0 p.nodes) where
    open_none : (k : ℕ) → open_hyps p k ≡ []
    open_none k = let e = no_hyps p.store p.parts.assertions 0 p.nodes steps k in rw e refl

    hyps_none : (n : PlanNode) → IsFirstRule n.rule → hyps_of p n ≡ []
    hyps_none n rule =
        passes n.rule (tree_in p n.claim) (flat_map (λ j. open_hyps p j) n.premises) rule
        ∙ none_together (λ j. open_hyps p j) open_none n.premises

    node_is : (k : ℕ) (n : PlanNode) → IsStep p.store p.parts.assertions k n → IsNode p k n
    node_is k n is =
        let V : List ℕ → Type 0 = All (IsVariableIn p) in
        let F : List ℕ → Type 0 = All (IsFormulaIn p) in
        let none : trees_in p n.hyps ≡ [] = ap (trees_in p) is.hyps in
        record {
          count = is.count;
          below = is.below;
          claim = formula_in n.claim is.claim;
          variables = subst V (sym is.vars) (All-nil (IsVariableIn p));
          adds = inl is.vars;
          hyps_there = subst F (sym is.hyps) (All-nil (IsFormulaIn p));
          hyps = same_members (trees_in p n.hyps) (hyps_of p n) none (hyps_none n is.rule);
          asserted = asserted;
        }
      where
        asserted : StatesAssertion n.rule → In n.claim p.parts.assertions
        asserted (inl e) = is.asserted e
        asserted (inr e) = is.asserted (no_goal_rule n.rule e is.rule)

    nodes_are : (k : ℕ) → k < length p.nodes → IsNode p k (node_at p k)
    nodes_are k there =
        let P : ℕ → Type 0 = λ j. IsStep p.store p.parts.assertions j (node_at p k) in
        let e : 0 + k ≡ k = omega arith in
        node_is k (node_at p k) (subst P e (step_at p.store p.parts.assertions 0 p.nodes steps k there))

    pub plan_is : HaveSentences p.store p.parts.facts → HasSentence p.store p.parts.goal → HaveSentences p.store p.parts.assertions → 0 < length p.nodes → length p.nodes < 400001
        → claim_of p (length p.nodes - 1) ≡ false_tm → p.definitions ≡ [] → p.parts.defs ≡ [] → IsPlan p
    plan_is facts goal given some few root none no_defs =
        let D : List _ → Type 0 = All (IsDefinitionIn p) in
        record {
          some = some;
          few = few;
          facts = All-weaker (HasSentence p.store) (IsFormulaIn p) formula_in p.parts.facts (All-from_recursion (HasSentence p.store) p.parts.facts facts);
          goal = formula_in p.parts.goal goal;
          assertions = All-weaker (HasSentence p.store) (IsAssertionIn p) assertion_in p.parts.assertions (All-from_recursion (HasSentence p.store) p.parts.assertions given);
          lifted = none ∙ sym no_defs;
          definitions = subst D (sym none) (All-nil (IsDefinitionIn p));
          nodes = nodes_are;
          root = root;
          closed = no_hyps p.store p.parts.assertions 0 p.nodes steps (length p.nodes - 1);
        }

-- the last claim is there
pub last_there : (s : TermStore) (given : List ℕ) (nodes : List PlanNode) → AreSteps s given 0 nodes → 0 < length nodes → HasTerm s (last_claim nodes)
last_there s given nodes are some = let last = step_at s given 0 nodes are (length nodes - 1) (omega arith) in last.claim.there

both_true : (a b : Bool) → (a && b) ≡ true → (a ≡ true) × (b ≡ true)
both_true true b h = (refl, h)
both_true false b h = absurd (true≢false (sym h))

below_limit : (n : ℕ) → nat_lt n 400001 ≡ true → n < 400001
below_limit n h = grind (arith, nat_tests)

-- the plan that is made of a setting and the nodes of a proof of `false`
module _ (setting : Setting) (is : IsSetting setting) (u : TermStore) (keeps : Keeps setting.base u) (nodes : List PlanNode) (p : PlanValue)
    (store : p.store ≡ u) (facts : p.parts.facts ≡ setting.facts) (goal : p.parts.goal ≡ setting.goal) (given : p.parts.assertions ≡ setting.assertions) (made : p.nodes ≡ nodes)
    (none : p.definitions ≡ []) (no_defs : p.parts.defs ≡ []) where
  pub made_plan : AreSteps u setting.assertions 0 nodes → 0 < length nodes → (term_eq (term_tree u (last_claim nodes)) false_tm && nat_lt (length nodes) 400001) ≡ true → IsPlan p
  made_plan steps some test =
      let tests = both_true (term_eq (term_tree u (last_claim nodes)) false_tm) (nat_lt (length nodes) 400001) test in
      let root : term_tree u (last_claim nodes) ≡ false_tm = term_eq_sound (term_tree u (last_claim nodes)) false_tm tests.0 in
      let few : length nodes < 400001 = below_limit (length nodes) tests.1 in
      let steps_in : AreSteps p.store p.parts.assertions 0 p.nodes = rw (store, given, made) steps in
      let facts_in : HaveSentences p.store p.parts.facts = rw (store, facts) (formulas_kept setting.base u keeps setting.facts is.facts) in
      let goal_in : HasSentence p.store p.parts.goal = rw (store, goal) (formula_kept keeps is.goal) in
      let given_in : HaveSentences p.store p.parts.assertions = rw (store, given) (formulas_kept setting.base u keeps setting.assertions is.source.assertions_are) in
      let root_in : claim_of p (length p.nodes - 1) ≡ false_tm = rw (store, made) root in
      plan_is p steps_in facts_in goal_in given_in (rw made some) (rw made few) root_in none no_defs

  pub made_about : IsAbout (terms_at setting.base setting.facts) (term_tree setting.base setting.goal) p
  made_about =
      let f = terms_kept setting.base u keeps setting.facts is.facts in
      let g = keeps.trees setting.goal is.goal.there in
      let a = terms_kept setting.base u keeps setting.assertions is.source.assertions_are ∙ is.assertions in
      record {
        facts_are = rw (store, facts) f;
        goal_is = rw (store, goal) g;
        assertions = rw (store, given) a;
        definitions = none;
        symbols = no_defs;
      }
