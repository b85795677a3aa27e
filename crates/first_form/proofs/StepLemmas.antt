-- What the rule applications that are read stand for, as the store grows.
use Rattle.std.proofs.Common.{◌≡◌, ℕ, ◌+◌, ◌<◌, ◌≤◌, suc, List, [], ◌∷◌, ◌++◌, length, refl, ap, subst, arith}
use Rattle.std.specs.Prelude.{All}
use Rattle.hol_terms.specs.TermStore.{TermStore, Keeps}
use Rattle.proof_plan.specs.declared.node.PlanNode.{PlanNode}
use Rattle.first_form.specs.declared.lexicon.Lexicon.{Lexicon}
use Rattle.goal_text.specs.Sentences.{HaveSentences}
use Rattle.first_form.specs.Steps.{node_in, nodes_in, IsStep, AreSteps, IsSource, source_in}
use Rattle.first_form.proofs.LexiconLemmas.{formula_kept, formulas_kept, lexicon_kept, terms_kept}

pub assertions_kept : {s u : TermStore} (assertions : List ℕ) → Keeps s u → HaveSentences s assertions → HaveSentences u assertions
assertions_kept {s = s} {u = u} assertions k are = formulas_kept s u k assertions are

pub source_kept : {s u : TermStore} {lexicon : Lexicon} {assertions : List ℕ} → Keeps s u → IsSource s lexicon assertions → IsSource u lexicon assertions
source_kept {assertions = assertions} k is = record { lexicon_is = lexicon_kept k is.lexicon_is; assertions_are = assertions_kept assertions k is.assertions_are }

pub source_same : (s u : TermStore) (lexicon : Lexicon) (assertions : List ℕ) → Keeps s u → HaveSentences s assertions → source_in u lexicon assertions ≡ source_in s lexicon assertions
source_same s u lexicon assertions k are = let e = terms_kept s u k assertions are in rw e refl

pub nodes_length : (s : TermStore) (ns : List PlanNode) → length (nodes_in s ns) ≡ length ns
nodes_length s [] = refl
nodes_length s (n ∷ ns) = ap suc (nodes_length s ns)

step_kept : (s u : TermStore) → Keeps s u → (assertions : List ℕ) (k : ℕ) (n : PlanNode) → IsStep s assertions k n → IsStep u assertions k n
step_kept s u keeps assertions k n is = record {
  claim = formula_kept keeps is.claim;
  weights = is.weights;
  vars = is.vars;
  hyps = is.hyps;
  rule = is.rule;
  count = is.count;
  below = is.below;
  asserted = is.asserted;
}

pub steps_kept : (s u : TermStore) → Keeps s u → (assertions : List ℕ) (k : ℕ) (ns : List PlanNode) → AreSteps s assertions k ns → AreSteps u assertions k ns
steps_kept s u keeps assertions k [] are = tt
steps_kept s u keeps assertions k (n ∷ ns) are = (step_kept s u keeps assertions k n are.0, steps_kept s u keeps assertions (suc k) ns are.1)

pub nodes_kept : (s u : TermStore) → Keeps s u → (assertions : List ℕ) (k : ℕ) (ns : List PlanNode) → AreSteps s assertions k ns → nodes_in u ns ≡ nodes_in s ns
nodes_kept s u keeps assertions k [] are = refl
nodes_kept s u keeps assertions k (n ∷ ns) are =
    let e = keeps.trees n.claim are.0.claim.there in
    let f = nodes_kept s u keeps assertions (suc k) ns are.1 in
    rw (e, f) refl

pub nodes_pushed : (s : TermStore) (ns : List PlanNode) (n : PlanNode) → nodes_in s (ns ++ n ∷ []) ≡ nodes_in s ns ++ node_in s n ∷ []
nodes_pushed s [] n = refl
nodes_pushed s (x ∷ ns) n = ap (λ l. node_in s x ∷ l) (nodes_pushed s ns n)

pub steps_pushed : (s : TermStore) (assertions : List ℕ) (k : ℕ) (ns : List PlanNode) (n : PlanNode) → AreSteps s assertions k ns → IsStep s assertions (k + length ns) n → AreSteps s assertions k (ns ++ n ∷ [])
steps_pushed s assertions k [] n are is =
    let P : ℕ → Type 0 = λ j. IsStep s assertions j n in
    let e : k + 0 ≡ k = omega arith in
    (subst P e is, tt)
steps_pushed s assertions k (x ∷ ns) n are is =
    let P : ℕ → Type 0 = λ j. IsStep s assertions j n in
    let e : k + suc (length ns) ≡ suc k + length ns = omega arith in
    (are.0, steps_pushed s assertions (suc k) ns n are.1 (subst P e is))

pub all_below : (m n : ℕ) (xs : List ℕ) → m ≤ n → All (λ j. j < m) xs → All (λ j. j < n) xs
all_below m n xs le all = λ k d h. omega (arith, all k d h)
