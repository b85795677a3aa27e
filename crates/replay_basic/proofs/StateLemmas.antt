-- How what a kernel states of a plan's nodes lasts, and what the rules' hypotheses come to.
use Rattle.std.proofs.Common.{◌≡◌, ◌++◌, ◌∙◌, ◌∷◌, [], ◌<◌, ◌≤◌, ◌+◌, ℕ, zero, suc, List, length, drop, sym, subst, ap, ◌⊎◌, inl, inr, arith, Result, Ok, Err, IfOk, IfErr, OnOk}
use Rattle.std.specs.Prelude.{slice_index_or}
use Rattle.std.proofs.lemmas.List.{get_or_read}
use Rattle.std.proofs.lemmas.Grind.{get_or_after_one}
use Rattle.hol_terms.specs.Term.{Term}
use Rattle.hol_terms.specs.Formula.{In, Within, IsFormula, SameMembers}
use Rattle.hol_terms.specs.TermStore.{HasTerm, TermsApart, term_tree}
use Rattle.hol_terms.proofs.KeepsLemmas.{keeps_trans}
use Rattle.hol_terms.proofs.SetLemmas.{within_left, within_trans, within_both, within_from_same, within_right}
use Rattle.lcf_kernel.specs.KernelState.{KernelState, KeepsAll, HasThm, concl_of, hyps_of, context_of, all_hyps_of, IsOutside}
use Rattle.hol_formulas.specs.Formulas.{HasFormula}
use Rattle.proof_plan.specs.PlanValue.{PlanValue, tree_in, claim_of, node_at, rule_of, premises_of, premise_at, premise_claim}
use Rattle.proof_plan.specs.Rules.{TakesPremises}
use Rattle.proof_plan.specs.Claims.{Hyps, Context}
use Rattle.proof_plan.specs.IsPlan.{IsFormulaIn}
use Rattle.hol_terms.specs.Constants.{false_tm, negation}
use Rattle.replay_basic.specs.Replaying.{Serves, StatesNode, StatePremises}
use Rattle.replay_basic.specs.Given.{GivenPremises, StatesFalse, StatesUnder, Contradicts}
use Rattle.proof_plan.specs.OpenHypotheses.{PassesHyps}
use Rattle.proof_plan.specs.Rows.{AreComplements, HasComplement, IsResolved}
use Rattle.proof_plan.specs.declared.why.Why.{Why}
use Rattle.proof_plan.specs.declared.why.Why.TheVariants.{Shape}
use Rattle.proof_plan.specs.declared.state.ReplayFault.{ReplayFault}
use Rattle.proof_plan.specs.declared.state.ReplayFault.TheVariants as faults

-- ---- a kernel that goes on

pub serves_keeps : {p : PlanValue} {k l : KernelState} → Serves p k → KeepsAll k l → Serves p l
serves_keeps {p} s g = record {
  terms = keeps_trans s.terms g.records.store;
  facts = g.records.fact_trees ∙ s.facts;
  context = subst (λ c. Within c (Context p)) (sym g.records.context_trees) s.context;
}

pub all_hyps_keeps : {k l : KernelState} → KeepsAll k l → (t : ℕ) → HasThm k t → all_hyps_of l t ≡ all_hyps_of k t
all_hyps_keeps {k} {l} g t there =
    ap (λ c. c ++ hyps_of l t) g.records.context_trees ∙ ap (λ h. context_of k ++ h) (g.records.hyps t there)

pub states_keeps : {p : PlanValue} {k l : KernelState} {t j : ℕ} → StatesNode p k t j → KeepsAll k l → StatesNode p l t j
states_keeps {p} {k} {l} {t} {j} s g = record {
  there = g.records.has t s.there;
  claim = g.records.concls t s.there ∙ s.claim;
  hyps = subst (λ H. Within H (Hyps p j)) (sym (all_hyps_keeps g t s.there)) s.hyps;
}

-- ---- premises

-- theorems of a node's premises serve its rule
pub premises_given : (p : PlanValue) (k : KernelState) (ts : List ℕ) (j : ℕ) → StatePremises p k ts j → TakesPremises (rule_of p j) (length (premises_of p j))
    → (PassesHyps (rule_of p j) → (i : ℕ) → i < length (premises_of p j) → Within (Hyps p (premise_at p j i)) (Hyps p j)) → GivenPremises p k ts j
premises_given p k ts j s takes passes = record {
  count = s.count;
  takes = subst (λ n. TakesPremises (rule_of p j) n) (sym s.count) takes;
  there = λ i h. (s.each i h).there;
  claims = λ i h. (s.each i h).claim;
  hyps = λ q i h. within_trans (s.each i h).hyps (passes q i (subst (λ n. i < n) s.count h));
}

-- ---- terms of the plan

-- a formula of the plan is one of the kernel, with the same tree
pub formula_there : {p : PlanValue} {k : KernelState} → Serves p k → (t : ℕ) → IsFormulaIn p t → HasFormula k.store t
formula_there {p} {k} s t f = record {
  there = s.terms.terms t f.there;
  formula = subst (λ u. IsFormula u) (sym (s.terms.trees t f.there)) f.formula;
}

-- ---- hypotheses of the rules' conclusions

-- a conclusion with the hypotheses of two records
pub union_within : (k l : KernelState) (r a b : ℕ) (K : List Term) → context_of l ≡ context_of k → SameMembers (hyps_of l r) (hyps_of k a ++ hyps_of k b)
    → Within (all_hyps_of k a) K → Within (all_hyps_of k b) K → Within (all_hyps_of l r) K
union_within k l r a b K e same left right =
    let from_a = within_trans (within_right (context_of k) (hyps_of k a)) left in
    let from_b = within_trans (within_right (context_of k) (hyps_of k b)) right in
    let hyps : Within (hyps_of l r) K = within_trans (within_from_same same) (within_both from_a from_b) in
    let context : Within (context_of k) K = within_trans (within_left (context_of k) (hyps_of k a)) left in
    within_both (subst (λ c. Within c K) (sym e) context) hyps

-- a conclusion with the hypotheses of one record
pub same_within : (k l : KernelState) (r a : ℕ) (K : List Term) → context_of l ≡ context_of k → SameMembers (hyps_of l r) (hyps_of k a)
    → Within (all_hyps_of k a) K → Within (all_hyps_of l r) K
same_within k l r a K e same within =
    let context : Within (context_of k) K = within_trans (within_left (context_of k) (hyps_of k a)) within in
    within_both (subst (λ c. Within c K) (sym e) context) (within_trans (within_from_same same) (within_trans (within_right (context_of k) (hyps_of k a)) within))

-- a conclusion with itself as its one hypothesis, where the node may use it
pub assumed_within : (p : PlanValue) (k l : KernelState) (r : ℕ) (t : Term) (j : ℕ) → Serves p k → context_of l ≡ context_of k → IsOutside (context_of k) (t ∷ []) (hyps_of l r)
    → In t (Context p) → Within (all_hyps_of l r) (Hyps p j)
assumed_within p k l r t j s e out there = within_both context (record { inside = hyps })
  where
    in_hyps : Within (Context p) (Hyps p j)
    in_hyps = within_left (Context p) _

    context : Within (context_of l) (Hyps p j)
    context = subst (λ c. Within c (Hyps p j)) (sym e) (within_trans s.context in_hyps)

    one : (u : Term) → (u ≡ t) ⊎ ⊥ → In u (Hyps p j)
    one u (inl same) = in_hyps.inside u (subst (λ v. In v (Context p)) (sym same) there)
    one u (inr h) = absurd h

    hyps : (u : Term) → In u (hyps_of l r) → In u (Hyps p j)
    hyps u h = one u (out.from u h)

-- ---- contradictions

pub states_false : (k l : KernelState) (r a b : ℕ) → KeepsAll k l → HasThm l r → concl_of l r ≡ false_tm → SameMembers (hyps_of l r) (hyps_of k a ++ hyps_of k b) → StatesFalse k l r a b
states_false k l r a b g there claim same = record {
  there = there;
  claim = claim;
  hyps = union_within k l r a b (all_hyps_of k a ++ all_hyps_of k b) g.records.context_trees same (within_left (all_hyps_of k a) (all_hyps_of k b)) (within_right (all_hyps_of k a) (all_hyps_of k b));
}

-- the same the other way round, and later
pub states_false_after : (k m l : KernelState) (r a b : ℕ) → KeepsAll k m → KeepsAll m l → HasThm k a → HasThm k b → HasThm l r → concl_of l r ≡ false_tm → SameMembers (hyps_of l r) (hyps_of m b ++ hyps_of m a) → StatesFalse k l r a b
states_false_after k m l r a b g h has_a has_b there claim same = record {
  there = there;
  claim = claim;
  hyps = union_within m l r b a K h.records.context_trees same right left;
}
  where
    K : List Term
    K = all_hyps_of k a ++ all_hyps_of k b

    left : Within (all_hyps_of m a) K
    left = subst (λ H. Within H K) (sym (all_hyps_keeps g a has_a)) (within_left (all_hyps_of k a) (all_hyps_of k b))

    right : Within (all_hyps_of m b) K
    right = subst (λ H. Within H K) (sym (all_hyps_keeps g b has_b)) (within_right (all_hyps_of k a) (all_hyps_of k b))

-- what a kernel says of two conclusions it said before
pub negation_before : (k m : KernelState) (a b : ℕ) → KeepsAll k m → HasThm k a → HasThm k b → concl_of m b ≡ negation (concl_of m a) → concl_of k b ≡ negation (concl_of k a)
negation_before k m a b g has_a has_b e = sym (g.records.concls b has_b) ∙ e ∙ ap (λ t. negation t) (g.records.concls a has_a)

-- ---- claims

-- a conclusion whose number is the claim's states the claim
pub claim_stated : (p : PlanValue) (l : KernelState) (r u t j : ℕ) → Serves p l → term_tree l.store u ≡ concl_of l r → u ≡ t → t ≡ (node_at p j).claim → IsFormulaIn p t → concl_of l r ≡ claim_of p j
claim_stated p l r u t j s e same is f = sym e ∙ ap (λ v. term_tree l.store v) same ∙ s.terms.trees t f.there ∙ ap (λ v. tree_in p v) is

-- ---- items of lists

-- what indexing gives is the item at the place
pub item_is : (xs : List ℕ) (i x : ℕ) → i < length xs → x ≡ slice_index_or xs i x → slice_index_or xs i 0 ≡ x
item_is xs i x h e = sym (get_or_read xs i x h e 0)

-- the further items of a list with a first
rest_item : (ts : List ℕ) (i : ℕ) → slice_index_or (drop 1 ts) i 0 ≡ slice_index_or ts (1 + i) 0
rest_item ts i = get_or_after_one ts i 0

rest_within : (ts : List ℕ) (i : ℕ) → i < length (drop 1 ts) → 1 + i < length ts
rest_within [] i h = absurd (omega arith)
rest_within (t ∷ ts) i h = omega arith

rest_below : (ts : List ℕ) (i : ℕ) → 1 + i < length ts → i < length (drop 1 ts)
rest_below [] i h = absurd (omega arith)
rest_below (t ∷ ts) i h = omega arith

-- complements of equal formulas
complements_same : {a b c d : Term} → a ≡ c → b ≡ d → AreComplements a b → AreComplements c d
complements_same e f (inl h) = inl (sym e ∙ h ∙ ap (λ t. negation t) f)
complements_same e f (inr h) = inr (sym f ∙ h ∙ ap (λ t. negation t) e)

-- ---- answers that go on from a callee's

pub under_states : (p : PlanValue) (k l : KernelState) (j a : ℕ) (r : Result ℕ ReplayFault) → IfOk r (λ t. StatesUnder p k l t j a) → Within (all_hyps_of k a) (Hyps p j) → IfOk r (λ t. StatesNode p l t j)
under_states p k l j a (Ok t) u w = record { there = u.there; claim = u.claim; hyps = u.hyps (Hyps p j) w }
under_states p k l j a (Err e) u w = tt

pub always_ok : {P : Type 0} (r : Result ℕ ReplayFault) → P → OnOk r P
always_ok (Ok t) h = h
always_ok (Err e) h = tt

pub refused_by : {A B : Type 0} (r : Result ℕ ReplayFault) → IfErr r (λ e. (w : Why) → e ≡ faults.Why w → (w ≡ Shape) × (A → ⊥)) → (B → A) → IfErr r (λ e. (w : Why) → e ≡ faults.Why w → (w ≡ Shape) × (B → ⊥))
refused_by (Ok t) h f = tt
refused_by (Err e) h f = λ w same. let q = h w same in (q.0, λ b. q.1 (f b))

-- ---- resolution

-- a contradiction among the premises is under no more than what the node may use
pub contradiction_within : (p : PlanValue) (k m : KernelState) (falsity j : ℕ) (ts : List ℕ) (first : ℕ) → GivenPremises p k ts j → PassesHyps (rule_of p j) → 1 ≤ length ts → first ≡ slice_index_or ts 0 first
    → Contradicts k m falsity first (drop 1 ts) → Within (all_hyps_of m falsity) (Hyps p j)
contradiction_within p k m falsity j ts first given passes some is found =
    let H = Hyps p j in
    let one : Within (all_hyps_of k first) H = subst (λ t. Within (all_hyps_of k t) H) (item_is ts 0 first some is) (given.hyps passes 0 some) in
    let inside = rest_within ts found.place found.within in
    let other : Within (all_hyps_of k (slice_index_or (drop 1 ts) found.place 0)) H = subst (λ t. Within (all_hyps_of k t) H) (sym (rest_item ts found.place)) (given.hyps passes (1 + found.place) inside) in
    within_trans found.states.hyps (within_both one other)

-- and makes the first premise a complement of a further one
pub complement_among : (p : PlanValue) (k m : KernelState) (falsity j : ℕ) (ts : List ℕ) (first : ℕ) → GivenPremises p k ts j → 1 ≤ length ts → first ≡ slice_index_or ts 0 first
    → Contradicts k m falsity first (drop 1 ts) → HasComplement p j
complement_among p k m falsity j ts first given some is found =
    let inside = rest_within ts found.place found.within in
    let one : concl_of k first ≡ premise_claim p j 0 = subst (λ t. concl_of k t ≡ premise_claim p j 0) (item_is ts 0 first some is) (given.claims 0 some) in
    let other : concl_of k (slice_index_or (drop 1 ts) found.place 0) ≡ premise_claim p j (1 + found.place) = subst (λ t. concl_of k t ≡ premise_claim p j (1 + found.place)) (sym (rest_item ts found.place)) (given.claims (1 + found.place) inside) in
    let e = given.count in
    (1 + found.place, omega arith, omega arith, complements_same one other found.complement)

-- a conclusion that is the claim has the claim's number
pub other_claim : (p : PlanValue) (k : KernelState) (u t first j : ℕ) → Serves p k → TermsApart k.store → HasTerm k.store u → term_tree k.store u ≡ concl_of k first → t ≡ (node_at p j).claim → IsFormulaIn p t → concl_of k first ≡ claim_of p j → u ≡ t
other_claim p k u t first j s apart there e is f same = apart u t there (s.terms.terms t f.there) (e ∙ same ∙ ap (λ v. tree_in p v) (sym is) ∙ sym (s.terms.trees t f.there))

-- where no further premise contradicts the first and it isn't the claim, only `false` is left
pub not_resolved : (p : PlanValue) (k m : KernelState) (j : ℕ) (ts : List ℕ) (first : ℕ) → KeepsAll k m → GivenPremises p k ts j → 1 ≤ length ts → first ≡ slice_index_or ts 0 first
    → ((i : ℕ) → i < length (drop 1 ts) → AreComplements (concl_of k first) (concl_of k (slice_index_or (drop 1 ts) i 0)) → ⊥) → (concl_of k first ≡ claim_of p j → ⊥) → IsResolved p j → concl_of m first ≡ false_tm
not_resolved p k m j ts first g given some is none apart resolved = by resolved
  where
    there : HasThm k first
    there = subst (λ t. HasThm k t) (item_is ts 0 first some is) (given.there 0 some)

    one : concl_of k first ≡ premise_claim p j 0
    one = subst (λ t. concl_of k t ≡ premise_claim p j 0) (item_is ts 0 first some is) (given.claims 0 some)

    complement : (i : ℕ) → 0 < i → i < length (premises_of p j) → AreComplements (premise_claim p j 0) (premise_claim p j i) → ⊥
    complement zero l h e = absurd (omega arith)
    complement (suc i) l h e =
        let c = given.count in
        let inside : 1 + i < length ts = omega arith in
        let other : concl_of k (slice_index_or (drop 1 ts) i 0) ≡ premise_claim p j (1 + i) = subst (λ t. concl_of k t ≡ premise_claim p j (1 + i)) (sym (rest_item ts i)) (given.claims (1 + i) inside) in
        let n : 1 + i ≡ suc i = omega arith in
        none i (rest_below ts i inside) (complements_same (sym one) (sym (other ∙ ap (λ x. premise_claim p j x) n)) e)

    by : HasComplement p j ⊎ ((premise_claim p j 0 ≡ claim_of p j) ⊎ (premise_claim p j 0 ≡ false_tm)) → concl_of m first ≡ false_tm
    by (inl e) = absurd (complement e.0 e.1 e.2 e.3)
    by (inr (inl e)) = absurd (apart (one ∙ e))
    by (inr (inr e)) = g.records.concls first there ∙ one ∙ e
