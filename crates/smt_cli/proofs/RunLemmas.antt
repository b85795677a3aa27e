-- A kernel made for a plan, and the theorems of its nodes in order.
use Rattle.std.proofs.Common.{◌≡◌, ◌++◌, ◌∙◌, ◌∷◌, [], ◌<◌, ◌+◌, ℕ, suc, List, length, length-append, map, refl, sym, subst, ap, ◌⊎◌, inl, inr, arith}
use Rattle.std.specs.Prelude.{slice_index_or, All}
use Rattle.std.proofs.lemmas.List.{get_or-map, length-map, get_or_append_left}
use Rattle.std.proofs.Math.Seq.{get_or-append_seam}
use Rattle.std.proofs.Math.Nat.{eq-or-lt_of_le}
use Rattle.hol_terms.specs.declared.node.FreeKind.TheVariants.{Open}
use Rattle.hol_terms.specs.Formula.{In, Within, AllFormulas}
use Rattle.hol_terms.specs.Derivable.{Derivable}
use Rattle.hol_terms.specs.TermStore.{Keeps}
use Rattle.hol_terms.proofs.DerivableLemmas.{more}
use Rattle.hol_terms.proofs.SetLemmas.{within_left}
use Rattle.lcf_kernel.specs.KernelState.{KernelState, KeepsAll, concl_of, facts_of, context_of, all_hyps_of}
use Rattle.hol_formulas.specs.Formulas.{HasFormulas, IsContext, trees}
use Rattle.hol_formulas.proofs.GrowthLemmas.{trees_keep}
use Rattle.proof_plan.specs.PlanValue.{PlanValue, premises_of, premise_at, claim_of}
use Rattle.proof_plan.specs.Accept.{Accept, accepted}
use Rattle.proof_plan.specs.Claims.{Facts, Assertions, Definitions, Context, Hyps, Claim}
use Rattle.proof_plan.specs.IsPlan.{IsFormulaIn, IsAssertionIn, IsGivenKind}
use Rattle.replay_basic.specs.Replaying.{Serves, StatesNode, StatePremises}
use Rattle.replay_basic.proofs.StateLemmas.{serves_keeps, states_keeps, item_is}
use Rattle.smt_cli.specs.Outcomes.{AllAccepted, IsReplayed, StateNodes}

-- ---- members by place

in_place : (x : ℕ) (xs : List ℕ) → In x xs → (i : ℕ) × (i < length xs) × (slice_index_or xs i x ≡ x)
in_place x [] h = absurd h
in_place x (y ∷ ys) (inl e) = (0, omega arith, sym e)
in_place x (y ∷ ys) (inr h) = let r = in_place x ys h in let l : r.0 < length ys = r.1 in (suc r.0, omega arith, r.2)

all_in : (P : ℕ → Type 0) (xs : List ℕ) → All P xs → (x : ℕ) → In x xs → P x
all_in P xs all x h = let r = in_place x xs h in subst P r.2 (all r.0 x r.1)

-- ---- a kernel made for a plan

pub facts_there : (p : PlanValue) (ts : List ℕ) → All (IsFormulaIn p) ts → HasFormulas p.store ts
facts_there p ts all = record { each = λ t h. let f = all_in (IsFormulaIn p) ts all t h in record { there = f.there; formula = f.formula } }

not_open : IsGivenKind Open → ⊥
not_open (inl e) = cc
not_open (inr e) = cc

pub context_there : (p : PlanValue) (ts : List ℕ) → All (IsAssertionIn p) ts → IsContext p.store ts
context_there p ts all = record {
  formulas = record { each = λ t h. let f = all_in (IsAssertionIn p) ts all t h in record { there = f.there; formula = f.context.formula } };
  no_open = λ t h. let f = all_in (IsAssertionIn p) ts all t h in record { none = λ n ty free. not_open (f.context.given Open n ty free) };
}

pub serves_new : (p : PlanValue) (k : KernelState) → Keeps p.store k.store → k.facts ≡ p.parts.facts → k.context ≡ p.parts.assertions → All (IsFormulaIn p) p.parts.facts → All (IsAssertionIn p) p.parts.assertions → Serves p k
serves_new p k keeps e f facts assertions = record {
  terms = keeps;
  facts = ap (λ ts. trees k.store ts) e ∙ trees_keep p.store k.store keeps p.parts.facts (facts_there p p.parts.facts facts);
  context = subst (λ c. Within c (Context p)) (sym same) (within_left (Assertions p) (Definitions p));
}
  where
    there : IsContext p.store p.parts.assertions
    there = context_there p p.parts.assertions assertions

    same : context_of k ≡ Assertions p
    same = ap (λ ts. trees k.store ts) f ∙ trees_keep p.store k.store keeps p.parts.assertions there.formulas

-- ---- theorems in the order of the nodes

pub replayed_none : (p : PlanValue) (k : KernelState) → Serves p k → IsReplayed p k [] 0
replayed_none p k s = record { serves = s; states = record { each = λ i h. absurd (omega arith) }; count = refl; accepted = λ i h. absurd (omega arith) }

states_pushed : (p : PlanValue) (k l : KernelState) (ts : List ℕ) (t : ℕ) → StateNodes p k ts → KeepsAll k l → StatesNode p l t (length ts) → StateNodes p l (ts ++ t ∷ [])
states_pushed p k l ts t s g new = record { each = λ i h. at i h }
  where
    last : (i : ℕ) → i ≡ length ts → StatesNode p l (slice_index_or (ts ++ t ∷ []) i 0) i
    last i e = subst (λ j. StatesNode p l (slice_index_or (ts ++ t ∷ []) j 0) j) (sym e) (subst (λ x. StatesNode p l x (length ts)) (sym (get_or-append_seam ts t [] 0)) new)

    earlier : (i : ℕ) → i < length ts → StatesNode p l (slice_index_or (ts ++ t ∷ []) i 0) i
    earlier i h = subst (λ x. StatesNode p l x i) (sym (get_or_append_left ts (t ∷ []) 0 i h)) (states_keeps (s.each i h) g)

    by : (i : ℕ) → (i ≡ length ts) ⊎ (i < length ts) → StatesNode p l (slice_index_or (ts ++ t ∷ []) i 0) i
    by i (inl e) = last i e
    by i (inr h) = earlier i h

    split : (i : ℕ) → i < length (ts ++ t ∷ []) → (i ≡ length ts) ⊎ (i < length ts)
    split i h = eq-or-lt_of_le (omega (arith, length-append ts (t ∷ [])))

    at : (i : ℕ) → i < length (ts ++ t ∷ []) → StatesNode p l (slice_index_or (ts ++ t ∷ []) i 0) i
    at i h = by i (split i h)

accepted_next : (p : PlanValue) (n : ℕ) → AllAccepted p n → Accept p n ≡ accepted → AllAccepted p (n + 1)
accepted_next p n all new i h = by (eq-or-lt_of_le (omega arith))
  where
    by : (i ≡ n) ⊎ (i < n) → Accept p i ≡ accepted
    by (inl e) = subst (λ j. Accept p j ≡ accepted) (sym e) new
    by (inr l) = all i l

-- one node more
pub replayed_next : (p : PlanValue) (k l : KernelState) (ts : List ℕ) (t n : ℕ) → IsReplayed p k ts n → KeepsAll k l → StatesNode p l t n → Accept p n ≡ accepted → IsReplayed p l (ts ++ t ∷ []) (n + 1)
replayed_next p k l ts t n r g new accept = record {
  serves = serves_keeps r.serves g;
  states = states_pushed p k l ts t r.states g (subst (λ j. StatesNode p l t j) (sym r.count) new);
  count = let c = r.count in omega (arith, length-append ts (t ∷ []));
  accepted = accepted_next p n r.accepted accept;
}

-- those of a node's premises
pub premises_stated : (p : PlanValue) (k : KernelState) (thms : List ℕ) (j : ℕ) → StateNodes p k thms → length thms ≡ j → All (λ i. i < j) (premises_of p j)
    → (ts : List ℕ) → ts ≡ map (λ i. slice_index_or thms i 0) (premises_of p j) → StatePremises p k ts j
premises_stated p k thms j s long below ts e = record { count = count; each = λ i h. state i h }
  where
    count : length ts ≡ length (premises_of p j)
    count = ap length e ∙ length-map (premises_of p j) (λ i. slice_index_or thms i 0)

    inside : (i : ℕ) → i < length ts → i < length (premises_of p j)
    inside i h = let c = count in omega arith

    item : (i : ℕ) → i < length ts → slice_index_or ts i 0 ≡ slice_index_or thms (premise_at p j i) 0
    item i h = ap (λ xs. slice_index_or xs i 0) e ∙ get_or-map (λ x. slice_index_or thms x 0) (premises_of p j) i 0 0 (inside i h)

    state : (i : ℕ) → i < length ts → StatesNode p k (slice_index_or ts i 0) (premise_at p j i)
    state i h =
        let b : premise_at p j i < j = below i 0 (inside i h) in
        subst (λ t. StatesNode p k t (premise_at p j i)) (sym (item i h)) (s.each (premise_at p j i) (omega arith))

-- ---- the claim

pub claim_holds : (p : PlanValue) (k : KernelState) (t j : ℕ) → Serves p k → StatesNode p k t j → AllFormulas (Hyps p j) → Derivable (facts_of k) (all_hyps_of k t) (concl_of k t) → Claim p j
claim_holds p k t j s st all d =
    more (Facts p) (all_hyps_of k t) (Hyps p j) (claim_of p j) all st.hyps
    (subst (λ F. Derivable F (all_hyps_of k t) (claim_of p j)) s.facts (subst (λ f. Derivable (facts_of k) (all_hyps_of k t) f) st.claim d))

-- the record at a place
pub stated_at : (p : PlanValue) (k : KernelState) (ts : List ℕ) (i t : ℕ) → StateNodes p k ts → i < length ts → t ≡ slice_index_or ts i t → StatesNode p k t i
stated_at p k ts i t s h e = subst (λ x. StatesNode p k x i) (item_is ts i t h e) (s.each i h)
