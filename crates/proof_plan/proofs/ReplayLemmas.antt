-- The state of a node by the states of its premises.
use Rattle.std.proofs.Common.{◌≡◌, ℕ, zero, suc, ◌<◌, true, List, [], ◌∷◌, length, refl, ◌∙◌, arith, slice_index_or}
use Rattle.std.proofs.lemmas.List.Elements.{All-get_or}
use Rattle.proof_plan.specs.declared.state.State.{State}
use Rattle.proof_plan.specs.States.{is_proved}
use Rattle.proof_plan.specs.PlanValue.{PlanValue, premises_of}
use Rattle.proof_plan.specs.IsPlan.{IsPlan}
use Rattle.proof_plan.specs.Accept.{Verdict, Accept}
use Rattle.proof_plan.specs.PlainReplay.{settled, plain_within, PlainReplay, by_premises, state_of, ProvedBelow}

-- premises in the same states settle a node alike
settled_alike : (v : Verdict) (f g : ℕ → State) (js : List ℕ) → ((i : ℕ) → i < length js → f (slice_index_or js i 0) ≡ g (slice_index_or js i 0)) → settled v f js ≡ settled v g js
settled_alike v f g [] same = refl
settled_alike v f g (j ∷ js) same =
    let here = same 0 (omega arith) in
    let later = settled_alike v f g js (λ i l. same (suc i) (omega arith)) in
    rw (here, later) refl

-- how often premises are followed doesn't matter
within_same : (p : PlanValue) → IsPlan p → (m n k : ℕ) → k < m → k < n → k < length p.nodes → plain_within p m k ≡ plain_within p n k
unfolding plain_within
within_same p plan zero n k a b there = absurd (omega arith)
within_same p plan (suc m) zero k a b there = absurd (omega arith)
within_same p plan (suc m) (suc n) k a b there =
    settled_alike (Accept p k) (λ j. plain_within p m j) (λ j. plain_within p n j) (premises_of p k)
    (λ i l. let below = All-get_or (λ j. j < k) (premises_of p k) i 0 l (plan.nodes k there).below in
    within_same p plan m n (slice_index_or (premises_of p k) i 0) (omega arith) (omega arith) (omega arith))

-- the state of a node by the states of its premises
pub plain_step : (p : PlanValue) → IsPlan p → (k : ℕ) → k < length p.nodes → PlainReplay p k ≡ by_premises p k
unfolding PlainReplay plain_within
plain_step p plan k there =
    settled_alike (Accept p k) (λ j. plain_within p k j) (λ j. PlainReplay p j) (premises_of p k)
    (λ i l. let below = All-get_or (λ j. j < k) (premises_of p k) i 0 l (plan.nodes k there).below in
    within_same p plan k (suc (slice_index_or (premises_of p k) i 0)) (slice_index_or (premises_of p k) i 0) (omega arith) (omega arith) (omega arith))

-- proved premises leave a node's state to its rule
settled_proved : (v : Verdict) (f : ℕ → State) (js : List ℕ) → ((i : ℕ) → i < length js → is_proved (f (slice_index_or js i 0)) ≡ true) → settled v f js ≡ state_of v
settled_proved v f [] proved = refl
settled_proved v f (j ∷ js) proved =
    let here = proved 0 (omega arith) in
    let later = settled_proved v f js (λ i l. proved (suc i) (omega arith)) in
    rw (here, later) refl

-- where each smaller node is proved, a node's state is its rule's answer
pub first_step : (p : PlanValue) → IsPlan p → (k : ℕ) → k < length p.nodes → ProvedBelow p k → PlainReplay p k ≡ state_of (Accept p k)
first_step p plan k there proved =
    plain_step p plan k there ∙ settled_proved (Accept p k) (λ j. PlainReplay p j) (premises_of p k)
    (λ i l. let below = All-get_or (λ j. j < k) (premises_of p k) i 0 l (plan.nodes k there).below in proved (slice_index_or (premises_of p k) i 0) below)
