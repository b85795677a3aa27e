-- The states of the nodes where each is replayed by its rule alone.
use Rattle.std.specs.Prelude.{◌≡◌, ℕ, ◌<◌, zero, suc, true, List, [], ◌∷◌, if◌then◌else◌}
use Rattle.proof_plan.specs.declared.state.State.{State}
use Rattle.proof_plan.specs.declared.state.State.TheVariants.{Open, Plain, Failed, Blocked}
use Rattle.proof_plan.specs.States.{is_proved}
use Rattle.proof_plan.specs.PlanValue.{PlanValue, premises_of}
use Rattle.proof_plan.specs.Accept.{Verdict, accepted, refused, Accept}

-- the state of a node whose premises are proved
abbrev pub state_of : Verdict → State
state_of accepted = Plain
state_of (refused w) = Failed w

-- the state of a node: blocked by the first premise that isn't proved, else by the rule's answer
abbrev pub settled : Verdict → (ℕ → State) → List ℕ → State
settled v state [] = state_of v
settled v state (j ∷ js) = if is_proved (state j) then settled v state js else Blocked j

-- the state of node k, where premises are followed so many times
unfoldable pub plain_within : PlanValue → ℕ → ℕ → State
plain_within p zero k = Open
plain_within p (suc n) k = settled (Accept p k) (λ j. plain_within p n j) (premises_of p k)

-- the state of node k
unfoldable pub PlainReplay : PlanValue → ℕ → State
PlainReplay p k = plain_within p (suc k) k

-- the state of node k by the states of its premises
abbrev pub by_premises : PlanValue → ℕ → State
by_premises p k = settled (Accept p k) (λ j. PlainReplay p j) (premises_of p k)

-- each node below k is proved
abbrev pub ProvedBelow : PlanValue → ℕ → Type 0
ProvedBelow p k = (j : ℕ) → j < k → is_proved (PlainReplay p j) ≡ true
