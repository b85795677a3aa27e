-- The states of nodes.
use Rattle.std.specs.Prelude.{Bool, true, false}
use Rattle.proof_plan.specs.declared.state.State.{State}
use Rattle.proof_plan.specs.declared.state.State.TheVariants.{Open, Plain, ByNet, Failed, Blocked, NoMemory}

-- whether a node in the state is proved
abbrev pub is_proved : State → Bool
is_proved Open = false
is_proved Plain = true
is_proved ByNet = true
is_proved (Failed w) = false
is_proved (Blocked j) = false
is_proved NoMemory = false
