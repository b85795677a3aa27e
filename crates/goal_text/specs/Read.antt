-- Reading in the order of the text, up to the first fault that is met.
use Rattle.std.specs.Prelude.{◌≡◌, ℕ, Result, Ok, Err, Bool, true, false}
use Rattle.goal_text.specs.declared.fault.GoalKind.{GoalKind}
use Rattle.goal_text.specs.declared.fault.GoalFault.{GoalFault}
use Rattle.goal_text.specs.declared.fault.GoalFailure.{GoalFailure}
use Rattle.goal_text.specs.declared.fault.GoalFailure.TheVariants.{Refused, Memory}

-- what is read, or the first fault
abbrev pub Read : Type 0 → Type 0
Read A = Result A GoalFault

-- one thing is read, and then another; the first fault is that of the first
infixl 10 ◌>>=◌
abbrev pub ◌>>=◌ : {A B : Type 0} → Result A GoalFault → (A → Result B GoalFault) → Result B GoalFault
(Ok x) >>= f = f x
(Err fault) >>= f = Err fault

-- a fault of the kind at the place
abbrev pub faulty : {A : Type 0} → GoalKind → ℕ → Result A GoalFault
faulty kind at = Err (record { at = at; kind = kind })

-- what is read, or where the test fails a fault of the kind at the place
abbrev pub wanting : {A : Type 0} → Bool → GoalKind → ℕ → Result A GoalFault → Result A GoalFault
wanting true kind at read = read
wanting false kind at read = faulty kind at

-- The fault of a function is the one that is met. Memory may always run out.
abbrev pub Fails : {Y : Type 0} → GoalFailure → Result Y GoalFault → Type 0
Fails Memory read = Unit {0}
Fails (Refused fault) read = read ≡ Err fault

-- What a function returned, seen by view, is what is read.
abbrev pub Gives : {X Y : Type 0} → (X → Y) → Result X GoalFailure → Result Y GoalFault → Type 0
Gives view (Ok x) read = read ≡ Ok (view x)
Gives view (Err e) read = Fails e read
