-- The same reading in other words.
use Rattle.std.proofs.Common.{◌≡◌, Result, subst}
use Rattle.goal_text.specs.declared.fault.GoalFailure.{GoalFailure}
use Rattle.goal_text.specs.Read.{Read, Fails, Gives}

pub gives_same : {X Y : Type 0} (view : X → Y) (r : Result X GoalFailure) (a b : Read Y) → a ≡ b → Gives view r a → Gives view r b
gives_same {Y = Y} view r a b e h = let P : Read Y → Type 0 = λ x. Gives view r x in subst P e h

pub fails_same : {Y : Type 0} (x : GoalFailure) (a b : Read Y) → a ≡ b → Fails x a → Fails x b
fails_same {Y = Y} x a b e h = let P : Read Y → Type 0 = λ r. Fails x r in subst P e h
