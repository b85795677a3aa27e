-- What follows of something that was read.
use Rattle.std.proofs.Common.{◌≡◌, ℕ, Ok, Bool, true, false, if◌then◌else◌, refl}
use Rattle.goal_text.specs.declared.fault.GoalKind.{GoalKind}
use Rattle.goal_text.specs.Read.{Read, wanting}
use Rattle.goal_text.proofs.KeptLemmas.{no_fault}

-- by a test
pub if_read : {A P : Type 0} (b : Bool) (x y : Read A) (t : A) → (b ≡ true → x ≡ Ok t → P) → (b ≡ false → y ≡ Ok t → P) → (if b then x else y) ≡ Ok t → P
if_read true x y t f g h = f refl h
if_read false x y t f g h = g refl h

-- where a test was wanted, it passed
pub test_passed : {A : Type 0} (b : Bool) (kind : GoalKind) (at : ℕ) (r : Read A) (y : A) → wanting b kind at r ≡ Ok y → b ≡ true
test_passed true kind at r y h = refl
test_passed false kind at r y h = no_fault kind at y h
