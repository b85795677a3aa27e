-- Reading that gives a value, or finds a text outside its form.
use Rattle.std.specs.Prelude.{◌≡◌, Option, Some, None, Result, Ok, Err}
use Rattle.first_form.specs.declared.failure.FormFailure.{FormFailure}
use Rattle.first_form.specs.declared.failure.FormFailure.TheVariants.{Refused, Memory}

infixl 10 ◌>>=◌
abbrev pub ◌>>=◌ : {A B : Type 0} → Option A → (A → Option B) → Option B
(Some x) >>= f = f x
None >>= f = None

-- Refused says that there is nothing to read. Memory may always run out.
abbrev pub Fails : {Y : Type 0} → FormFailure → Option Y → Type 0
Fails Memory read = Unit {0}
Fails Refused read = read ≡ None

-- What a function returned, seen by view, is what reading gives.
abbrev pub Gives : {X Y : Type 0} → (X → Y) → Result X FormFailure → Option Y → Type 0
Gives view (Ok x) read = read ≡ Some (view x)
Gives view (Err e) read = Fails e read
