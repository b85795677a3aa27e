use Rattle.std.proofs.Common.{◌≡◌, ℕ, ◌||◌, drop, nat_eq}
use Rattle.std.specs.List.{list_any}
use Rattle.first_form.proofs.assertions.set_of.Given as goal

-- a term is in the set, or still to come
abbrev pub invariant-loop-t : goal.invariant-loop-t
invariant-loop-t l = (t : ℕ) → (list_any (nat_eq t) l.set.keys || list_any (nat_eq t) (drop l.t-index l.terms)) ≡ list_any (nat_eq t) l.terms
