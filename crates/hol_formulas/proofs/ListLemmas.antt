-- Lists of numbers, by place and by what stands in them.
use Rattle.std.proofs.Common.{◌∷◌, [], sym, Contains, ℕ, List, inl, inr, zero, suc, arith}
use Rattle.hol_terms.specs.Formula.{In}

pub In-from_Contains : (xs : List ℕ) (x : ℕ) → Contains xs x → In x xs
In-from_Contains [] x h = absurd (omega (arith, h.1))
In-from_Contains (y ∷ xs) x (zero, below, is) = inl (sym is)
In-from_Contains (y ∷ xs) x (suc k, below, is) = inr (In-from_Contains xs x (k, omega arith, is))

pub Contains-from_In : (xs : List ℕ) (x : ℕ) → In x xs → Contains xs x
Contains-from_In [] x h = absurd h
Contains-from_In (y ∷ xs) x (inl e) = (zero, omega arith, sym e)
Contains-from_In (y ∷ xs) x (inr h) = let p = Contains-from_In xs x h in (suc p.0, omega (arith, p.1), p.2)
