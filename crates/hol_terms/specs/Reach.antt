-- How far the loose Bounds of a term reach.
use Rattle.std.specs.Prelude.{ℕ, ◌+◌, ◌-◌, max}
use Rattle.hol_terms.specs.Term.{Term, FreeTm, BoundTm, ConstTm, NumTm, AppTm, LamTm}

-- the number that each loose Bound is below: 0 for a closed term
abbrev pub reach_of : Term → ℕ
reach_of (FreeTm k n t) = 0
reach_of (BoundTm i t) = i + 1
reach_of (ConstTm n t) = 0
reach_of (NumTm z) = 0
reach_of (AppTm f x) = max (reach_of f) (reach_of x)
reach_of (LamTm t b) = reach_of b - 1
