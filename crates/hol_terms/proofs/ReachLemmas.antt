-- How far the loose Bounds of a term reach, and what follows where they don't reach an index.
use Rattle.std.proofs.Common.{◌≡◌, ℕ, ◌+◌, ◌≤◌, arith}
use Rattle.std.specs.Prelude.{◌↔◌}
use Rattle.hol_types.specs.Ty.{Ty}
use Rattle.hol_terms.specs.Term.{Term, FreeTm, BoundTm, ConstTm, NumTm, AppTm, LamTm, BoundsFit}
use Rattle.hol_terms.specs.Reach.{reach_of}
use Rattle.hol_terms.specs.Substitution.{subst_bound, LooseBelow, IsClosed}
use Rattle.hol_terms.proofs.SubstitutionLemmas.{loose_fits, opened_same}

-- a term reaches at most to a number exactly where its loose Bounds are below
pub loose_below : (t : Term) (d : ℕ) → reach_of t ≤ d → LooseBelow t d
loose_below (FreeTm k n u) d h = tt
loose_below (BoundTm j u) d h = omega arith
loose_below (ConstTm n u) d h = tt
loose_below (NumTm z) d h = tt
loose_below (AppTm f x) d h = (loose_below f d (omega arith), loose_below x d (omega arith))
loose_below (LamTm u b) d h = loose_below b (d + 1) (omega arith)

pub reach_within : (t : Term) (d : ℕ) → LooseBelow t d → reach_of t ≤ d
reach_within (FreeTm k n u) d h = omega arith
reach_within (BoundTm j u) d h = omega arith
reach_within (ConstTm n u) d h = omega arith
reach_within (NumTm z) d h = omega arith
reach_within (AppTm f x) d h = let left = reach_within f d h.0 in let right = reach_within x d h.1 in omega arith
reach_within (LamTm u b) d h = let body = reach_within b (d + 1) h in omega arith

-- it is closed exactly where it reaches nothing
pub closed_reach : (t : Term) → (reach_of t ≡ 0) ↔ IsClosed t
closed_reach t = (λ h. loose_below t 0 (omega (arith, h)), λ h. let r = reach_within t 0 h in omega arith)

-- where a term reaches no further than an index, it has no Bound of that index
pub reach_fits : (t : Term) (i : ℕ) (ty : Ty) → reach_of t ≤ i → BoundsFit t i ty
reach_fits t i ty h = loose_fits t i i ty (loose_below t i h) (omega arith)

pub reach_opened : (t u : Term) (i : ℕ) → reach_of t ≤ i → subst_bound t i u ≡ t
reach_opened t u i h = opened_same t u i (loose_below t i h)
