-- Fractions.
use Rattle.std.specs.Prelude.{ℤ}

-- a fraction
pub record WeightValue : Type 0 where
  pub above : ℤ
  pub below : ℤ
