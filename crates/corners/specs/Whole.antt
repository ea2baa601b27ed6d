-- A float that is exactly a whole number.
-- Assumes nothing.
use Rattle.std.specs.Prelude.{Bool, true, false, ℤ, pos, negsuc, nat_abs, Float}
use Rattle.std.specs.Float.Ieee.Exact.{HasValue}

-- Whether z is below 0.
abbrev pub below_zero : ℤ → Bool
below_zero (pos n) = false
below_zero (negsuc n) = true

-- x is finite, and has the sign and the size of z: no infinity, no NaN, and as 0 is not below 0, no negative zero. A float is at most one
-- whole number (law whole_one), and among the values of a format one alone is that number (law whole_is).
pub record Whole (x : Float) (z : ℤ) : Type 0 where
  pub value : HasValue x (below_zero z) (nat_abs z) 1
