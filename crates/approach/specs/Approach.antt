-- The approach length: the published length-of-need formula, rounded up to the whole millimetre, and the rule for a barrier that ends in its straight part.
-- Assumes nothing.
use Rattle.std.specs.Prelude.{ℕ, ◌+◌, ◌-◌, ◌*◌, ◌/◌, ◌≤◌, ◌<◌, ◌⊎◌, leb, if◌then◌else◌}

-- x / y, rounded up to the next whole number if not whole.
unfoldable pub ceil_div : (x y : ℕ) → ℕ
ceil_div x y = (x + (y - 1)) / y

-- "L × (a × R + b × T − a × m) / (b × L + a × R), rounded up to the next whole millimetre if not whole."
-- Runout length L, hazard reach R, barrier offset m; flare b across for a along, after T straight. Where the formula is asked, its subtraction is exact (law
-- nothing_cut_off).
unfoldable pub formula_length : (a b T L R m : ℕ) → ℕ
formula_length a b T L R m = ceil_div (L * (a * R + b * T - a * m)) (b * L + a * R)

-- Document 02, request 2: "Where the length without flare (b = 0) is at most T, the barrier ends in its straight part and that length is the
-- approach length. Otherwise the formula with flare stands."
unfoldable pub approach_length : (a b T L R m : ℕ) → ℕ
approach_length a b T L R m =
    let unflared = formula_length a 0 T L R m in
    if leb unflared T then unflared else formula_length a b T L R m

-- The formula before rounding, multiplied out: no division. A distance d below its exact value.
abbrev pub BelowFormula : (a b T L R m d : ℕ) → Type 0
BelowFormula a b T L R m d = d * (b * L + a * R) < L * (a * R + b * T - a * m)

-- T is below the exact length without flare: the barrier passes its straight part.
abbrev pub PassesStraight : (a T L R m : ℕ) → Type 0
PassesStraight a T L R m = BelowFormula a 0 T L R m T

-- A distance d below the rule's exact value.
abbrev pub BelowRule : (a b T L R m d : ℕ) → Type 0
BelowRule a b T L R m d =
    ((PassesStraight a T L R m → ⊥) × BelowFormula a 0 T L R m d) ⊎ (PassesStraight a T L R m × BelowFormula a b T L R m d)

-- Where the formula is asked: the header's ranges of a, b, T, L, of the clear zone for R, and m below R.
pub record Domain (a b T L R m : ℕ) : Type 0 where
  pub along_low : 1 ≤ a
  pub along_top : a ≤ 100
  pub across_top : b ≤ 10
  pub straight_top : T ≤ 100000
  pub runout_low : 1 ≤ L
  pub runout_top : L ≤ 200000
  pub reach_top : R ≤ 30000
  pub offset_below : m < R
