-- Approaches in whole panels: document 02, request 4.
-- Assumes nothing.
use Rattle.std.specs.Prelude.{ℕ, ◌*◌, ◌≤◌}
use Rattle.base.specs.Least.{LeastMultiple, next_multiple}
use Rattle.approach.specs.Approach.{approach_length, BelowRule, Domain}

-- "State the raising for every panel length together": one claim over every panel length from 1 and every length (law raised_least).
abbrev pub Raising : Type 0
Raising = (p x : ℕ) → 1 ≤ p → LeastMultiple p x (next_multiple p x)

-- "Each approach length is raised to the least multiple of it that is not smaller."
unfoldable pub raised_length : (p a b T L R m : ℕ) → ℕ
raised_length p a b T L R m = next_multiple p (approach_length a b T L R m)

-- A distance below the raised length, multiplied out: every multiple of the panel length up to that distance is below the approach length before rounding.
abbrev pub BelowRaised : (p a b T L R m d : ℕ) → Type 0
BelowRaised p a b T L R m d = (k : ℕ) → k * p ≤ d → BelowRule a b T L R m (k * p)

-- A barrier that stands farther out needs an approach that is not longer: one claim over any two offsets below the reach, through rule, rounding and raising
-- (law length_falls).
abbrev pub LengthFalls : Type 0
LengthFalls = (p a b T L R m k : ℕ) → 1 ≤ p → Domain a b T L R k → m ≤ k → raised_length p a b T L R k ≤ raised_length p a b T L R m
