-- The least number with a property, and the least multiple of a number that is not below another.
-- Assumes nothing.
use Rattle.std.specs.Prelude.{ℕ, ◌+◌, ◌-◌, ◌*◌, ◌/◌, ◌≤◌}
use Rattle.std.specs.Int.{◌∣◌}

-- m has the property, and no number that has it is smaller.
pub record Least (P : ℕ → Type 0) (m : ℕ) : Type 0 where
  pub holds : P m
  pub least : (k : ℕ) → P k → m ≤ k

-- y is a multiple of p, and not smaller than x.
pub record MultipleFrom (p x y : ℕ) : Type 0 where
  pub multiple : p ∣ y
  pub not_smaller : x ≤ y

-- y is "the least multiple of it that is not smaller", of p and a number x.
abbrev pub LeastMultiple : (p x y : ℕ) → Type 0
LeastMultiple p x y = Least (MultipleFrom p x) y

-- The same, computed (law next_multiple_lem).
unfoldable pub next_multiple : (p x : ℕ) → ℕ
next_multiple p x = (x + (p - 1)) / p * p
