-- Numbers: one that is not greater is at most as great.
-- Assumes nothing.
use Prim.Native.Nat.{ℕ, ◌≤◌, ◌<◌}
use native.Mathlib.Omega.{arith}

pub le_of_not_lt : {m n : ℕ} → (n < m → ⊥) → m ≤ n
le_of_not_lt {m} {n} h = omega (arith, h)
