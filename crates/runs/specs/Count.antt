-- Counting millimetres.
-- Assumes nothing.
use Rattle.std.specs.Prelude.{ℕ, zero, suc, Bool, if◌then◌else◌}

-- How many of the n millimetres from p pass the test.
unfoldable pub count_from : (ℕ → Bool) → (p n : ℕ) → ℕ
count_from f p zero = 0
count_from f p (suc n) = if f p then suc (count_from f (suc p) n) else count_from f (suc p) n
