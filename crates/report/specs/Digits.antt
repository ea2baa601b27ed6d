-- What a row of ASCII digits stands for.
-- Assumes nothing.
use Rattle.std.specs.Prelude.{ℕ, zero, suc, ◌+◌, ◌-◌, ◌*◌, List, [], ◌∷◌}

-- The number that the digits make behind a number n.
unfoldable pub value_from : (n : ℕ) → List ℕ → ℕ
value_from n [] = n
value_from n (d ∷ ds) = value_from (10 * n + (d - 48)) ds

-- 10 to the power k.
abbrev pub tens : ℕ → ℕ
tens zero = 1
tens (suc k) = 10 * tens k
