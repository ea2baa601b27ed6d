-- A number's groups passed one by one, lowest first: what the groups passed and those that are left make together.
-- Assumes nothing.
use Rattle.std.specs.Prelude.{ℕ, ◌+◌, ◌-◌, ◌*◌, List, drop, Result}
use Rattle.refusal.specs.declared.Refusal.{Refusal}
use Rattle.number.specs.declared.Reading.{Reading}
use Rattle.number.specs.Number.{most_groups, Scan, cut, overlong, whole, scan, read_of}

-- A scan behind `passed` groups that make `low`, where the next group counts `weight`.
abbrev pub after_groups : (low weight passed : ℕ) → Scan → Scan
after_groups low weight passed cut = cut
after_groups low weight passed overlong = overlong
after_groups low weight passed (whole value groups) = whole (low + weight * value) (passed + groups)

-- The number that begins at index `at`, read from its group behind `passed` others on.
unfoldable pub read_after_groups : (low weight passed : ℕ) → List ℕ → (at : ℕ) → Result Reading Refusal
read_after_groups low weight passed s at = read_of at (after_groups low weight passed (scan (most_groups - passed) (drop (at + passed) s)))
