-- Runs as they are stored.
-- Assumes nothing.
use Rattle.std.specs.Prelude.{ℕ, List, map, length}
use Rattle.base.specs.Stored.{padded}
use Rattle.runs.specs.declared.Stretch.{Stretch}
use Rattle.runs.specs.declared.RunList.{RunList}

-- A number of each run, in an array of so many places: zeros stand behind.
abbrev pub column : (places : ℕ) (number : Stretch → ℕ) → List Stretch → List ℕ
column places number rs = padded places 0 (map number rs)

-- Runs as they are stored.
abbrev pub stored_runs : List Stretch → RunList
stored_runs rs = record { count = length rs; starts = column 512 (λ r. r.start) rs; ends = column 512 (λ r. r.end) rs; levels = column 512 (λ r. r.level) rs }
