-- The runs of one level, noted in two lists as a walk passes them: where each starts, and how many millimetres of the level lie before it;
-- behind the last, how many there are. What the walk keeps, what it comes to, and the quantities that the lists give.
-- Assumes nothing.
use Rattle.std.specs.Prelude.{ℕ, zero, suc, ◌+◌, ◌-◌, ◌*◌, ◌/◌, ◌≤◌, ◌<◌, min, ◌≡◌, List, length, get_or}
use Rattle.runs.specs.declared.Stretch.{Stretch}
use Rattle.runs.specs.RunList.{most_runs}
use Rattle.queries.specs.Walk.{overlap_at}
use Rattle.queries.specs.Ranges.{most_ranges}

-- How many millimetres the run at i has.
abbrev pub own : (sums : List ℕ) (i : ℕ) → ℕ
own sums i = get_or sums (i + 1) 0 - get_or sums i 0

-- How many millimetres of the first n runs lie below t.
unfoldable pub below : (starts sums : List ℕ) (n t : ℕ) → ℕ
below starts sums zero t = 0
below starts sums (suc n) t = below starts sums n t + min (t - get_or starts n 0) (own sums n)

-- n runs, none of which starts before the one before it ends, nor ends behind `end`.
pub record Noted (starts sums : List ℕ) (n end : ℕ) : Type 0 where
  pub start_places : length starts ≡ 512
  pub sum_places : length sums ≡ 512
  pub few : n ≤ most_runs
  pub first : get_or sums 0 0 ≡ 0
  pub grow : (i : ℕ) → i < n → get_or sums i 0 ≤ get_or sums (i + 1) 0
  pub apart : (i j : ℕ) → i < j → j < n → get_or starts i 0 + own sums i ≤ get_or starts j 0
  pub ends : (i : ℕ) → i < n → get_or starts i 0 + own sums i ≤ end
  pub total : get_or sums n 0 ≤ end

-- What passing a run comes to: its millimetres are added where it has level v.
pub record Passed (r : Stretch) (v : ℕ) (starts sums : List ℕ) (n : ℕ) (starts' sums' : List ℕ) (n' : ℕ) : Type 0 where
  pub noted : Noted starts' sums' n' r.end
  pub next : n' ≤ n + 1
  pub added : (t : ℕ) → below starts' sums' n' t ≡ below starts sums n t + overlap_at r v 0 t

-- The first n starts rise.
abbrev pub Ascending : (starts : List ℕ) (n : ℕ) → Type 0
Ascending starts n = (i j : ℕ) → i ≤ j → j < n → get_or starts i 0 ≤ get_or starts j 0

-- Of n runs, those before `low` start before t, and those from `high` on do not.
pub record Halved (starts : List ℕ) (n t low high : ℕ) : Type 0 where
  pub ordered : low ≤ high
  pub within : high ≤ n
  pub sooner : (i : ℕ) → i < low → get_or starts i 0 < t
  pub later : (i : ℕ) → high ≤ i → i < n → t ≤ get_or starts i 0

-- Each range has the millimetres below its q that do not lie below its p; the places behind the ranges are 0.
pub record Differences (starts sums : List ℕ) (n : ℕ) (numbers r : List ℕ) : Type 0 where
  pub places : length r ≡ most_ranges
  pub ranges : (i : ℕ) → i < length numbers / 2
      → get_or r i 0 ≡ below starts sums n (get_or numbers (2 * i + 1) 0) - below starts sums n (get_or numbers (2 * i) 0)
  pub behind : (i : ℕ) → length numbers / 2 ≤ i → get_or r i 0 ≡ 0
