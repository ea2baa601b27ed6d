-- Break points: the stations from which a level holds, last one first, and the runs between them.
-- Assumes nothing.
use Rattle.std.specs.Prelude.{ℕ, zero, suc, ◌<◌, ◌≢◌, List, [], ◌∷◌, ◌++◌, ◌==◌, nat_le, nat_lt, slice_index, if◌then◌else◌}
use Rattle.runs.specs.declared.Stretch.{Stretch}

-- From this station on the level holds, up to the next break point.
pub record Break : Type 0 where
  pub start : ℕ
  pub level : ℕ

-- The level at t: that of the last break point at or before it, else 0.
unfoldable pub break_level : List Break → (t : ℕ) → ℕ
break_level [] t = 0
break_level (b ∷ bs) t = if nat_le b.start t then b.level else break_level bs t

-- The level from the last break point on.
abbrev pub level_of : List Break → ℕ
level_of [] = 0
level_of (b ∷ bs) = b.level

-- Break points before u, strictly rising, at each of which the level changes.
abbrev pub Shape : (u : ℕ) → List Break → Type 0
Shape u [] = Unit {0}
Shape u (b ∷ bs) = (b.start < u) × (b.level ≢ level_of bs) × Shape b.start bs

-- The first n entries of two arrays.
unfoldable pub breaks_to : (starts levels : List ℕ) (n : ℕ) → List Break
breaks_to starts levels zero = []
breaks_to starts levels (suc n) = record { start = slice_index starts n; level = slice_index levels n } ∷ breaks_to starts levels n

-- Those before t.
unfoldable pub breaks_before : (t : ℕ) → List Break → List Break
breaks_before t [] = []
breaks_before t (b ∷ bs) = let r = breaks_before t bs in if nat_le t b.start then r else b ∷ bs

-- Level v from t on.
unfoldable pub set_from : (t v : ℕ) → List Break → List Break
set_from t v bs = if level_of (breaks_before t bs) == v then breaks_before t bs else record { start = t; level = v } ∷ breaks_before t bs

-- The runs of the break points, the last of them up to e.
unfoldable pub runs_below : (e : ℕ) → List Break → List Stretch
runs_below e [] = []
runs_below e (b ∷ bs) =
    let r = runs_below b.start bs in
    if nat_lt 0 b.level then r ++ record { start = b.start; end = e; level = b.level } ∷ [] else r
