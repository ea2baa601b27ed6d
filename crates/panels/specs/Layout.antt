-- Layouts of panels: the order of the tries, what covers a run, the overrun, and the smallest of those tried. Document 02, request 13.
-- Assumes nothing.
use Rattle.std.specs.Prelude.{ℕ, zero, suc, ◌+◌, ◌-◌, ◌*◌, ◌<◌, ◌≡◌, ◌⊎◌, Bool, true, List, [], ◌∷◌, ◌++◌, map, length, take, leb, if◌then◌else◌}
use Rattle.base.specs.Choice.{all_of}

-- The layouts, in order

-- "A layout is a count from 0 to 15 of each": as many counts as lengths, in the order of the lengths.
pub record IsLayout (lengths counts : List ℕ) : Type 0 where
  pub each : length counts ≡ length lengths
  pub to_fifteen : all_of (λ c. leb c 15) counts ≡ true

-- "Rising order of their counts, the last length's changing fastest": at the first count in which two layouts differ, the lesser
-- comes first (lexicographic order).
abbrev pub Before : (l m : List ℕ) → Type 0
Before [] m = ⊥
Before (c ∷ l) [] = ⊥
Before (c ∷ l) (d ∷ m) = (c < d) ⊎ ((c ≡ d) × Before l m)

abbrev pub zero_to_fifteen : List ℕ
zero_to_fifteen = 0 ∷ 1 ∷ 2 ∷ 3 ∷ 4 ∷ 5 ∷ 6 ∷ 7 ∷ 8 ∷ 9 ∷ 10 ∷ 11 ∷ 12 ∷ 13 ∷ 14 ∷ 15 ∷ []

-- Each of the first counts in turn, before every one of the layouts of the other lengths.
unfoldable pub each_before : (firsts : List ℕ) (others : List (List ℕ)) → List (List ℕ)
each_before [] others = []
each_before (c ∷ cs) others = map (λ l. c ∷ l) others ++ each_before cs others

-- All layouts of so many lengths, in that order (laws layouts_exactly, layouts_rise).
unfoldable pub layouts : (number : ℕ) → List (List ℕ)
layouts zero = [] ∷ []
layouts (suc k) = each_before zero_to_fifteen (layouts k)

-- "Tried .. up to a given number of tries": the first of them. Trying does not stop at a layout that fits.
unfoldable pub tried : (lengths : List ℕ) (limit : ℕ) → List (List ℕ)
tried lengths limit = take limit (layouts (length lengths))

-- Covering and overrun

-- The layout's total: each length as often as its count.
unfoldable pub total : (lengths counts : List ℕ) → ℕ
total [] cs = 0
total (l ∷ ls) [] = 0
total (l ∷ ls) (c ∷ cs) = c * l + total ls cs

-- "It covers a run if its total is at least the run's length."
unfoldable pub covers : (lengths : List ℕ) (run : ℕ) (counts : List ℕ) → Bool
covers lengths run counts = leb run (total lengths counts)

-- By how much a covering layout's total exceeds the run's length.
unfoldable pub overrun : (lengths : List ℕ) (run : ℕ) (counts : List ℕ) → ℕ
overrun lengths run counts = total lengths counts - run

-- "The smallest overrun among those tried, its first layout"; none where no tried layout covers.
pub data BestLayout : Type 0 where
  none : BestLayout
  found : (overrun : ℕ) (counts : List ℕ) → BestLayout

-- One layout by itself.
unfoldable pub if_covering : (lengths : List ℕ) (run : ℕ) (counts : List ℕ) → BestLayout
if_covering lengths run counts = if covers lengths run counts then found (overrun lengths run counts) counts else none

-- The smaller overrun; the first of two equal ones.
abbrev pub better : BestLayout → BestLayout → BestLayout
better none b = b
better (found o l) none = found o l
better (found o l) (found p m) = if leb o p then found o l else found p m

-- The best of a list of layouts (laws best_first, best_none).
unfoldable pub best : (lengths : List ℕ) (run : ℕ) (layouts : List (List ℕ)) → BestLayout
best lengths run [] = none
best lengths run (l ∷ ls) = better (if_covering lengths run l) (best lengths run ls)
