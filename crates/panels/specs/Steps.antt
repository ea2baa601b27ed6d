-- Steps of the code: common divisors, the layout at a place of the order, the odometer that shows it, and what the tries keep.
-- Assumes nothing.
use Rattle.std.specs.Prelude.{ℕ, zero, suc, ◌+◌, ◌-◌, ◌*◌, ◌/◌, ◌%◌, ◌≤◌, ◌<◌, ◌≡◌, ◌↔◌, List, [], ◌∷◌, ◌++◌, length, drop, get_or, leb, ltb, Option, Some, None, IfSome, if◌then◌else◌}
use Rattle.std.specs.Int.{◌∣◌}
use Rattle.panels.specs.declared.odometer.Lengths.{Lengths}
use Rattle.panels.specs.declared.odometer.Odometer.{Odometer}
use Rattle.panels.specs.declared.search.Tried.{Tried}
use Rattle.panels.specs.Layout.{BestLayout, none, found, better, best}
use Rattle.panels.specs.Panels.{most_lengths}

-- The divisors of r are the common divisors of a and b.
abbrev pub CommonDivisors : (a b r : ℕ) → Type 0
CommonDivisors a b r = (d : ℕ) → (d ∣ r) ↔ ((d ∣ a) × (d ∣ b))

-- The layout at a place

-- Its counts are the place's digits of base 16, the last length's the lowest (law layouts_from_lem).
unfoldable pub layout_at : (number place : ℕ) → List ℕ
layout_at zero i = []
layout_at (suc k) i = layout_at k (i / 16) ++ i % 16 ∷ []

-- n layouts from a place on.
unfoldable pub layouts_from : (number place n : ℕ) → List (List ℕ)
layouts_from k i zero = []
layouts_from k i (suc n) = layout_at k i ∷ layouts_from k (suc i) n

-- The odometer

-- The length so many places before the last; 0 where there is none.
abbrev pub length_back : List ℕ → (back : ℕ) → ℕ
length_back ls back = if ltb back (length ls) then get_or ls (length ls - 1 - back) 0 else 0

abbrev pub four_lengths : List ℕ → Lengths
four_lengths ls = record { first = length_back ls 3; second = length_back ls 2; third = length_back ls 1; last = length_back ls 0 }

pub record LengthsFit (l : Lengths) : Type 0 where
  pub first : l.first ≤ 20000
  pub second : l.second ≤ 20000
  pub third : l.third ≤ 20000
  pub last : l.last ≤ 20000

-- It shows the counts of the layout at a place, and their total.
pub record Shows (l : Lengths) (place : ℕ) (o : Odometer) : Type 0 where
  pub first : o.first ≡ place / 16 / 16 / 16
  pub second : o.second ≡ place / 16 / 16 % 16
  pub third : o.third ≡ place / 16 % 16
  pub last : o.last ≡ place % 16
  pub total : o.total ≡ o.first * l.first + o.second * l.second + o.third * l.third + o.last * l.last

-- It shows one of the layouts of four lengths.
pub record ShowsLayout (l : Lengths) (o : Odometer) : Type 0 where
  pub place : ℕ
  pub below : place < 65536
  pub shows : Shows l place o

-- From the layout at whatever place to the next.
abbrev pub Advances : Lengths → Odometer → Odometer → Type 0
Advances l o r = (place : ℕ) → Shows l place o → Shows l (place + 1) r

-- The counts of so many lengths, in their order: the last ones, since the odometer has the last length last.
abbrev pub counts_shown : (number : ℕ) → Odometer → List ℕ
counts_shown k o = drop (most_lengths - k) (o.first ∷ o.second ∷ o.third ∷ o.last ∷ [])

-- What is kept

abbrev pub Covering : (run : ℕ) → Odometer → Type 0
Covering run o = run ≤ o.total

-- What it shows of so many lengths, as a layout that covers.
abbrev pub found_at : (number run : ℕ) → Odometer → BestLayout
found_at k run o = found (o.total - run) (counts_shown k o)

-- The layout kept, of so many lengths; none where nothing is kept.
abbrev pub best_kept : (number run : ℕ) → Option Odometer → BestLayout
best_kept k run (Some o) = found_at k run o
best_kept k run None = none

-- After one more try, of the layout shown.
abbrev pub JudgedNext : Option Odometer → Odometer → (run : ℕ) → Option Odometer → Type 0
JudgedNext kept at run r = (k : ℕ) → best_kept k run r ≡ better (best_kept k run kept) (if leb run at.total then found_at k run at else none)

-- After so many tries: what is kept is the best of the layouts tried, and as many were tried. The caller passes the lesser of the limit and the
-- number of layouts, so the tries never pass the layouts there are.
pub record Searched (ls : List ℕ) (run tries : ℕ) (r : Tried) : Type 0 where
  pub made : r.tries ≡ tries
  pub covers : IfSome r.best (Covering run)
  pub kept : best_kept (length ls) run r.best ≡ best ls run (layouts_from (length ls) 0 r.tries)
