-- Document 02's request 13 as statements about the call: when it is refused, and what is promised of every call that is not.
-- Assumes nothing.
use Rattle.std.specs.Prelude.{ℕ, ◌+◌, ◌^◌, ◌≤◌, ◌<◌, min, ◌≡◌, ◌↔◌, ◌⊎◌, true, false, length, get_or, replicate}
use mathlib.Core.List.{List, [], ◌∷◌, Memᴰ}
use Rattle.base.specs.Choice.{Passing}
use Rattle.base.specs.Answer.{accepted, refused}
use Rattle.base.specs.Least.{LeastMultiple}
use Rattle.panels.specs.Layout as spec
use Rattle.panels.specs.Layout.{IsLayout, layouts, tried, BestLayout, none, found}
use Rattle.panels.specs.Panels.{Panels, gcd, floor, most_lengths, out_of_range, panels_for}

-- What is refused

-- "No length, over four, or one out of range."
abbrev pub Unfit : List ℕ → Type 0
Unfit ls = (length ls ≡ 0) ⊎ ((most_lengths < length ls) ⊎ Passing out_of_range ls)

-- One length or more, each at least 1.
pub record SomeLengths (ls : List ℕ) : Type 0 where
  pub some : 1 ≤ length ls
  pub each : (l : ℕ) → Memᴰ l ls → 1 ≤ l

-- "The yard stocks up to four panel lengths, each 1 to 20,000."
pub record StockLengths (ls : List ℕ) : Type 0 where
  pub proper : SomeLengths ls
  pub four : length ls ≤ most_lengths
  pub to : (l : ℕ) → Memᴰ l ls → l ≤ 20000

-- "A given number of tries, at most 65,536", and not 0.
pub record Limit (limit : ℕ) : Type 0 where
  pub low : 1 ≤ limit
  pub top : limit ≤ 65536

-- "No length, over four, or one out of range is 16, tested first": exactly then, and it returns 0.
abbrev pub PanelsSixteen : Type 0
PanelsSixteen = (ls : List ℕ) (run limit v : ℕ) → (panels_for ls run limit ≡ refused 16 v) ↔ ((v ≡ 0) × Unfit ls)

-- "A limit of 0 or above 65,536 is 17, next."
abbrev pub PanelsSeventeen : Type 0
PanelsSeventeen = (ls : List ℕ) (run limit v : ℕ) → (panels_for ls run limit ≡ refused 17 v) ↔ ((v ≡ 0) × StockLengths ls × ((limit ≡ 0) ⊎ (65536 < limit)))

-- The reply

-- Every other call is answered.
abbrev pub PanelsAnswered : Type 0
PanelsAnswered =
    (ls : List ℕ) (run limit : ℕ) → StockLengths ls → Limit limit
    → panels_for ls run limit ≡ accepted (record { best = spec.best ls run (tried ls limit); tries = length (tried ls limit); floor = floor ls run })

-- "The smallest overrun among those tried, its first layout": the layout stands in the list and covers; no covering one of the list has a smaller
-- overrun, and each covering one before it has a greater.
pub record FirstSmallest (lengths : List ℕ) (run : ℕ) (layouts : List (List ℕ)) (overrun : ℕ) (counts : List ℕ) : Type 0 where
  pub place : ℕ
  pub among : place < length layouts
  pub there : get_or layouts place [] ≡ counts
  pub covers : spec.covers lengths run counts ≡ true
  pub its : overrun ≡ spec.overrun lengths run counts
  pub smallest : (l : List ℕ) → Memᴰ l layouts → spec.covers lengths run l ≡ true → overrun ≤ spec.overrun lengths run l
  pub first : (i : ℕ) → i < place → spec.covers lengths run (get_or layouts i []) ≡ true → overrun < spec.overrun lengths run (get_or layouts i [])

-- No layout of the list covers.
abbrev pub NoneCovers : (lengths : List ℕ) (run : ℕ) (layouts : List (List ℕ)) → Type 0
NoneCovers lengths run layouts = (l : List ℕ) → Memᴰ l layouts → spec.covers lengths run l ≡ false

-- The overrun is no worse; none is worse than any.
abbrev pub NoWorse : (a b : BestLayout) → Type 0
NoWorse a none = Unit {0}
NoWorse none (found p m) = ⊥
NoWorse (found o l) (found p m) = o ≤ p

-- "The floor is the distance from the run's length up to the least multiple, not below it, of the lengths' greatest common divisor".
abbrev pub FloorOf : (lengths : List ℕ) (run distance : ℕ) → Type 0
FloorOf lengths run distance = LeastMultiple (gcd lengths) run (run + distance)

-- What is promised of the reply p of a call that is not refused.
pub record PanelsGiven (lengths : List ℕ) (run limit : ℕ) (p : Panels) : Type 0 where
  -- "Tries made are the lesser of the limit and the layouts there are": 16 counts of each length. They are the length of the prefix that was tried.
  pub tries_made : (p.tries ≡ length (tried lengths limit)) × (p.tries ≡ min limit (length (layouts (length lengths))))
      × (length (layouts (length lengths)) ≡ 16 ^ length lengths)
  -- "The smallest overrun among those tried, its first layout."
  pub smallest : (o : ℕ) (counts : List ℕ) → p.best ≡ found o counts → FirstSmallest lengths run (tried lengths limit) o counts
  pub is_layout : (o : ℕ) (counts : List ℕ) → p.best ≡ found o counts → IsLayout lengths counts
  -- "None is said exactly if no tried layout covers."
  pub none_said : (p.best ≡ none) ↔ NoneCovers lengths run (tried lengths limit)
  -- "No covering layout, tried or not, overruns by less than the floor": of whatever counts.
  pub floor_is : FloorOf lengths run p.floor
  pub floor_under : (counts : List ℕ) → spec.covers lengths run counts ≡ true → p.floor ≤ spec.overrun lengths run counts
  -- "All tries give the least": with every layout tried, over all layouts.
  pub all_least : length (layouts (length lengths)) ≤ limit → (o : ℕ) (counts : List ℕ) → p.best ≡ found o counts
      → FirstSmallest lengths run (layouts (length lengths)) o counts
  pub all_none : length (layouts (length lengths)) ≤ limit → p.best ≡ none → NoneCovers lengths run (layouts (length lengths))
  -- The same of whatever is a layout.
  pub layout_least : length (layouts (length lengths)) ≤ limit → (o : ℕ) (counts : List ℕ) → p.best ≡ found o counts → (l : List ℕ) → IsLayout lengths l
      → spec.covers lengths run l ≡ true → o ≤ spec.overrun lengths run l
  pub layout_none : length (layouts (length lengths)) ≤ limit → p.best ≡ none → (l : List ℕ) → IsLayout lengths l → spec.covers lengths run l ≡ false

abbrev pub AllPanelsGiven : Type 0
AllPanelsGiven = (lengths : List ℕ) (run limit : ℕ) (p : Panels) → panels_for lengths run limit ≡ accepted p → PanelsGiven lengths run limit p

-- "More tries never give a worse overrun": of two calls alike but in their limits.
abbrev pub MoreTries : Type 0
MoreTries = (lengths : List ℕ) (run limit more : ℕ) (p q : Panels) → panels_for lengths run limit ≡ accepted p → panels_for lengths run more ≡ accepted q
    → limit ≤ more → NoWorse q.best p.best

-- "0 allowed": a run of length 0 is covered by no panels, with nothing over.
abbrev pub RunZero : Type 0
RunZero =
    (lengths : List ℕ) (limit : ℕ) (p : Panels) → panels_for lengths 0 limit ≡ accepted p → (p.best ≡ found 0 (replicate (length lengths) 0)) × (p.floor ≡ 0)

-- Worked: these lengths for a run of 21 (laws five_tries, all_tries, none_covers).
abbrev pub worked_lengths : List ℕ
worked_lengths = 4 ∷ 6 ∷ []
