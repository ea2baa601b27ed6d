-- Document 02's request 1 as statements about the call quantities: when it gives which refusal, that each quantity is the single call's, and that the
-- records are the runs.
-- Assumes nothing.
use Rattle.std.specs.Prelude.{ℕ, ◌≤◌, ◌<◌, ◌≡◌, ◌↔◌, List, length, get_or}
use Rattle.base.specs.Answer.{accepted, refused}
use Rattle.number.specs.Form.{Bytes}
use Rattle.schedule.specs.Schedule.{IsSchedule}
use Rattle.queries.specs.Quantity.{quantity}
use Rattle.queries.specs.Ranges.{ranges_of, range_at, AllRanged, most_ranges, quantities, QuantitiesReplied, quantities_replied}

-- 8: a level that is not 1 to 6, a number without its partner, or "any p > q among them".
abbrev pub QuantitiesEight : Type 0
QuantitiesEight = (s : List ℕ) (v : ℕ) (l : List ℕ) → Bytes s → (quantities s v l ≡ refused 8 0) ↔ (AllRanged v l → ⊥)

-- "More than 64 ranges is 11, after 8 and before 10."
abbrev pub QuantitiesEleven : Type 0
QuantitiesEleven = (s : List ℕ) (v : ℕ) (l : List ℕ) → Bytes s → (quantities s v l ≡ refused 11 0) ↔ (AllRanged v l × (most_ranges < length (ranges_of l)))

-- 10: the arguments are in their ranges, the ranges few, and the schedule isn't the writing of a run list.
abbrev pub QuantitiesTen : Type 0
QuantitiesTen =
    (s : List ℕ) (v : ℕ) (l : List ℕ) → Bytes s → (quantities s v l ≡ refused 10 0) ↔ (AllRanged v l × (length (ranges_of l) ≤ most_ranges) × (IsSchedule s → ⊥))

-- And no call is refused but those.
abbrev pub QuantitiesDone : Type 0
QuantitiesDone = (s : List ℕ) (v : ℕ) (l : List ℕ) → Bytes s
    → ((quantities_replied (quantities s v l)).answer ≡ accepted tt) ↔ (AllRanged v l × (length (ranges_of l) ≤ most_ranges) × IsSchedule s)

-- What a reply without refusal holds.
pub record Given (s : List ℕ) (v : ℕ) (l : List ℕ) (r : QuantitiesReplied) : Type 0 where
  pub ranged : AllRanged v l
  pub few : length (ranges_of l) ≤ most_ranges
  pub schedule : IsSchedule s
  -- "That count equals the schedule's run count."
  pub records : (w : IsSchedule s) → r.records ≡ length w.runs
  -- "Each quantity is what the single call gives."
  pub each : (i : ℕ) → i < length (ranges_of l) → quantity s v (range_at l i).p (range_at l i).q ≡ accepted (get_or r.places i 0)
  pub behind : (i : ℕ) → length (ranges_of l) ≤ i → get_or r.places i 0 ≡ 0
  pub places : length r.places ≡ most_ranges

abbrev pub QuantitiesGiven : Type 0
QuantitiesGiven = (s : List ℕ) (v : ℕ) (l : List ℕ) → Bytes s → (quantities_replied (quantities s v l)).answer ≡ accepted tt
    → Given s v l (quantities_replied (quantities s v l))

-- "A refusal gives no quantities and a count of 0."
pub record Empty (r : QuantitiesReplied) : Type 0 where
  pub records : r.records ≡ 0
  pub each : (i : ℕ) → get_or r.places i 0 ≡ 0
  pub places : length r.places ≡ most_ranges

abbrev pub QuantitiesRefused : Type 0
QuantitiesRefused =
    (s : List ℕ) (v : ℕ) (l : List ℕ) (number value : ℕ) → quantities s v l ≡ refused number value → Empty (quantities_replied (quantities s v l))
