-- The calls quantity and lookup as the paper says them: when each gives which refusal, what a quantity counts and how quantities add up, and what lookup finds.
-- Assumes nothing.
use Rattle.std.specs.Prelude.{ℕ, ◌+◌, ◌≤◌, ◌<◌, ◌≡◌, ◌↔◌, length}
use mathlib.Core.List.{List, Memᴰ}
use Rattle.base.specs.Answer.{accepted, refused}
use Rattle.number.specs.Number.{write_number}
use Rattle.number.specs.Form.{Bytes}
use Rattle.runs.specs.declared.Stretch.{Stretch}
use Rattle.runs.specs.Level.{Has}
use Rattle.runs.specs.RunList.{shown_level}
use Rattle.schedule.specs.Schedule.{IsSchedule, read_schedule}
use Rattle.queries.specs.Quantity.{millimetres, Ranged, quantity}
use Rattle.queries.specs.Lookup.{FoundRun, Found, found, nowhere, asked, lookup}

-- Quantity

-- 8: "level not 1 to 6, or p > q".
abbrev pub QuantityEight : Type 0
QuantityEight = (s : List ℕ) (v p q : ℕ) → Bytes s → (quantity s v p q ≡ refused 8 0) ↔ (Ranged v p q → ⊥)

-- 10, after 8: "a schedule that isn't the writing of a run list".
abbrev pub QuantityTen : Type 0
QuantityTen = (s : List ℕ) (v p q : ℕ) → Bytes s → (quantity s v p q ≡ refused 10 0) ↔ (Ranged v p q × (IsSchedule s → ⊥))

-- What a quantity is where it is given.
pub record Counts (s : List ℕ) (v p q n : ℕ) : Type 0 where
  pub ranged : Ranged v p q
  pub runs : List Stretch
  pub read : read_schedule s ≡ accepted runs
  pub count : millimetres (shown_level runs) v p q ≡ n

-- "Gives how many millimetres of [p, q) have exactly that level."
abbrev pub QuantityCounts : Type 0
QuantityCounts = (s : List ℕ) (v p q n : ℕ) → (quantity s v p q ≡ accepted n) ↔ Counts s v p q n

-- "For p ≤ r ≤ q, [p, r) and [r, q) add up to [p, q)", in every schedule that is the writing of a run list; none of the three calls is refused.
abbrev pub QuantityAdd : Type 0
QuantityAdd =
    (s : List ℕ) (w : IsSchedule s) (v p r q : ℕ) → 1 ≤ v → v ≤ 6 → p ≤ r → r ≤ q
    → let in-lot = millimetres (shown_level w.runs) v in
    (quantity s v p r ≡ accepted (in-lot p r)) × (quantity s v r q ≡ accepted (in-lot r q)) × (quantity s v p q ≡ accepted (in-lot p r + in-lot r q))

-- Lookup

-- 8: "side above 1".
abbrev pub LookupEight : Type 0
LookupEight = (right left : List ℕ) (side t : ℕ) → Bytes (asked side right left) → (lookup right left side t ≡ refused 8 0) ↔ (1 < side)

-- 10, "of the asked side's schedule"; the other side's is not looked at.
abbrev pub LookupTen : Type 0
LookupTen = (right left : List ℕ) (side t : ℕ) → Bytes (asked side right left)
    → (lookup right left side t ≡ refused 10 0) ↔ ((side ≤ 1) × (IsSchedule (asked side right left) → ⊥))

-- What lookup finds at t in the writing of runs: the record of the run that has t, or nothing where no run has it.
abbrev pub Finds : (s : List ℕ) (rs : List Stretch) (t : ℕ) → Found → Type 0
Finds s rs t (found p) = FoundRun s 0 (length (write_number (length rs))) rs t p
Finds s rs t nowhere = (r : Stretch) → Memᴰ r rs → Has r t → ⊥

-- Lookup's reply: it is no refusal.
pub record LookedIn (right left : List ℕ) (side : ℕ) (rs : List Stretch) (t : ℕ) : Type 0 where
  pub answer : Found
  pub replies : lookup right left side t ≡ accepted answer
  pub finds : Finds (asked side right left) rs t answer

abbrev pub LookupWritten : Type 0
LookupWritten = (right left : List ℕ) (side t : ℕ) → side ≤ 1 → (w : IsSchedule (asked side right left)) → LookedIn right left side w.runs t
