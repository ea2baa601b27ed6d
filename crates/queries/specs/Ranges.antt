-- Document 02's first request, quantities for a whole contract: up to 64 ranges and one level in one call.
-- Assumes nothing.
use Rattle.std.specs.Prelude.{ℕ, ◌+◌, ◌*◌, ◌≤◌, ◌<◌, ◌≡◌, Bool, true, false, ◌&&◌, List, [], ◌∷◌, map, length, get_or, leb}
use Rattle.base.specs.Answer.{Answer, accepted, refused, ◌>>=◌}
use Rattle.refusal.specs.Refusal.{unless_refuse}
use Rattle.refusal.specs.declared.Refusal.TheVariants as Row
use Rattle.base.specs.Stored.{padded}
use Rattle.runs.specs.RunList.{shown_level}
use Rattle.schedule.specs.Schedule.{read_schedule}
use Rattle.queries.specs.Quantity.{millimetres}
use Rattle.queries.specs.declared.reply.Quantities.{Quantities}

-- A range p, q has the millimetres [p, q).
pub record Range : Type 0 where
  pub p : ℕ
  pub q : ℕ

-- The ranges of the numbers p, q, p, q, ..
unfoldable pub ranges_of : List ℕ → List Range
ranges_of [] = []
ranges_of (p ∷ []) = []
ranges_of (p ∷ q ∷ numbers) = record { p = p; q = q } ∷ ranges_of numbers

-- Each p has its q, and "any p > q among them is 8".
unfoldable pub are_ranges : List ℕ → Bool
are_ranges [] = true
are_ranges (p ∷ []) = false
are_ranges (p ∷ q ∷ numbers) = leb p q && are_ranges numbers

-- The same in words, by the range at an index: every number has its partner, and no p is above its q.
abbrev pub range_at : List ℕ → (i : ℕ) → Range
range_at l i = record { p = get_or l (2 * i) 0; q = get_or l (2 * i + 1) 0 }

pub record WholeRanges (l : List ℕ) : Type 0 where
  pub pairs : length l ≡ 2 * length (ranges_of l)
  pub ordered : (i : ℕ) → i < length (ranges_of l) → (range_at l i).p ≤ (range_at l i).q

-- What 8 asks of a level and the ranges.
abbrev pub AllRanged : (level : ℕ) (numbers : List ℕ) → Type 0
AllRanged level numbers = (1 ≤ level) × (level ≤ 6) × WholeRanges numbers

-- "Take up to 64 ranges."
abbrev pub most_ranges : ℕ
most_ranges = 64

-- "All quantities", and "the count of records read".
pub record Counted : Type 0 where
  pub records : ℕ
  pub quantities : List ℕ

-- "More than 64 ranges is 11, after 8 and before 10." "That count equals the schedule's run count. Each quantity is what the single call gives."
unfoldable pub quantities : (s : List ℕ) (level : ℕ) (numbers : List ℕ) → Answer Counted
quantities s level numbers =
    unless_refuse (leb 1 level && leb level 6 && are_ranges numbers) Row.Argument >>= λ _.
    unless_refuse (leb (length (ranges_of numbers)) most_ranges) Row.Ranges >>= λ _.
    read_schedule s >>= λ rs.
    accepted (record { records = length rs; quantities = map (λ z. millimetres (shown_level rs) level z.p z.q) (ranges_of numbers) })

-- The reply, complete: done or the refusal, the count, and 64 places.
pub record QuantitiesReplied : Type 0 where
  pub answer : Answer (Unit {0})
  pub records : ℕ
  pub places : List ℕ

-- A quantity for each range, in their order, and zeros behind them.
abbrev pub quantity_places : List ℕ → List ℕ
quantity_places quantities = padded most_ranges 0 quantities

-- "A refusal gives no quantities and a count of 0."
unfoldable pub quantities_replied : Answer Counted → QuantitiesReplied
quantities_replied (accepted c) = record { answer = accepted tt; records = c.records; places = quantity_places c.quantities }
quantities_replied (refused number value) = record { answer = refused number value; records = 0; places = quantity_places [] }

-- The same as the code's struct.
abbrev pub replies : Answer Counted → Answer Quantities
replies a = a >>= λ c. accepted (record { records = c.records; quantities = quantity_places c.quantities })
