-- Document 01's table of refusals, and document 02's: the number of each row, and what it returns. "Number 6 no longer occurs anywhere."
-- Assumes nothing.
use Rattle.std.specs.Prelude.{ℕ, Bool, true, false, Result, Ok, Err}
use Rattle.refusal.specs.declared.Refusal.{Refusal}
use Rattle.refusal.specs.declared.Refusal.TheVariants.{Ended, Malformed, HeaderRange, HazardRange, NearBarrier, LeftOver, Argument, Room, Schedule}
use Rattle.refusal.specs.declared.Refusal.TheVariants.{Ranges, Name, State, Hazard, Full, Lengths, Tries}
use Rattle.base.specs.Answer.{Answer, accepted, refused}

abbrev pub row : Refusal → ℕ × ℕ
row (Ended at) = (1, at)
row (Malformed at) = (2, at)
row (HeaderRange number) = (3, number)
row (HazardRange index) = (4, index)
row (NearBarrier index) = (5, index)
row (LeftOver at) = (7, at)
row Argument = (8, 0)
row (Room needed) = (9, needed)
row Schedule = (10, 0)
row Ranges = (11, 0)
row (Name name) = (12, name)
row State = (13, 0)
row Hazard = (14, 0)
row Full = (15, 0)
row Lengths = (16, 0)
row Tries = (17, 0)

abbrev pub number_of : Refusal → ℕ
number_of r = (row r).0

abbrev pub value_of : Refusal → ℕ
value_of r = (row r).1

-- The refusal as an answer.
abbrev pub refusal : {A : Type 0} → Refusal → Answer A
refusal r = refused (number_of r) (value_of r)

-- Refuse by a row of the table unless the test passes.
abbrev pub unless_refuse : Bool → Refusal → Answer (Unit {0})
unless_refuse true r = accepted tt
unless_refuse false r = refusal r

-- What a function returned, as an answer.
abbrev pub answer_of : {A : Type 0} → Result A Refusal → Answer A
answer_of (Ok a) = accepted a
answer_of (Err r) = refusal r
