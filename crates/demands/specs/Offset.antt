-- Document 02's request 10 as statements about the definitions: when smallest offset gives each of its replies, and its refusals against plan's.
-- Assumes nothing.
use Rattle.std.specs.Prelude.{ℕ, ◌+◌, ◌≤◌, ◌<◌, ◌≡◌, ◌↔◌, ◌≢◌, true, List, length}
use Rattle.base.specs.Answer.{accepted, refused}
use Rattle.base.specs.Least.{Least}
use Rattle.job.specs.Job.{Job}
use Rattle.planning.specs.Approached.{hazard_at, adjacent_reaches}
use Rattle.schedule.specs.Plan.{plan}
use Rattle.schedule.specs.Planned.{Accepted}
use Rattle.clear_offset.specs.Offset.{length_at, Allowed, offset, none, smallest_offset}
use Rattle.demands.specs.Corners.{NoApproach}

-- The bytes are an accepted job that has a hazard with the index, and adjacent traffic reaches that.
pub record Approached (s : List ℕ) (j : Job) (index : ℕ) : Type 0 where
  pub job : Accepted s j
  pub there : index < length j.hazards
  pub reach : adjacent_reaches j.header (hazard_at j index) ≡ true

-- "Give the smallest M from 0 to 20,000 with n at least M + D whose approach length is no longer."
abbrev pub OffsetGiven : Type 0
OffsetGiven =
    (s : List ℕ) (index longest M : ℕ)
    → (smallest_offset s index longest ≡ accepted (offset M)) ↔ ((j : Job) × Approached s j index × Least (Allowed j.header (hazard_at j index) longest) M)

-- "If there is no such M, say none, and only then": every M from 0 to 20,000 with n at least M + D is too long.
abbrev pub AllTooLong : Job → (index longest : ℕ) → Type 0
AllTooLong j index longest = (M : ℕ) → M ≤ 20000 → M + j.header.deflection ≤ (hazard_at j index).near → longest < length_at j.header (hazard_at j index) M

abbrev pub OffsetNone : Type 0
OffsetNone =
    (s : List ℕ) (index longest : ℕ) → (smallest_offset s index longest ≡ accepted none) ↔ ((j : Job) × Approached s j index × AllTooLong j index longest)

-- For a wanted length of 0 there is none: every approach has a millimetre.
abbrev pub OffsetZero : Type 0
OffsetZero = (s : List ℕ) (j : Job) (index : ℕ) → Approached s j index → smallest_offset s index 0 ≡ accepted none

-- "A job that isn't accepted is refused as plan refuses it": number and value, on either side of plan and whatever its room is.
abbrev pub OffsetRefusals : Type 0
OffsetRefusals =
    (s : List ℕ) (index longest side room k v : ℕ) → side ≤ 1
    → ((smallest_offset s index longest ≡ refused k v) × (k ≢ 14)) ↔ ((plan s side room ≡ refused k v) × (k ≢ 9))

-- "After that, no such hazard, or one that adjacent traffic doesn't reach, is 14."
abbrev pub OffsetFourteen : Type 0
OffsetFourteen = (s : List ℕ) (index longest v : ℕ) → (smallest_offset s index longest ≡ refused 14 v) ↔ ((v ≡ 0) × NoApproach s index)
