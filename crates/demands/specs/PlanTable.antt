-- Plan's rows of document 01's table of refusals: what is returned, and when; and when the schedule is written.
-- Assumes nothing.
use Rattle.std.specs.Prelude.{ℕ, ◌≤◌, ◌<◌, ◌≡◌, ◌↔◌, List, length}
use Rattle.base.specs.Answer.{accepted}
use Rattle.refusal.specs.Refusal.{refusal}
use Rattle.refusal.specs.declared.Refusal.{Refusal}
use Rattle.refusal.specs.declared.Refusal.TheVariants as Row
use Rattle.number.specs.Form.{Bytes}
use Rattle.job.specs.Job.{Job}
use Rattle.planning.specs.Envelope.{side_overhangs}
use Rattle.planning.specs.Required.{job_runs}
use Rattle.planning.specs.Rows.{JobRow}
use Rattle.schedule.specs.Schedule.{write_schedule}
use Rattle.schedule.specs.Plan.{PlannedSide, plan}
use Rattle.schedule.specs.Planned.{Accepted}

-- The schedule of a side of a job, and with its overhangs.
abbrev pub side_schedule : Job → (side : ℕ) → List ℕ
side_schedule j side = write_schedule (job_runs j side)

abbrev pub side_planned : Job → (side : ℕ) → PlannedSide
side_planned j side = record { schedule = side_schedule j side; overhangs = side_overhangs j side }

-- An accepted job on a good side, whose schedule has n bytes, more than there is room for.
pub record NeedsRoom (s : List ℕ) (side room n : ℕ) : Type 0 where
  pub good_side : side ≤ 1
  pub job : Job
  pub taken : Accepted s job
  pub needed : length (side_schedule job side) ≡ n
  pub short : room < n

-- "Order: 8; then" the job's, on a good side, 1 to 5 and 7; "9".
pub data PlanRow (r : Refusal) (s : List ℕ) (side room : ℕ) : Type 0 where
  -- 8: "0"; "side above 1".
  bad_side : r ≡ Row.Argument → 1 < side → PlanRow r s side room
  -- 1 to 5 and 7: as the table has them of a job.
  of_job : side ≤ 1 → JobRow r s → PlanRow r s side room
  -- 9: "bytes needed"; "output shorter than that".
  no_room : (n : ℕ) → r ≡ Row.Room n → NeedsRoom s side room n → PlanRow r s side room

-- "Each number is returned under its condition, in the order below, and never otherwise."
abbrev pub PlanExactly : Type 0
PlanExactly = (s : List ℕ) (side room : ℕ) (r : Refusal) → Bytes s → (plan s side room ≡ refusal r) ↔ PlanRow r s side room

-- An accepted job on a good side, whose schedule and overhangs are p, and for whose schedule there is room.
pub record Fits (s : List ℕ) (side room : ℕ) (p : PlannedSide) : Type 0 where
  pub good_side : side ≤ 1
  pub job : Job
  pub taken : Accepted s job
  pub is : side_planned job side ≡ p
  pub room_enough : length p.schedule ≤ room

-- The schedule is written exactly then.
abbrev pub PlanWritten : Type 0
PlanWritten = (s : List ℕ) (side room : ℕ) (p : PlannedSide) → (plan s side room ≡ accepted p) ↔ Fits s side room p

-- "And never otherwise": whatever plan answers to bytes, it refuses by a row under that row's condition, or it has written the schedule.
pub data PlanAnswer (s : List ℕ) (side room : ℕ) : Type 0 where
  refused_by : (r : Refusal) → plan s side room ≡ refusal r → PlanRow r s side room → PlanAnswer s side room
  schedule_written : (p : PlannedSide) → plan s side room ≡ accepted p → Fits s side room p → PlanAnswer s side room

abbrev pub PlanAnswers : Type 0
PlanAnswers = (s : List ℕ) (side room : ℕ) → Bytes s → PlanAnswer s side room
