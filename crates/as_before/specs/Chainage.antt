-- Document 02, request 11: "Bytes accepted before give the same replies, sheet corners newly in range apart." Stated as the whole reply of each call that there
-- was, by
-- the job or the run list that the bytes were.
-- Assumes nothing.
use Rattle.std.specs.Prelude.{ℕ, ◌≤◌, ◌<◌, ◌≡◌, ◌⊎◌, ◌↔◌, ◌&&◌, length, leb}
use mathlib.Core.List.{List, ◌∷◌, ◌++◌, map, Memᴰ}
use Rattle.base.specs.Answer.{Answer, accepted, ◌>>=◌}
use Rattle.refusal.specs.Refusal.{refusal, unless_refuse}
use Rattle.refusal.specs.declared.Refusal.TheVariants as Row
use Rattle.job.specs.declared.Hazard.{Hazard}
use Rattle.job.specs.Job.{Job, unnamed, made_from}
use Rattle.runs.specs.declared.Stretch.{Stretch}
use Rattle.runs.specs.Level.{Has}
use Rattle.runs.specs.RunList.{shown_level, last_end}
use Rattle.planning.specs.Envelope.{adjacent_traffic, side_overhangs, accept_job}
use Rattle.planning.specs.Required.{job_level, job_runs}
use Rattle.planning.specs.Approached.{approached_hazard}
use Rattle.schedule.specs.Plan.{PlannedSide, fitted, plan}
use Rattle.station_level.specs.Level.{level_at}
use Rattle.corners.specs.Corners.{approach_points, corners_of}
use Rattle.clear_offset.specs.Offset.{hazard_offset, smallest_offset}
use Rattle.open_memory.specs.Memory.{most_standing}
use Rattle.open_job.specs.declared.OpenStates.{OpenStates}
use Rattle.open_job.specs.Calls.{open_states, schedule_in}
use Rattle.open_promises.specs.Opening.{opened_from}
use Rattle.open_promises.specs.Lists.{Call, added_since, CallsFrom}
use Rattle.queries.specs.Quantity.{millimetres, quantity}
use Rattle.queries.specs.Ranges.{ranges_of, are_ranges, most_ranges, quantities}
use Rattle.queries.specs.Lookup.{Found, found, nowhere, asked, lookup}
use Rattle.report.specs.Text.{runs_report, reported}
use Rattle.as_before.specs.AcceptedBefore.{written_before, JobBefore, RunsBefore, record_numbers, all_record_numbers, schedule_before}

-- Plan's reply for a job: 8 for a side above 1; the schedule of the side's runs, in numbers of at most five bytes, and its overhangs; or 9.
abbrev pub planned_before : Job → (side room : ℕ) → Answer PlannedSide
planned_before j side room = unless_refuse (leb side 1) Row.Argument >>= λ _. fitted (schedule_before (job_runs j side)) (side_overhangs j side) room

-- What each call that there was replies to the bytes of the job j. No right side reads the bytes, or has a limit that the request moved.
pub record RepliesByJob (s : List ℕ) (j : Job) : Type 0 where
  pub plans : (side room : ℕ) → plan s side room ≡ planned_before j side room
  pub levels : (side t : ℕ) → level_at s side t ≡ (unless_refuse (leb side 1) Row.Argument >>= λ _. accepted (job_level j side t))
  -- "each 0 to 2,000,000,000"
  pub corners : (index x y : ℕ) → x ≤ 2000000000 → y ≤ 2000000000
      → corners_of s index x y ≡ (approached_hazard j index >>= λ z. accepted (approach_points x y j.header z (adjacent_traffic j.header z.side)))
  -- 8 for a sheet corner that is out of range still
  pub off_sheet : (index x y : ℕ) → (1000000000000 < x) ⊎ (1000000000000 < y) → corners_of s index x y ≡ refusal Row.Argument
  pub offsets : (index longest : ℕ) → smallest_offset s index longest ≡ (approached_hazard j index >>= λ z. accepted (hazard_offset j.header z longest))
  -- "Opening takes job bytes that carry no hazard": an open job without hazards, nothing kept; "a hazard count above 0 is 3"
  pub opens : open_states s ≡ opened_from j.header j.hazards
  -- after an opening with these bytes and any list of calls: the schedule of a job made from the hazards that stand
  pub schedules : (calls : List Call) (m : OpenStates) → CallsFrom s j calls m → (zs : List Hazard) → length zs ≤ most_standing
      → ((z : Hazard) → Memᴰ z zs ↔ Memᴰ z (map unnamed (added_since j.header calls))) → (side room : ℕ)
      → schedule_in m side room ≡ planned_before (made_from j.header zs) side room
  -- the text of the program `barrier`
  pub prints : reported s ≡ runs_report (job_runs j 0) (job_runs j 1)

-- Lookup finds this in the schedule of the side asked for, whatever the other holds; 8 for a side above 1. (What it returns is `part_of` of this
-- answer, what its companion says `outcome_of`.)
abbrev pub LookedUp : (w : List ℕ) (t : ℕ) → Found → Type 0
LookedUp w t f =
    (right left : List ℕ) (side : ℕ) → asked side right left ≡ w → lookup right left side t ≡ (unless_refuse (leb side 1) Row.Argument >>= λ _. accepted f)

-- And what each replies to the bytes of the schedule whose runs are rs.
pub record RepliesByRuns (w : List ℕ) (rs : List Stretch) : Type 0 where
  pub single : (level p q : ℕ) → quantity w level p q
      ≡ (unless_refuse (leb 1 level && leb level 6 && leb p q) Row.Argument >>= λ _. accepted (millimetres (shown_level rs) level p q))
  pub lots : (level : ℕ) (numbers : List ℕ)
      → quantities w level numbers
      ≡ (unless_refuse (leb 1 level && leb level 6 && are_ranges numbers) Row.Argument >>= λ _.
      unless_refuse (leb (length (ranges_of numbers)) most_ranges) Row.Ranges >>= λ _.
      accepted (record { records = length rs; quantities = map (λ z. millimetres (shown_level rs) level z.p z.q) (ranges_of numbers) }))
  -- the record of the run that has the station: after the run count and the records before it
  pub looks : (before : List Stretch) (r : Stretch) (after : List Stretch) (t : ℕ) → rs ≡ before ++ r ∷ after → Has r t
      → LookedUp w t (found (record {
        at = length (written_before (length rs ∷ all_record_numbers 0 before));
        len = length (written_before (record_numbers (last_end 0 before) r));
      }))
  pub looks_none : (t : ℕ) → ((r : Stretch) → Memᴰ r rs → Has r t → ⊥) → LookedUp w t nowhere

-- The bytes are the job that they were; and the runs of its sides, whose schedules plan writes, are a run list as it was.
pub record JobAsBefore (s : List ℕ) (j : Job) : Type 0 where
  pub accepts : accept_job s ≡ accepted j
  pub replies : RepliesByJob s j
  pub runs : (side : ℕ) → RunsBefore (job_runs j side)

abbrev pub JobsBefore11 : Type 0
JobsBefore11 = (s : List ℕ) (j : Job) → JobBefore s j → JobAsBefore s j

abbrev pub SchedulesBefore11 : Type 0
SchedulesBefore11 = (rs : List Stretch) → RunsBefore rs → RepliesByRuns (schedule_before rs) rs
