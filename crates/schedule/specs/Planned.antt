-- The planned schedule of a job and side, and the level that a schedule shows.
-- Assumes nothing.
use Rattle.std.specs.Prelude.{ℕ, ◌≤◌, ◌≡◌, List, length}
use Rattle.base.specs.Answer.{Answer, accepted, refused, ◌>>=◌}
use Rattle.job.specs.Job.{Job}
use Rattle.planning.specs.Envelope.{accept_job}
use Rattle.runs.specs.declared.Stretch.{Stretch}
use Rattle.runs.specs.RunList.{shown_level}
use Rattle.schedule.specs.Schedule.{read_schedule}
use Rattle.schedule.specs.Plan.{PlannedSide, plan}

-- s is an accepted job, j.
abbrev pub Accepted : List ℕ → Job → Type 0
Accepted s j = accept_job s ≡ accepted j

-- The schedule that is written, without the overhangs.
unfoldable pub schedule_alone : Answer PlannedSide → Answer (List ℕ)
schedule_alone a = a >>= λ p. accepted p.schedule

-- w is the planned schedule: the bytes that plan writes, into any output long enough.
abbrev pub Planned : List ℕ → ℕ → List ℕ → Type 0
Planned s side w = (room : ℕ) → length w ≤ room → schedule_alone (plan s side room) ≡ accepted w

-- The level that a schedule shows at t: of the run that has t, in the run list whose writing it is, else 0.
abbrev pub level_in : Answer (List Stretch) → ℕ → ℕ
level_in (accepted rs) t = shown_level rs t
level_in (refused k v) t = 0

abbrev pub schedule_level : List ℕ → ℕ → ℕ
schedule_level w t = level_in (read_schedule w) t
