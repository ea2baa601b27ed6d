-- Document 02, request 8: plan's reply to jobs that were accepted before it.
-- Assumes nothing.
use Rattle.std.specs.Prelude.{ℕ, ◌≤◌, ◌≡◌, List}
use Rattle.job.specs.Job.{Job}
use Rattle.planning.specs.Envelope.{envelopes, no_overhang, StaysOnRoad}
use Rattle.runs.specs.Required.{required_runs}
use Rattle.schedule.specs.Schedule.{write_schedule}
use Rattle.schedule.specs.Plan.{fitted, plan}
use Rattle.schedule.specs.Planned.{Accepted}

-- "Jobs accepted before get the same bytes and overhang 0." Each of them is accepted now, and 6, "envelope begins before A or ends after B", applied
-- to none of its hazards. Its schedule was that of its envelopes, not cut.
abbrev pub PlanBefore8 : Type 0
PlanBefore8 =
    (s : List ℕ) (j : Job) → Accepted s j → StaysOnRoad j → (side room : ℕ) → side ≤ 1
    → plan s side room ≡ fitted (write_schedule (required_runs (envelopes j.header side j.hazards) j.header.continuity)) no_overhang room
