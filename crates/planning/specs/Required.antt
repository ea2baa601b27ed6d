-- What a job requires on a side: the level at each millimetre, and the runs of that level.
-- Assumes nothing.
use Rattle.std.specs.Prelude.{ℕ, List}
use Rattle.job.specs.Job.{Job}
use Rattle.runs.specs.declared.Stretch.{Stretch}
use Rattle.runs.specs.Level.{required_level}
use Rattle.runs.specs.Required.{required_runs}
use Rattle.planning.specs.Envelope.{side_envelopes}

unfoldable pub job_level : Job → (side t : ℕ) → ℕ
job_level j side t = required_level (side_envelopes j side) j.header.continuity t

unfoldable pub job_runs : Job → (side : ℕ) → List Stretch
job_runs j side = required_runs (side_envelopes j side) j.header.continuity
