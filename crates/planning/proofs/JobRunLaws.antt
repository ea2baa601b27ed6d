-- The runs that an accepted job requires on a side: the one run list that shows the required level everywhere.
-- Assumes nothing.
use Prim.Native.Nat.{ℕ}
use mathlib.Core.Path.{◌≡◌}
use mathlib.Core.Bool.{true}
use Rattle.job.specs.Job.{Job}
use Rattle.runs.specs.RunList.{is_run_list, RunsOf}
use Rattle.runs.proofs.RequiredLaws.{required_runs_lem, required_run_list}
use Rattle.planning.specs.Envelope.{side_envelopes}
use Rattle.planning.specs.Required.{job_level, job_runs}
use Rattle.planning.specs.Rows.{AcceptedFits}
use Rattle.planning.proofs.EnvelopeLaws.{side_proper, side_ends, side_count}

module _ (j : Job) (side : ℕ) (fits : AcceptedFits j) where
  pub job_runs_lem : RunsOf (job_level j side) (job_runs j side)
  unfolding job_level job_runs
  job_runs_lem = required_runs_lem (side_envelopes j side) j.header.continuity (side_proper j side fits) (side_ends j side fits)

  pub job_run_list : is_run_list (job_runs j side) ≡ true
  unfolding job_runs
  job_run_list = required_run_list (side_envelopes j side) j.header.continuity (side_proper j side fits) (side_ends j side fits) (side_count j side fits)
