-- Jobs that were accepted before document 02's request 8.
-- Assumes nothing.
use borrow.Author.Tests.{le-leb}
use Rattle.planning.specs.Required.{job_runs}
use Rattle.planning.proofs.RoadLaws.{stays_uncut, stays_no_overhang}
use Rattle.schedule.specs.Plan.{plan}
use Rattle.as_before.specs.Overhang.{PlanBefore8}

pub plan_before_8 : PlanBefore8
unfolding plan job_runs
plan_before_8 s j a stays side room side_ok = rw (le-leb side 1 side_ok, a, stays_uncut j side stays, stays_no_overhang j side stays)
