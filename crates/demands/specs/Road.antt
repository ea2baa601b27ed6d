-- Document 02's request 8 as statements about plan: the overhangs that its reply carries, and that number 6 no longer occurs.
-- Assumes nothing.
use Rattle.std.specs.Prelude.{ℕ, ◌≡◌, ◌≢◌, List}
use Rattle.base.specs.Answer.{accepted, refused}
use Rattle.job.specs.Job.{Job}
use Rattle.planning.specs.declared.Overhangs.{Overhangs}
use Rattle.planning.specs.Overhang.{Greatest}
use Rattle.schedule.specs.Plan.{PlannedSide, plan}
use Rattle.schedule.specs.Planned.{Accepted}

-- "The reply carries, among the asked side's hazards, the greatest overhang in millimetres at each end, 0 where none."
pub record Overhanging (j : Job) (side : ℕ) (o : Overhangs) : Type 0 where
  pub before : Greatest j side (λ e. e.before) o.before
  pub after : Greatest j side (λ e. e.after) o.after

abbrev pub PlanOverhangs : Type 0
PlanOverhangs = (s : List ℕ) (j : Job) (side room : ℕ) (p : PlannedSide) → Accepted s j → plan s side room ≡ accepted p → Overhanging j side p.overhangs

-- "Number 6 no longer occurs anywhere": plan does not give it. (No call does: none of the refusals that calls answer with has it, `no_six`.)
abbrev pub PlanSix : Type 0
PlanSix = (s : List ℕ) (side room k v : ℕ) → plan s side room ≡ refused k v → k ≢ 6
