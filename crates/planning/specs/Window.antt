-- Which hazards a walk takes the envelopes of: all, or those that stand near to a station.
-- Assumes nothing.
use Rattle.std.specs.Prelude.{ℕ, ◌+◌, ◌-◌, min, Bool, true, ◌&&◌, List, leb}
use Rattle.base.specs.Choice.{filter}
use Rattle.job.specs.declared.Hazard.{Hazard}
use Rattle.job.specs.Job.{Job}
use Rattle.runs.specs.RunList.{last_station}
use Rattle.planning.specs.declared.window.Window.{Window}
use Rattle.planning.specs.declared.window.Window.TheVariants.{All, Between}

unfoldable pub stands_in : Window → Hazard → Bool
stands_in All z = true
stands_in (Between from to) z = leb z.start to && leb from z.end

-- The hazards that stand in a window.
unfoldable pub standing_in : Window → List Hazard → List Hazard
standing_in All zs = zs
standing_in (Between from to) zs = filter (stands_in (Between from to)) zs

-- A job with these alone.
abbrev pub job_within : Window → Job → Job
job_within w j = record { header = j.header; hazards = standing_in w j.hazards }

-- An approach length in whole panels is below 210,000, and G at most 200,000.
abbrev pub window_reach : ℕ
window_reach = 410000

-- Where each hazard stands that has a part in the level at a station (law level_about). None stands behind the last station.
abbrev pub window_about : (station : ℕ) → Window
window_about t = Between (min t last_station - window_reach) (min t last_station + window_reach)
