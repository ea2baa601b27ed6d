-- The levels from `v` on are tried.
-- Assumes nothing.
use Rattle.std.proofs.Common.{◌-◌, ◌≤◌, List}
use Rattle.runs.specs.declared.Stretch.{Stretch}
use Rattle.runs.specs.RunList.{last_station}
use Rattle.runs.specs.Sweep.{AllSound}
use Rattle.station_level.specs.Nearest.{NearestOf, ReadTo}
use Rattle.station_level.proofs.nearest.highest_level.Given as goal

abbrev pub invariant-loop-v : goal.invariant-loop-v
invariant-loop-v l = record {
  end_known : l.end ≤ last_station;
  read : (es : List Stretch) → AllSound es → NearestOf es l.station l.near → ReadTo es l.continuity l.station (l.v - 1) l.end l.start;
}
