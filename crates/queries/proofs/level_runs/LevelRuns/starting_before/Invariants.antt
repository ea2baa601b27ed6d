use Rattle.std.proofs.Common.{◌-◌}
use Rattle.queries.specs.Sums.{Halved}
use Rattle.queries.proofs.level_runs.LevelRuns.starting_before.Given as goal

abbrev pub invariant-loop-low : goal.invariant-loop-low
invariant-loop-low l = Halved l.self.starts l.self.count l.station l.low l.high

abbrev pub decreases-loop-low : goal.decreases-loop-low
decreases-loop-low l = l.high - l.low
