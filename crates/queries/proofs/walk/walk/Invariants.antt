-- `queries::walk::walk`: what the visitor knows between two records, and that the records passed and those from here on are the schedule's.
-- Assumes nothing.
use Rattle.std.proofs.Common.{◌≤◌, ◌+◌, ◌-◌, List, length}
use Rattle.runs.specs.declared.Stretch.{Stretch}
use Rattle.runs.specs.RunList.{last_station}
use Rattle.queries.specs.Visits.{Rest}
use Rattle.queries.proofs.walk.walk.Given as goal

abbrev pub invariant-loop-passed : goal.invariant-loop-passed
invariant-loop-passed g l = record {
  known : g.V.Visit.Knows l.visitor l.s (record { left = l.head.count - l.passed; end = l.before.end; level = l.before.level; at = l.at }) l.found;
  ends : l.before.end ≤ last_station;
  counts : Rest l.s (λ (rs : List Stretch). length rs) (l.head.count - l.passed) l.before.end l.before.level l.at
      (λ (rs : List Stretch). l.passed + length rs);
}
