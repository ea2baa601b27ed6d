-- `sum` has the millimetres of the first `i` runs of `report::lines::covered_length`. Assumes nothing.
use Rattle.std.proofs.Common.{◌≡◌, ◌≤◌}
use Rattle.report.specs.Text.{covered}
use Rattle.runs.proofs.StoredLaws.{first_runs}
use Rattle.report.proofs.lines.covered_length.Given as goal

abbrev pub invariant-loop-i : goal.invariant-loop-i
invariant-loop-i l = (l.list.count ≤ 511) × (l.sum ≡ covered (first_runs l.list.starts l.list.ends l.list.levels l.i))
