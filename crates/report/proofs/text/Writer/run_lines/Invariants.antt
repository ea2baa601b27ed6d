-- The lines of the first runs of `report::text::Writer::run_lines` are written. Assumes nothing.
use Rattle.std.proofs.Common.{◌≤◌}
use Rattle.report.specs.Text.{run_lines}
use Rattle.report.specs.Writing.{Wrote}
use Rattle.runs.proofs.StoredLaws.{first_runs}
use Rattle.report.proofs.text.Writer.run_lines.Given as goal

abbrev pub invariant-loop-i : goal.invariant-loop-i
invariant-loop-i l =
    (l.list.count ≤ 511) × Wrote l.initial.self (run_lines l.word (first_runs l.list.starts l.list.ends l.list.levels l.i)) l.self
