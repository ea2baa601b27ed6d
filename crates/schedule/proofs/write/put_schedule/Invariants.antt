-- The output has the run count and the records of the first `i` runs from its first byte on, `at` is the index behind them, and the last of these
-- runs ended at `end`.
-- Assumes nothing.
use Rattle.std.proofs.Common.{◌≤◌}
use Rattle.schedule.proofs.RecordLaws.{Put}
use Rattle.schedule.proofs.write.put_schedule.Given as goal

abbrev pub invariant-loop-i : goal.invariant-loop-i
invariant-loop-i l = record { few : l.runs.list.now.count ≤ 511; put : Put l.runs.list.now l.initial.out l.out l.at l.end l.i }
