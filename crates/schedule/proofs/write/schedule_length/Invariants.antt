-- `bytes` counts the run count and the records of the first `i` runs, the last of which ended at `end`.
-- Assumes nothing.
use Rattle.std.proofs.Common.{◌≡◌, ◌+◌, ◌*◌, ◌≤◌, length}
use Rattle.number.specs.Number.{write_number}
use Rattle.runs.specs.RunList.{last_end}
use Rattle.runs.proofs.StoredLaws.{first_runs}
use Rattle.schedule.specs.Schedule.{write_records}
use Rattle.schedule.proofs.write.schedule_length.Given as goal

abbrev pub invariant-loop-i : goal.invariant-loop-i
invariant-loop-i l = record {
  few : l.runs.list.now.count ≤ 511;
  size : l.bytes ≤ 6 + 18 * l.i;
  written : l.bytes ≡ length (write_number l.runs.list.now.count) + length (write_records 0 (first_runs l.runs.list.now.starts l.runs.list.now.ends l.runs.list.now.levels l.i));
  ended : l.end ≡ last_end 0 (first_runs l.runs.list.now.starts l.runs.list.now.ends l.runs.list.now.levels l.i);
}
