-- A run of a stored list, and what the writer asks of it before it writes its record.
-- Assumes nothing.
use Rattle.std.specs.Prelude.{ℕ, ◌≤◌, ◌<◌, get_or}
use Rattle.runs.specs.declared.Stretch.{Stretch}
use Rattle.runs.specs.declared.RunList.{RunList}
use Rattle.runs.specs.RunList.{last_station}

abbrev pub run_at : RunList → ℕ → Stretch
run_at l i = record { start = get_or l.starts i 0; end = get_or l.ends i 0; level = get_or l.levels i 0 }

-- The run lies behind `end`, and its numbers can be written.
pub record RecordFits (end : ℕ) (run : Stretch) : Type 0 where
  pub after : end ≤ run.start
  pub long : run.start < run.end
  pub ends : run.end ≤ last_station
  pub top : run.level ≤ 6
