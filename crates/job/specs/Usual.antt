-- What reading the usual form of a hazard finds.
-- Assumes nothing.
use Rattle.std.specs.Prelude.{ℕ, ◌+◌, ◌≤◌, ◌<◌, ◌≡◌, List, length}
use Rattle.base.specs.Answer.{accepted}
use Rattle.number.specs.Number.{number, read_number}
use Rattle.job.specs.declared.Header.{Header}
use Rattle.job.specs.declared.within.Stations.{Stations}
use Rattle.job.specs.declared.hazard_fields.HazardReading.{HazardReading}
use Rattle.job.specs.Reply.{read_hazard_at}

-- Stations that were found are the two numbers from an index on, if they rise.
pub record StationsAt (s : List ℕ) (at : ℕ) (r : Stations) : Type 0 where
  pub few : r.width ≤ 6
  pub start : read_number s at ≡ number r.start (at + r.width)
  pub end : r.start < r.end → read_number s (at + r.width) ≡ number r.end (at + r.width + r.width)

-- A hazard that was found stands in the bytes, and is the one that reading answers, whatever its index.
abbrev pub UsualAt : Header → (s : List ℕ) (at : ℕ) → HazardReading → Type 0
UsualAt h s at r = (at < length s) × ((index : ℕ) → accepted r ≡ read_hazard_at h index s at)
