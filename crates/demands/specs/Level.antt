-- Document 02's request 5 as statements about the definitions: the level at a station against what lookup shows, and its refusals against
-- plan's.
-- Assumes nothing.
use Rattle.std.specs.Prelude.{ℕ, ◌≤◌, ◌≡◌, ◌↔◌, ◌≢◌, List}
use Rattle.base.specs.Answer.{Answer, accepted, refused, ◌>>=◌}
use Rattle.number.specs.Number.{number_at}
use Rattle.job.specs.Job.{Job}
use Rattle.planning.specs.Envelope.{OnRoad}
use Rattle.planning.specs.Required.{job_level}
use Rattle.schedule.specs.Plan.{plan}
use Rattle.schedule.specs.Planned.{Accepted, Planned}
use Rattle.station_level.specs.Level.{level_at}
use Rattle.queries.specs.Lookup.{Found, found, nowhere, asked, lookup, part_bytes}

-- The level in the bytes of a record: the last of its three numbers.
unfoldable pub record_level : List ℕ → Answer ℕ
record_level r =
    number_at r 0 >>= λ distance.
    number_at r distance.next >>= λ extent.
    number_at r extent.next >>= λ level.
    accepted level.value

-- "The level that lookup shows": that of the record whose bytes it gives, "or 0 where lookup shows none".
abbrev pub level_found : (w : List ℕ) → Found → Answer ℕ
level_found w (found p) = record_level (part_bytes p w)
level_found w nowhere = accepted 0

unfoldable pub lookup_level : (right left : List ℕ) (side t : ℕ) → Answer ℕ
lookup_level right left side t = lookup right left side t >>= λ f. level_found (asked side right left) f

-- "Give the required level there": it "equals the level that lookup shows". Neither call is refused.
pub record LevelAgrees (s : List ℕ) (j : Job) (side : ℕ) (right left : List ℕ) (t : ℕ) : Type 0 where
  pub replies : level_at s side t ≡ accepted (job_level j side t)
  pub shown : lookup_level right left side t ≡ accepted (job_level j side t)

-- "For every accepted job, side and station", in the planned schedule of that side, whatever the other schedule is.
abbrev pub LevelLookup : Type 0
LevelLookup = (s : List ℕ) (j : Job) (side : ℕ) (right left : List ℕ) → Accepted s j → side ≤ 1 → Planned s side (asked side right left) → (t : ℕ)
    → LevelAgrees s j side right left t

-- "Refusals are those of plan without 9": number and value, whatever the room of plan's output is.
abbrev pub LevelRefusals : Type 0
LevelRefusals = (s : List ℕ) (side t room k v : ℕ) → (level_at s side t ≡ refused k v) ↔ ((plan s side room ≡ refused k v) × (k ≢ 9))

-- Off the road the level is 0 (request 8).
abbrev pub LevelOffRoad : Type 0
LevelOffRoad = (s : List ℕ) (j : Job) (side t : ℕ) → Accepted s j → side ≤ 1 → (OnRoad j.header t → ⊥) → level_at s side t ≡ accepted 0
