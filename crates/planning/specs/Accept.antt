-- The entrances: a side of an accepted job, and a hazard of it.
-- Assumes nothing.
use Rattle.std.specs.Prelude.{ℕ, List, length, ltb, Result, Ok, Err}
use Rattle.base.specs.Answer.{Answer, accepted, ◌>>=◌}
use Rattle.refusal.specs.Refusal.{unless_refuse, refusal}
use Rattle.refusal.specs.declared.Refusal.{Refusal}
use Rattle.refusal.specs.declared.Refusal.TheVariants as Row
use Rattle.runs.specs.Keys.{keyed_envelopes}
use Rattle.planning.specs.declared.accept.Side.{Side}
use Rattle.planning.specs.declared.accept.Indexed.{Indexed}
use Rattle.planning.specs.declared.window.Window.{Window}
use Rattle.planning.specs.declared.window.Window.TheVariants.{All}
use Rattle.job.specs.declared.Header.{Header}
use Rattle.job.specs.Job.{Job}
use Rattle.planning.specs.Envelope.{test_hazards, accept_job}
use Rattle.planning.specs.Approached.{hazard_at}
use Rattle.planning.specs.Window.{standing_in}
use Rattle.planning.specs.Reply.{Cuts, cuts_of}

-- The envelopes of a side, cut, with their greatest overhangs; and G.
pub record AcceptedSide : Type 0 where
  pub cuts : Cuts
  pub continuity : ℕ

-- Of the hazards that stand in a window; the others are tested too.
unfoldable pub side_within : (s : List ℕ) (side : ℕ) → Window → Answer AcceptedSide
side_within s side w =
    accept_job s >>= λ j. accepted (record { cuts = cuts_of j.header side (standing_in w j.hazards); continuity = j.header.continuity })

-- The same of a job behind a header, where its hazards are still to be tested.
abbrev pub side_of_job : Header → (side : ℕ) → Window → Answer Job → Answer AcceptedSide
side_of_job h side w a =
    a >>= λ j.
    test_hazards h 0 j.hazards >>= λ _.
    accepted (record { cuts = cuts_of h side (standing_in w j.hazards); continuity = h.continuity })

-- Of all hazards.
abbrev pub side_of : (s : List ℕ) (side : ℕ) → Answer AcceptedSide
side_of s side = side_within s side All

-- What stands in the arrays, with what was returned.
abbrev pub side_beside : (keys ends : List ℕ) → Side → AcceptedSide
side_beside keys ends r =
    record { cuts = record { envelopes = keyed_envelopes keys ends r.count; overhangs = r.overhangs }; continuity = r.continuity }

abbrev pub side_answer : (keys ends : List ℕ) → Result Side Refusal → Answer AcceptedSide
side_answer keys ends (Ok r) = accepted (side_beside keys ends r)
side_answer keys ends (Err x) = refusal x

-- How many envelopes stand in the arrays; none where the side is refused.
abbrev pub side_count : Result Side Refusal → ℕ
side_count (Ok r) = r.count
side_count (Err x) = 0

-- A hazard, and the header of its job. "14, no such hazard or .." It returns 0.
unfoldable pub indexed_hazard : (s : List ℕ) (index : ℕ) → Answer Indexed
indexed_hazard s i =
    accept_job s >>= λ j.
    unless_refuse (ltb i (length j.hazards)) Row.Hazard >>= λ _.
    accepted (record { header = j.header; hazard = hazard_at j i })
