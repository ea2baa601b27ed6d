-- Document 02's request 9 as statements about the definitions: when the call corners refuses, where the corners lie, and that their floats lose
-- nothing.
-- Assumes nothing.
use Rattle.std.specs.Prelude.{ℕ, ◌+◌, ◌*◌, ◌≤◌, ◌<◌, ◌≡◌, ◌↔◌, ◌≢◌, ◌⊎◌, true, false, List, length, ℤ, pos, ◌+ℤ◌, ◌-ℤ◌}
use Rattle.base.specs.Answer.{accepted, refused}
use Rattle.base.specs.Stored.{accepted_or}
use Rattle.corners.specs.Whole.{Whole}
use Rattle.job.specs.declared.Header.{Header}
use Rattle.job.specs.declared.Hazard.{Hazard}
use Rattle.job.specs.Job.{Job}
use Rattle.planning.specs.Envelope.{Traffic, forward, opposite, adjacent_traffic, lengthening, envelope}
use Rattle.schedule.specs.Plan.{plan}
use Rattle.schedule.specs.Planned.{Accepted}
use Rattle.corners.specs.declared.reply.Corner.{Corner}
use Rattle.corners.specs.Corners.{Point, point_at, Points, flare_entered, sheet_top, corners_of}
use Rattle.corners.specs.Reply.{no_points, CornersReplied, corners_replied}
use Rattle.planning.specs.Approached.{hazard_at, adjacent_reaches}

-- Refusals

-- "A sheet corner out of range is 8": exactly then, whatever the job is.
abbrev pub CornersEight : Type 0
CornersEight = (s : List ℕ) (i x y v : ℕ) → (corners_of s i x y ≡ refused 8 v) ↔ ((v ≡ 0) × ((sheet_top < x) ⊎ (sheet_top < y)))

-- "14, no such hazard or adjacent traffic doesn't reach it": exactly then, of an accepted job.
pub record NoApproach (s : List ℕ) (i : ℕ) : Type 0 where
  pub job : Job
  pub taken : Accepted s job
  pub why : (length job.hazards ≤ i) ⊎ (adjacent_reaches job.header (hazard_at job i) ≡ false)

abbrev pub CornersFourteen : Type 0
CornersFourteen = (s : List ℕ) (i x y v : ℕ) → (corners_of s i x y ≡ refused 14 v) ↔ ((v ≡ 0) × (x ≤ sheet_top) × (y ≤ sheet_top) × NoApproach s i)

-- "Refusals are plan's without 9; then 14": number and value, on either side of plan and whatever the room of its output is.
abbrev pub CornersRefusals : Type 0
CornersRefusals = (s : List ℕ) (i x y side room k v : ℕ) → x ≤ sheet_top → y ≤ sheet_top → side ≤ 1
    → ((corners_of s i x y ≡ refused k v) × (k ≢ 14)) ↔ ((plan s side room ≡ refused k v) × (k ≢ 9))

-- Where the corners lie

-- A station so far upstream of another.
abbrev pub Apart : Traffic → (distance : ℕ) (upstream downstream : ℤ) → Type 0
Apart forward d u w = u +ℤ pos d ≡ w
Apart opposite d u w = u ≡ w +ℤ pos d

-- The end of a hazard's envelope on a traffic's side is the station t, counted from the sheet corner. An envelope that would begin before 0 has
-- no such station.
abbrev pub EnvelopeEnd : (x : ℕ) → Header → Hazard → Traffic → (t : ℤ) → Type 0
EnvelopeEnd x h z forward t = lengthening h z forward ≤ z.start → t ≡ pos (envelope h z).start -ℤ pos x
EnvelopeEnd x h z opposite t = t ≡ pos (envelope h z).end -ℤ pos x

-- "The hazard's end on that side."
abbrev pub hazard_end : Traffic → Hazard → ℕ
hazard_end forward z = z.start
hazard_end opposite z = z.end

-- q is "n / a rounded down".
pub record RoundedDown (n a q : ℕ) : Type 0 where
  pub not_above : q * a ≤ n
  pub next_above : n < (q + 1) * a

-- Of a hazard with its adjacent traffic.
pub record CornersLie (x y : ℕ) (h : Header) (z : Hazard) (t : Traffic) (p : Points) : Type 0 where
  -- "The hazard's end on that side", at offset M, "counted from a sheet corner".
  pub hazard : p.hazard ≡ point_at x y (pos (hazard_end t z)) h.offset
  -- "Its upstream end": the raised length away, at the uncut envelope's end.
  pub distance : Apart t (lengthening h z t) p.upstream.station p.hazard.station
  pub upstream : EnvelopeEnd x h z t p.upstream.station
  -- "The flare's beginning, T upstream of the hazard's end", at the same offset.
  pub entered : flare_entered h z t ≡ true → Apart t h.straight p.flare.station p.hazard.station × (p.flare.offset ≡ p.hazard.offset)
  -- "At the upstream end M + b × (length − T) / a rounded down, with the raised length, where the flare is entered."
  pub away : flare_entered h z t ≡ true
      → (n q : ℕ) × (h.straight + n ≡ lengthening h z t) × RoundedDown (h.across * n) h.along q × (p.upstream.offset ≡ p.hazard.offset +ℤ pos q)
  -- "Otherwise the second corner repeats the first", and all three have the same offset.
  pub straight : flare_entered h z t ≡ false → (p.flare ≡ p.upstream) × (p.upstream.offset ≡ p.hazard.offset)

-- For every job and hazard that the call gives corners for.
abbrev pub AllCornersLie : Type 0
AllCornersLie = (s : List ℕ) (j : Job) (i x y : ℕ) (p : Points) → Accepted s j → corners_of s i x y ≡ accepted p
    → CornersLie x y j.header (hazard_at j i) (adjacent_traffic j.header (hazard_at j i).side) p

-- What the floats say

-- "The subtraction is done in floats and loses nothing": the floats of a corner are exactly the whole numbers of its point, with their
-- signs. None is infinite or NaN, and none is a negative zero.
pub record LosesNothing (c : Corner) (p : Point) : Type 0 where
  pub station : Whole c.station p.station
  pub offset : Whole c.offset p.offset

-- Of every corner of a reply.
pub record CornersExact (r : CornersReplied) (p : Points) : Type 0 where
  pub upstream : LosesNothing r.upstream p.upstream
  pub flare : LosesNothing r.flare p.flare
  pub hazard : LosesNothing r.hazard p.hazard

-- Of every reply, whatever the bytes, the index and the sheet corner are; beside a refusal the points are zeros.
abbrev pub AllCornersExact : Type 0
AllCornersExact = (s : List ℕ) (i x y : ℕ) → CornersExact (corners_replied (corners_of s i x y)) (accepted_or no_points (corners_of s i x y))
