-- Corner points for the drawing: document 02, request 9. Stations and offsets are signed, as a corner may lie before the sheet corner and
-- a station before 0.
-- Assumes nothing.
use Rattle.std.specs.Prelude.{ℕ, ◌+◌, ◌-◌, ◌*◌, ◌/◌, Bool, ◌&&◌, List, ltb, leb, ℤ, pos, ◌+ℤ◌, ◌-ℤ◌, if◌then◌else◌}
use Rattle.base.specs.Answer.{Answer, accepted, ◌>>=◌}
use Rattle.refusal.specs.Refusal.{unless_refuse}
use Rattle.refusal.specs.declared.Refusal.TheVariants as Row
use Rattle.approach.specs.Approach.{approach_length}
use Rattle.job.specs.declared.Header.{Header}
use Rattle.job.specs.declared.Hazard.{Hazard}
use Rattle.planning.specs.Envelope.{Traffic, forward, opposite, adjacent_traffic, runout, reach_of, offset_of, lengthening, accept_job}
use Rattle.planning.specs.Approached.{approached_hazard}

-- The approach of a traffic

-- So many millimetres upstream of the hazard's end on that side: "forward traffic approaches from lower stations, opposite from higher".
-- "Corners are not cut at A and B, so a station may be negative."
abbrev pub upstream_by : Traffic → Hazard → (distance : ℕ) → ℤ
upstream_by forward z d = pos z.start -ℤ pos d
upstream_by opposite z d = pos z.end +ℤ pos d

-- "The length before raising to panels", of a traffic that reaches the hazard. The raised length is then `lengthening`.
unfoldable pub length_before : Header → Hazard → Traffic → ℕ
length_before h z t = approach_length h.along h.across h.straight (runout h t) (reach_of h z t) (offset_of h z t)

-- "Where the flare is entered, which is where b is above 0 and the length before raising to panels is above T."
unfoldable pub flare_entered : Header → Hazard → Traffic → Bool
flare_entered h z t = ltb 0 h.across && ltb h.straight (length_before h z t)

-- "The offset is M, and at the upstream end M + b × (length − T) / a rounded down, with the raised length, where the flare is entered."
-- Nothing is cut off of the difference there, where the traffic reaches the hazard (law raised_past_straight).
unfoldable pub upstream_offset : Header → Hazard → Traffic → ℕ
upstream_offset h z t = if flare_entered h z t then h.offset + (h.across * (lengthening h z t - h.straight)) / h.along else h.offset

-- Corners

-- "Station and offset, counted from a sheet corner", which is "two whole numbers of millimetres, station then offset": x and y.
pub record Point : Type 0 where
  pub station : ℤ
  pub offset : ℤ

abbrev pub point_at : (x y : ℕ) (station : ℤ) (offset : ℕ) → Point
point_at x y s o = record { station = s -ℤ pos x; offset = pos o -ℤ pos y }

-- "Its upstream end; the flare's beginning, T upstream of the hazard's end; the hazard's end on that side."
pub record Points : Type 0 where
  pub upstream : Point
  pub flare : Point
  pub hazard : Point

-- "Otherwise", where the flare is not entered, "the second corner repeats the first."
unfoldable pub approach_points : (x y : ℕ) → Header → Hazard → Traffic → Points
approach_points x y h z t =
    let upstream = point_at x y (upstream_by t z (lengthening h z t)) (upstream_offset h z t) in
    let flare = point_at x y (upstream_by t z h.straight) h.offset in
    let hazard = point_at x y (upstream_by t z 0) h.offset in
    record { upstream = upstream; flare = if flare_entered h z t then flare else upstream; hazard = hazard }

-- The call

-- "Both sheet corner numbers may now reach 1,000,000,000,000", each from 0.
abbrev pub sheet_top : ℕ
sheet_top = 1000000000000

abbrev pub on_sheet : (x y : ℕ) → Bool
on_sheet x y = leb x sheet_top && leb y sheet_top

-- "For one hazard of a job give the corners of its adjacent approach". "A sheet corner out of range is 8", first of all; then "plan's
-- without 9"; "then 14". 8 and 14 return 0.
unfoldable pub corners_of : (s : List ℕ) (hazard x y : ℕ) → Answer Points
corners_of s i x y =
    unless_refuse (on_sheet x y) Row.Argument >>= λ _.
    accept_job s >>= λ j.
    approached_hazard j i >>= λ z.
    accepted (approach_points x y j.header z (adjacent_traffic j.header z.side))
