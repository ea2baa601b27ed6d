-- The corners of one hazard, and what the code asks for on the way.
-- Assumes nothing.
use Rattle.std.specs.Prelude.{ℕ, ◌≤◌, ◌<◌, ◌≡◌}
use Rattle.job.specs.declared.Header.{Header}
use Rattle.job.specs.declared.Hazard.{Hazard}
use Rattle.planning.specs.Envelope.{Traffic, adjacent_traffic, lengthening}
use Rattle.corners.specs.declared.points.Lengths.{Lengths}
use Rattle.corners.specs.Corners.{length_before, Points, approach_points, sheet_top}

-- The corners of one hazard, with its adjacent traffic.
abbrev pub hazard_corners : (x y : ℕ) → Header → Hazard → Points
hazard_corners x y h z = approach_points x y h z (adjacent_traffic h z.side)

-- A sheet corner in its range.
pub record OnSheet (station offset : ℕ) : Type 0 where
  pub station_top : station ≤ sheet_top
  pub offset_top : offset ≤ sheet_top

-- A hazard and a distance upstream of it whose numbers are far below 2 ^ 53, so that floats have them exactly.
pub record StationFits (z : Hazard) (distance : ℕ) : Type 0 where
  pub start : z.start ≤ 1000000000000
  pub end : z.end ≤ 1000000000000
  pub near : distance ≤ 210000

-- The lengths of a traffic's approach.
pub record LengthsOf (h : Header) (z : Hazard) (t : Traffic) (l : Lengths) : Type 0 where
  pub before : l.before ≡ length_before h z t
  pub raised : l.raised ≡ lengthening h z t
  pub not_smaller : l.before ≤ l.raised
  pub few : l.raised < 210000
