-- What the call's struct says: the complete reply, by equation.
-- Assumes nothing.
use Rattle.std.specs.Prelude.{pos}
use Rattle.std.specs.Float.{binary64}
use Rattle.std.specs.Float.Ieee.{of_int}
use Rattle.base.specs.Answer.{Answer, accepted, ◌>>=◌}
use Rattle.base.specs.Stored.{accepted_or}
use Rattle.corners.specs.declared.reply.Corner.{Corner}
use Rattle.corners.specs.declared.reply.Corners.{Corners}
use Rattle.corners.specs.Corners.{Point, Points}

-- "Each corner is a pair of floats, station and offset": the whole numbers of a point, as 64-bit floats.
abbrev pub corner_of : Point → Corner
corner_of p = record { station = of_int binary64 p.station; offset = of_int binary64 p.offset }

abbrev pub corners_as : Points → Corners
corners_as p = record { upstream = corner_of p.upstream; flare = corner_of p.flare; hazard = corner_of p.hazard }

-- The corners, or the refusal.
unfoldable pub corners_answer : Answer Points → Answer Corners
corners_answer a = a >>= λ p. accepted (corners_as p)

-- Zeros, beside a refusal.
abbrev pub no_points : Points
no_points = let none : Point = record { station = pos 0; offset = pos 0 } in record { upstream = none; flare = none; hazard = none }

-- The reply, complete: done or the refusal, and what stands beside it.
pub record CornersReplied : Type 0 where
  pub answer : Answer (Unit {0})
  pub upstream : Corner
  pub flare : Corner
  pub hazard : Corner

unfoldable pub corners_replied : Answer Points → CornersReplied
corners_replied a =
    let p = accepted_or no_points a in
    record { answer = a >>= λ _. accepted tt; upstream = corner_of p.upstream; flare = corner_of p.flare; hazard = corner_of p.hazard }
