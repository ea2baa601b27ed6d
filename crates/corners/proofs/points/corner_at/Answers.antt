-- Every number is far below 2 ^ 53, so both differences are those of the integers.
-- Assumes nothing.
use native.Mathlib.Omega.{arith}
use mathlib.Core.Path.{ap, ◌∙◌}
use lib.IntN.{pos}
use lib.Ieee.{Float, binary64, sub, of_int}
use Rattle.planning.specs.Reply.{traffic_of}
use Rattle.corners.specs.Corners.{upstream_by}
use Rattle.corners.proofs.WholeLaws.{sub_cast}
use Rattle.corners.proofs.PointLaws.{upstream_size}
use Rattle.corners.proofs.points.corner_at.Goals as goal

pub returns : goal.returns
returns c =
    let a = c.args in
    let fits = c.requires.station_fits in
    let sheet = a.sheet.on_sheet in
    let upstream = upstream_by (traffic_of a.traffic) a.hazard a.distance in
    let size = upstream_size (traffic_of a.traffic) a.hazard a.distance in
    λ i. record {
      station = (
          ap (λ (from : Float). sub binary64 from (of_int binary64 (pos a.sheet.station))) c.station_upstream-station.ensures
          ∙ sub_cast binary64 upstream (pos a.sheet.station) (omega (arith, size, fits.start, fits.end, fits.near)) (omega (arith, sheet.station_top))
          ) i;
      offset = sub_cast binary64 (pos a.offset) (pos a.sheet.offset) (omega (arith, c.requires.offset_bound)) (omega (arith, sheet.offset_top)) i;
    }
