-- Stations and distances are below 2 ^ 53.
-- Assumes nothing.
use native.Mathlib.Omega.{arith}
use lib.IntN.{pos}
use lib.Ieee.{binary64}
use Rattle.corners.proofs.WholeLaws.{add_cast, sub_cast}
use Rattle.corners.proofs.points.station_upstream.Goals as goal

pub returns-in-Forward : goal.returns-in-Forward
returns-in-Forward c =
    let a = c.args in
    rw c.in-Forward.is
    (sub_cast binary64 (pos a.hazard.start) (pos a.distance) (omega (arith, c.requires.start)) (omega (arith, c.requires.near)))

pub returns-in-Opposite : goal.returns-in-Opposite
returns-in-Opposite c =
    let a = c.args in
    rw c.in-Opposite.is
    (add_cast binary64 (pos a.hazard.end) (pos a.distance) (omega (arith, c.requires.end)) (omega (arith, c.requires.near)))
