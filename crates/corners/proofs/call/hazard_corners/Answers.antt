-- The lengths of the adjacent traffic's approach.
-- Assumes nothing.
use mathlib.Core.Path.{ap, ◌∙◌}
use borrow.Author.Tests.{lt-ltb}
use Rattle.job.proofs.RangeLaws.{hazard_bounds}
use Rattle.planning.specs.Envelope.{Traffic}
use Rattle.planning.proofs.AdjacentLaws.{is_adjacent, adjacent_reaches_lem}
use Rattle.corners.specs.Corners.{approach_points}
use Rattle.corners.specs.Reply.{corners_as}
use Rattle.corners.proofs.call.hazard_corners.Goals as goal

pub approach_lengths-lengths-requires : goal.approach_lengths-lengths-requires
approach_lengths-lengths-requires c =
    let t = c.args.tested in
    let side = (hazard_bounds t.header.now t.hazard t.hazard_fits).side in
    let reach = adjacent_reaches_lem t.header.now t.hazard side ∙ lt-ltb t.hazard.near t.header.now.zone c.requires in
    record {
      traffic_adjacent = rw c.adjacent_traffic-traffic.ensures (is_adjacent t.header.now t.hazard.side side).beside;
      hazard_reached = rw c.adjacent_traffic-traffic.ensures reach;
    }

pub returns : goal.returns
returns c =
    let a = c.args in
    c.approach_corners.ensures
    ∙ ap (λ (t : Traffic). corners_as (approach_points a.sheet.station a.sheet.offset a.tested.header.now a.tested.hazard t)) c.adjacent_traffic-traffic.ensures
