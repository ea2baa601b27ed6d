-- The approach crate's promises, asked in the formula's domain.
-- Assumes nothing.
use mathlib.Core.Path.{refl}
use Rattle.job.proofs.RangeLaws.{header_bounds}
use Rattle.planning.specs.Reply.{traffic_of}
use Rattle.planning.proofs.TestedLaws.{reaching_clear}
use Rattle.corners.proofs.PointLaws.{asked_domain, asked_lengths}
use Rattle.corners.proofs.points.approach_lengths.Goals as goal

pub length-before-requires : goal.length-before-requires
length-before-requires c =
    let t = c.args.tested in
    let r = c.requires in
    let clear = reaching_clear t.header.now t.hazard t.passed (traffic_of c.args.traffic) r.hazard_reached in
    rw c.approach_of-approach.ensures
    (asked_domain t.header.now t.hazard (traffic_of c.args.traffic) t.header_fits t.hazard_fits clear r.traffic_adjacent r.hazard_reached refl
    c.adjacent_reach-reach.ensures)

pub raised_length-raised-requires : goal.raised_length-raised-requires
raised_length-raised-requires c =
    let t = c.args.tested in
    let r = c.requires in
    let clear = reaching_clear t.header.now t.hazard t.passed (traffic_of c.args.traffic) r.hazard_reached in
    let bounds = header_bounds t.header.now t.header_fits in
    record {
      panel_nonzero = bounds.panel_low;
      panel_bound = bounds.panel_top;
      domain = rw c.approach_of-approach.ensures
          (asked_domain t.header.now t.hazard (traffic_of c.args.traffic) t.header_fits t.hazard_fits clear r.traffic_adjacent r.hazard_reached refl
          c.adjacent_reach-reach.ensures);
    }

pub returns : goal.returns
returns c =
    let t = c.args.tested in
    let r = c.requires in
    let clear = reaching_clear t.header.now t.hazard t.passed (traffic_of c.args.traffic) r.hazard_reached in
    asked_lengths t.header.now t.hazard (traffic_of c.args.traffic) t.header_fits t.hazard_fits clear r.traffic_adjacent r.hazard_reached refl
    c.adjacent_reach-reach.ensures
    (rw c.approach_of-approach.ensures at c.length-before.ensures)
    (rw c.approach_of-approach.ensures at c.raised_length-raised.ensures)
