-- The corners lie up to 210,000 mm upstream of the hazard and up to 2,120,000 mm off the edge.
-- Assumes nothing.
use Prim.Native.Nat.{ℕ, ◌≤◌}
use native.Mathlib.Omega.{arith}
use mathlib.Core.Bool.{true, false}
use Rattle.job.specs.declared.Header.{Header}
use Rattle.job.specs.declared.Hazard.{Hazard}
use Rattle.job.specs.Fits.{HeaderFits, HazardFits}
use Rattle.job.proofs.RangeLaws.{header_bounds, hazard_bounds}
use Rattle.planning.specs.Reply.{traffic_of}
use Rattle.corners.specs.Steps.{StationFits}
use Rattle.corners.proofs.PointLaws.{lengths_past_straight, across_top, away_top, approach_reply}
use Rattle.corners.proofs.points.approach_corners.Goals as goal

near : (h : Header) (z : Hazard) → HeaderFits h → HazardFits h z → (distance : ℕ) → distance ≤ 210000 → StationFits z distance
near h z hf zf distance few =
    let ends = (header_bounds h hf).road_end in
    let hazard = hazard_bounds h z zf in
    record { start = omega (arith, hazard.long, hazard.ends, ends); end = omega (arith, hazard.ends, ends); near = few }

pub corner_at-end-requires : goal.corner_at-end-requires
corner_at-end-requires c =
    record {
      station_fits = near c.args.tested.header.now c.args.tested.hazard c.args.tested.header_fits c.args.tested.hazard_fits _ (omega arith);
      offset_bound = omega (arith, (header_bounds c.args.tested.header.now c.args.tested.header_fits).offset_top);
    }

pub overflow_sub-away : goal.overflow_sub-away
overflow_sub-away c = omega (arith, lengths_past_straight c.requires c.if-header-straight.true)

pub overflow_mul-away : goal.overflow_mul-away
overflow_mul-away c = omega (arith, across_top c.args.tested.header.now c.args.tested.header_fits c.args.lengths c.requires.few)

pub nonzero_div-away : goal.nonzero_div-away
nonzero_div-away c = omega (arith, (header_bounds c.args.tested.header.now c.args.tested.header_fits).along_low)

pub overflow_add-offset : goal.overflow_add-offset
overflow_add-offset c =
    let h = c.args.tested.header.now in
    let fits = c.args.tested.header_fits in
    omega (arith, (header_bounds h fits).offset_top, away_top h fits c.args.lengths c.requires.few)

pub corner_at-requires : goal.corner_at-requires
corner_at-requires c =
    let h = c.args.tested.header.now in
    let fits = c.args.tested.header_fits in
    record {
      station_fits = near h c.args.tested.hazard fits c.args.tested.hazard_fits _ (omega (arith, c.requires.few));
      offset_bound = omega (arith, (header_bounds h fits).offset_top, away_top h fits c.args.lengths c.requires.few);
    }

pub corner_at-requires-then-header-straight : goal.corner_at-requires-then-header-straight
corner_at-requires-then-header-straight c =
    let bounds = header_bounds c.args.tested.header.now c.args.tested.header_fits in
    record {
      station_fits = near c.args.tested.header.now c.args.tested.hazard c.args.tested.header_fits c.args.tested.hazard_fits _ (omega (arith, bounds.straight_top));
      offset_bound = omega (arith, bounds.offset_top);
    }

pub returns-then-header-straight : goal.returns-then-header-straight
returns-then-header-straight c =
    approach_reply _ _ _ _ (traffic_of c.args.traffic) _ c.requires true c.if-header-straight.true _ c.corner_at.ensures
    c.corner_at-then-header-straight.ensures c.corner_at-end.ensures

pub corner_at-upstream-requires : goal.corner_at-upstream-requires
corner_at-upstream-requires c =
    record {
      station_fits = near c.args.tested.header.now c.args.tested.hazard c.args.tested.header_fits c.args.tested.hazard_fits _ (omega (arith, c.requires.few));
      offset_bound = omega (arith, (header_bounds c.args.tested.header.now c.args.tested.header_fits).offset_top);
    }

pub returns : goal.returns
returns c =
    approach_reply _ _ _ _ (traffic_of c.args.traffic) _ c.requires false c.if-header-straight.false _ c.corner_at-upstream.ensures
    c.corner_at-upstream.ensures c.corner_at-end.ensures
