-- `planning::tested::Tested::cut_envelope` meets its contract: by sums, the cut ends and the overhangs; no sum leaves 64 bits. Assumes nothing.
use Rattle.std.proofs.Common.{arith}
use Rattle.job.proofs.RangeLaws.{header_bounds, hazard_bounds}
use Rattle.planning.proofs.TestedLaws.{cut_by_sums}
use Rattle.planning.proofs.tested.Tested.cut_envelope.Goals as goal

pub overflow_add-header : goal.overflow_add-header
overflow_add-header c = let h = header_bounds c.args.self.header.now c.args.self.header_fits in omega (arith, h.road, h.road_end)

pub overflow_add-hazard : goal.overflow_add-hazard
overflow_add-hazard c =
    let h = header_bounds c.args.self.header.now c.args.self.header_fits in
    let z = hazard_bounds c.args.self.header.now c.args.self.hazard c.args.self.hazard_fits in
    omega (arith, z.ends, h.road_end)

pub overflow_add-result : goal.overflow_add-result
overflow_add-result c =
    let h = header_bounds c.args.self.header.now c.args.self.header_fits in
    let z = hazard_bounds c.args.self.header.now c.args.self.hazard c.args.self.hazard_fits in
    omega (arith, z.long, z.ends, h.road, h.road_end)

pub overflow_add-result-2 : goal.overflow_add-result-2
overflow_add-result-2 c =
    let h = header_bounds c.args.self.header.now c.args.self.header_fits in
    let z = hazard_bounds c.args.self.header.now c.args.self.hazard c.args.self.hazard_fits in
    omega (arith, z.ends, h.road_end)

pub returns : goal.returns
returns c =
    cut_by_sums c.args.self.header.now c.args.self.hazard c.lengthened_by-before.ensures.0 c.lengthened_by-behind.ensures.0 c.saturating_sub-early.ensures
    c.saturating_sub-late.ensures
