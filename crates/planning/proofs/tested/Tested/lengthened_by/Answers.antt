-- `planning::tested::Tested::lengthened_by` meets its contract: where the traffic reaches the hazard, by the length that the approach crate promises.
-- Assumes nothing.
use Rattle.std.proofs.Common.{◌≡◌, arith, refl, ◌∙◌}
use Rattle.job.proofs.RangeLaws.{header_bounds, hazard_bounds}
use Rattle.planning.specs.Envelope.{lengthening}
use Rattle.planning.specs.Reply.{traffic_of}
use Rattle.planning.proofs.TestedLaws.{stands_clear}
use Rattle.planning.proofs.ReachLaws.{farther_top, lengthening_absent, lengthening_beyond, lengthening_domain, lengthening_asked, lengthening_top}
use Rattle.planning.proofs.tested.Tested.lengthened_by.Goals as goal

pub returns-then-runout_length-eq0 : goal.returns-then-runout_length-eq0
returns-then-runout_length-eq0 c =
    let s = c.args.self in
    (lengthening_absent s.header.now s.hazard (traffic_of c.args.traffic) s.header_fits (omega (arith, c.runout_length.ensures)), omega arith)

pub returns-then-header-hazard : goal.returns-then-header-hazard
returns-then-header-hazard c =
    let s = c.args.self in
    (lengthening_beyond s.header.now s.hazard (traffic_of c.args.traffic) (omega (arith, c.farther_by-farther.ensures)), omega arith)

-- A traffic passes at most W farther off, and offsets are small: no sum leaves 64 bits.
pub overflow_add-hazard : goal.overflow_add-hazard
overflow_add-hazard c =
    let s = c.args.self in
    let bounds = header_bounds s.header.now s.header_fits in
    omega (arith, c.farther_by-farther.ensures, farther_top s.header.now s.header_fits s.hazard.side (traffic_of c.args.traffic), bounds.way_top)

pub overflow_add-hazard-2 : goal.overflow_add-hazard-2
overflow_add-hazard-2 c =
    let s = c.args.self in
    let bounds = header_bounds s.header.now s.header_fits in
    omega (arith, c.farther_by-farther.ensures, farther_top s.header.now s.header_fits s.hazard.side (traffic_of c.args.traffic), bounds.way_top)

pub overflow_add-header : goal.overflow_add-header
overflow_add-header c =
    let s = c.args.self in
    let bounds = header_bounds s.header.now s.header_fits in
    omega (arith, c.farther_by-farther.ensures, farther_top s.header.now s.header_fits s.hazard.side (traffic_of c.args.traffic), bounds.way_top, bounds.offset_top)

pub returns : goal.returns
returns c =
    let s = c.args.self in
    let h = s.header.now in
    let t = traffic_of c.args.traffic in
    let free = stands_clear h s.hazard (hazard_bounds h s.hazard s.hazard_fits).side s.passed (omega arith) in
    let e : c.raised_length.result ≡ lengthening h s.hazard t = c.raised_length.ensures
    ∙ (rw c.approach_of-approach.ensures
    (lengthening_asked h s.hazard s.header_fits s.hazard_fits free t refl c.farther_by-farther.ensures c.min-reach.ensures
    (omega (arith, c.runout_length.ensures)) (omega arith))) in
    (e, omega (arith, e, lengthening_top h s.hazard s.header_fits s.hazard_fits free t))

-- The formula is asked in its domain.
pub raised_length-requires-clause-panel_nonzero : goal.raised_length-requires-clause-panel_nonzero
raised_length-requires-clause-panel_nonzero c = omega (arith, (header_bounds c.args.self.header.now c.args.self.header_fits).panel_low)

pub raised_length-requires-clause-panel_bound : goal.raised_length-requires-clause-panel_bound
raised_length-requires-clause-panel_bound c = omega (arith, (header_bounds c.args.self.header.now c.args.self.header_fits).panel_top)

pub raised_length-requires-clause-domain : goal.raised_length-requires-clause-domain
raised_length-requires-clause-domain c =
    let s = c.args.self in
    let h = s.header.now in
    let free = stands_clear h s.hazard (hazard_bounds h s.hazard s.hazard_fits).side s.passed (omega arith) in
    rw c.approach_of-approach.ensures
    (lengthening_domain h s.hazard s.header_fits s.hazard_fits free (traffic_of c.args.traffic) refl c.farther_by-farther.ensures c.min-reach.ensures
    (omega (arith, c.runout_length.ensures)) (omega arith))
