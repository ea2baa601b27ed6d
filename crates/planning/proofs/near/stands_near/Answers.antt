-- `planning::near::stands_near` meets its contract: a hazard is reached exactly if n < C. Assumes nothing.
use Rattle.std.proofs.Common.{arith, ◌∙◌}
use borrow.Author.Tests.{lt-ltb, le-ltb}
use Rattle.job.proofs.RangeLaws.{header_bounds, hazard_bounds}
use Rattle.planning.proofs.TestedLaws.{near_numbers}
use Rattle.planning.proofs.near.stands_near.Goals as goal

pub overflow_add-result : goal.overflow_add-result
overflow_add-result c =
    let bounds = header_bounds c.args.header c.requires.header_fits in
    omega (arith, bounds.offset_top, bounds.deflection_top)

pub returns-then-near-header : goal.returns-then-near-header
returns-then-near-header c =
    let near = near_numbers c.args.header c.args.hazard (hazard_bounds c.args.header c.args.hazard c.requires.hazard_fits).side in
    rw (lt-ltb c.args.hazard.near c.args.header.zone c.if-near-header.true) at near

pub returns-else-near-header : goal.returns-else-near-header
returns-else-near-header c =
    let near = near_numbers c.args.header c.args.hazard (hazard_bounds c.args.header c.args.hazard c.requires.hazard_fits).side in
    le-ltb c.args.hazard.near c.args.header.zone c.if-near-header.false
    ∙ (rw (le-ltb c.args.hazard.near c.args.header.zone c.if-near-header.false) at near)
