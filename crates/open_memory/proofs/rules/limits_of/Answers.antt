-- The header's own numbers first, so that the sum may be made.
use Rattle.std.proofs.Common.{sym, ap, ◌∙◌, arith}
use Rattle.job.specs.Job.{counted}
use Rattle.job.specs.Fits.{header_in_range}
use Rattle.job.proofs.RangeLaws.{header_bounds}
use Rattle.open_memory.specs.Steps.{limits_of}
use Rattle.open_memory.proofs.rules.limits_of.Goals as goal

pub overflow_add-header : goal.overflow_add-header
overflow_add-header c =
    let passed = sym (c.header_in_range.ensures ∙ ap header_in_range c.with_count.ensures) ∙ c.if-header_in_range.true in
    let bounds = header_bounds (counted c.args.header 0) passed in
    omega (arith, bounds.offset_top, bounds.deflection_top)

pub returns-then-header_in_range : goal.returns-then-header_in_range
unfolding limits_of
returns-then-header_in_range c =
    rw (sym (c.header_in_range.ensures ∙ ap header_in_range c.with_count.ensures) ∙ c.if-header_in_range.true, c.min.ensures)

pub returns-else-header_in_range : goal.returns-else-header_in_range
unfolding limits_of
returns-else-header_in_range c = rw (sym (c.header_in_range.ensures ∙ ap header_in_range c.with_count.ensures) ∙ c.if-header_in_range.false)
