-- `job::hazard_fields::in_range` meets its contract: the paper's ranges, in order; a hazard that ends by B starts before it. Assumes nothing.
use mathlib.Core.Bool.{and_assoc, and-true}
use Rattle.job.specs.Job.{hazard_ranges}
use Rattle.job.specs.Fits.{in_ranges, hazard_in_range}
use Rattle.job.proofs.RangeLaws.{from_zero, below_next, to_last, before_end}
use Rattle.job.proofs.hazard_fields.in_range.Goals as goal

pub returns : goal.returns
unfolding hazard_in_range in_ranges hazard_ranges
returns c = simp (and_assoc, from_zero, below_next, and-true, to_last c.args.z.start c.args.header.end c.requires, before_end)
