-- `job::hazard_fields::hazard_range` meets its contract: its arrays have the table's low and high ends. Assumes nothing.
use Rattle.job.specs.Job.{hazard_ranges}
use Rattle.job.proofs.HazardLaws.{range_at_lem}
use Rattle.job.proofs.hazard_fields.hazard_range.Goals as goal

pub returns : goal.returns
unfolding hazard_ranges
returns c = range_at_lem (hazard_ranges c.args.header.begin c.args.header.end c.args.start c.args.near) c.args.k
