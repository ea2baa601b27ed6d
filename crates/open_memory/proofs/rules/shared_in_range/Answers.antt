-- `open_memory::rules::shared_in_range` meets its contract: the table's ranges, in order. Assumes nothing.
use Rattle.std.proofs.Common.{[], sym}
use Rattle.job.specs.Job.{shared_ranges, header_ranges, next_in_header}
use Rattle.open_memory.proofs.RangeLaws.{in_ranges_lem, begin_out}
use Rattle.open_memory.proofs.rules.shared_in_range.Goals as goal

pub returns-then-h-gt999999999999 : goal.returns-then-h-gt999999999999
returns-then-h-gt999999999999 c = sym (begin_out c.args.h c.if-h-gt999999999999.true)

pub returns : goal.returns
unfolding header_ranges shared_ranges
returns c = rw c.road_top-top.ensures (in_ranges_lem next_in_header [] _)
