-- `open_memory::rules::header_in_range` meets its contract: the thirteen numbers that every kind has, and then the others. Assumes nothing.
use Rattle.std.proofs.Common.{sym}
use Rattle.open_memory.proofs.RangeLaws.{header_parts}
use Rattle.open_memory.proofs.rules.header_in_range.Goals as goal

pub returns : goal.returns
returns c = rw (c.last_in_range.ensures, c.shared_in_range.ensures) (sym (header_parts _))
