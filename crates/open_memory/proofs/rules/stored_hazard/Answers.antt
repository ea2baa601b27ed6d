-- A number that is wider than the stored one is out of its range.
use Rattle.std.proofs.Common.{sym, arith}
use Rattle.job.proofs.RangeLaws.{header_bounds}
use Rattle.open_memory.specs.Memory.{hazard_given}
use Rattle.open_memory.proofs.RangeLaws.{wide_out}
use Rattle.open_memory.proofs.rules.stored_hazard.Goals as goal

pub in_range-requires : goal.in_range-requires
in_range-requires c = omega (arith, (header_bounds c.args.h c.requires).road)

pub returns-else-z-clause-outside : goal.returns-else-z-clause-outside
returns-else-z-clause-outside c e = sym (wide_out c.args.h (hazard_given c.args.z) c.if-z.false)
