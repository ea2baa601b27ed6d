-- `number::group_count` meets its contract: over 0 to 64 bits, (9 bits + 64) / 64 is a seventh of the bits, rounded up, and 1 for none.
-- Assumes nothing.
use Rattle.std.proofs.Common.{arith}
use lib.Count.{leading_le}
use Rattle.number.specs.Number.{group_count}
use Rattle.number.proofs.group_count.Goals as goal

pub returns : goal.returns
unfolding group_count
returns c = omega (arith, leading_le 64 c.args.x)
