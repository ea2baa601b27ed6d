-- `panels::floor::common_divisor` meets its contract. Assumes nothing.
use Rattle.std.proofs.Common.{arith}
use Rattle.panels.proofs.FloorLaws.{same_divisors, euclid_turn, euclid_end}
use Rattle.panels.proofs.floor.common_divisor.Goals as goal

pub loop-less-init : goal.loop-less-init
loop-less-init c = same_divisors _ _

pub loop-less-preserved : goal.loop-less-preserved
loop-less-preserved c = euclid_turn c.loop-less.invariant

pub returns : goal.returns
returns c = euclid_end c.loop-less.invariant (omega arith)
