-- `panels::floor::gcd_of` meets its contract. Assumes nothing.
use Rattle.std.proofs.Common.{arith}
use Rattle.panels.proofs.FloorLaws.{divisors_none, divisors_more, divisors_gcd}
use Rattle.panels.proofs.floor.gcd_of.Goals as goal

pub loop-length-init : goal.loop-length-init
loop-length-init c = divisors_none _

pub loop-length-preserved : goal.loop-length-preserved
loop-length-preserved c = divisors_more c.common_divisor-divisor.result c.loop-length.invariant c.common_divisor-divisor.ensures

pub returns : goal.returns
returns c = divisors_gcd _ _ _ c.requires (omega arith) c.loop-length.invariant
