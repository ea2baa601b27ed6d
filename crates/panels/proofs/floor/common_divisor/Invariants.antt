-- `panels::floor::common_divisor`: the common divisors stay. The measure is the lesser number. Assumes nothing.
use Rattle.panels.proofs.FloorLaws.{SameDivisors}
use Rattle.panels.proofs.floor.common_divisor.Given as goal

abbrev pub invariant-loop-less : goal.invariant-loop-less
invariant-loop-less l = SameDivisors l.fn.a l.fn.b l.greater l.less

abbrev pub decreases-loop-less : goal.decreases-loop-less
decreases-loop-less l = l.less
