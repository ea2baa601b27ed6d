-- `panels::floor::gcd_of`: the divisors of `divisor` are the common divisors of the lengths passed. Assumes nothing.
use Rattle.panels.proofs.FloorLaws.{DivisorsTo}
use Rattle.panels.proofs.floor.gcd_of.Given as goal

abbrev pub invariant-loop-length : goal.invariant-loop-length
invariant-loop-length l = DivisorsTo l.lengths l.divisor l.length-index
