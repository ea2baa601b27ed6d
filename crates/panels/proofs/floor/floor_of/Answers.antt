-- `panels::floor::floor_of` meets its contract: what is left over the last multiple, taken from the divisor. Assumes nothing.
use Rattle.std.proofs.Common.{arith, sym}
use native.Mathlib.Nat.{mod-lt}
use Rattle.panels.specs.Panels.{floor}
use Rattle.panels.proofs.FloorLaws.{gcd_some, distance_whole, distance_rest}
use Rattle.panels.proofs.floor.floor_of.Goals as goal

pub nonzero_rem-rest : goal.nonzero_rem-rest
nonzero_rem-rest c = rw c.gcd_of-divisor.ensures (gcd_some _ c.requires)

pub returns-then-rest-eq0 : goal.returns-then-rest-eq0
unfolding floor
returns-then-rest-eq0 c =
    rw (sym c.gcd_of-divisor.ensures)
    (distance_whole _ _ (omega (arith, c.gcd_of-divisor.ensures, gcd_some _ c.requires)) c.if-rest-eq0.true)

pub overflow_sub-result : goal.overflow_sub-result
overflow_sub-result c =
    omega (arith, mod-lt c.args.run {m = c.gcd_of-divisor.result} (omega (arith, c.gcd_of-divisor.ensures, gcd_some _ c.requires)))

pub returns : goal.returns
unfolding floor
returns c =
    rw (sym c.gcd_of-divisor.ensures) (distance_rest _ _ (omega (arith, c.gcd_of-divisor.ensures, gcd_some _ c.requires)) (omega arith))
