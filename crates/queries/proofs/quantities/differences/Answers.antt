-- `queries::quantities::differences`: what lies below a range's q is not less than what lies below its p. Assumes nothing.
use mathlib.Core.Path.{refl}
use Prim.Native.Nat.{◌+◌, ◌*◌}
use native.Mathlib.Omega.{arith}
use lib.ListN.{get_or}
use Rattle.queries.proofs.RangeLaws.{ranges_count}
use Rattle.queries.proofs.NotedLaws.{below_grows, filled_none}
use Rattle.queries.proofs.quantities.differences.Goals as goal

pub loop-i-init : goal.loop-i-init
loop-i-init c = (refl, filled_none _ 64)

pub overflow_sub-quantities : goal.overflow_sub-quantities
overflow_sub-quantities c =
    let a = c.args in
    let i = c.loop-i.i in
    omega (
      arith,
      c.below.ensures,
      c.below-in-loop-i.ensures,
      below_grows a.runs.now.starts a.runs.now.sums a.runs.now.count
          (get_or a.numbers.now (2 * i) 0) (get_or a.numbers.now (2 * i + 1) 0) (c.requires.whole_ranges.ordered i (omega (arith, ranges_count a.numbers.now))),
    )
