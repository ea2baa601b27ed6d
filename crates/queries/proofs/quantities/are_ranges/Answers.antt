-- `queries::quantities::are_ranges`: a range, and the end. Assumes nothing.
use mathlib.Core.Path.{◌≡◌, sym, ◌∙◌}
use Prim.Native.Nat.{◌+◌, ◌*◌}
use native.Mathlib.Omega.{arith}
use Rattle.queries.proofs.RangeLaws.{ranges_more, ranges_none, ranges_over}
use Rattle.queries.proofs.quantities.are_ranges.Goals as goal

pub returns-then-numbers-i : goal.returns-then-numbers-i
returns-then-numbers-i c = sym (c.loop-i.invariant ∙ ranges_none _ (2 * c.loop-i.i) (omega arith) c.if-numbers-i.true)

pub loop-i-preserved : goal.loop-i-preserved
loop-i-preserved c =
    let i = c.loop-i.i in
    let next : 2 * (i + 1) ≡ 2 * i + 2 = omega arith in
    rw next (c.loop-i.invariant ∙ ranges_more _ (2 * i) (omega arith) c.if-numbers-i.false)

pub returns : goal.returns
returns c = ranges_over _ c.loop-i.i (omega arith) ∙ sym c.loop-i.invariant
