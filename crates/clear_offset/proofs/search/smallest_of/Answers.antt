-- A length narrows the search from above or from below; where it is over, the first offset that is not too long is the smallest.
-- Assumes nothing.
use native.Mathlib.Omega.{arith}
use mathlib.Core.Path.{sym}
use Rattle.clear_offset.proofs.SearchLaws.{searched_lower, searched_upper, searched_smallest, searched_nothing}
use Rattle.clear_offset.proofs.search.smallest_of.Goals as goal

pub loop-low-preserved-then-length-longest : goal.loop-low-preserved-then-length-longest
loop-low-preserved-then-length-longest c =
    searched_lower _ _ c.requires _ _ (omega (arith, c.min-end.ensures)) _ _ _ c.loop-low.invariant c.loop-low-test.true
    (omega (arith, c.length_at-length.ensures, c.if-length-longest.true))

pub loop-low-preserved : goal.loop-low-preserved
loop-low-preserved c =
    searched_upper _ _ c.requires _ _ (omega (arith, c.min-end.ensures)) _ _ _ c.loop-low.invariant c.loop-low-test.true
    (omega (arith, c.length_at-length.ensures, c.if-length-longest.false))

pub returns-then-low-end : goal.returns-then-low-end
returns-then-low-end c =
    sym (searched_smallest _ _ c.requires _ _ (omega (arith, c.min-end.ensures)) _ _ _ c.loop-low.invariant c.loop-low-test.false c.if-low-end.true)

pub returns-else-low-end : goal.returns-else-low-end
returns-else-low-end c =
    sym (searched_nothing _ _ c.requires _ _ (omega (arith, c.min-end.ensures)) _ _ _ c.loop-low.invariant c.loop-low-test.false c.if-low-end.false)
