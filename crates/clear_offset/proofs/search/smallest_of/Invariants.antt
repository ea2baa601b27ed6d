-- What is known after some lengths. The measure is how many lengths may still be worked out, 15 at first.
-- Assumes nothing.
use Rattle.clear_offset.proofs.SearchLaws.{Searched}
use Rattle.clear_offset.proofs.search.smallest_of.Given as goal

abbrev pub invariant-loop-low : goal.invariant-loop-low
invariant-loop-low l = Searched l.header l.hazard l.longest l.end l.low l.high l.lengths

abbrev pub decreases-loop-low : goal.decreases-loop-low
decreases-loop-low l = l.lengths
