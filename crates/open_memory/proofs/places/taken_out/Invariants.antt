-- The hazards before the index are in place, and the one there is to go.
use Rattle.open_memory.proofs.WalkLaws.{MovingDown}
use Rattle.open_memory.proofs.places.taken_out.Given as goal

abbrev pub invariant-loop-i : goal.invariant-loop-i
invariant-loop-i l = MovingDown l.fn.job l.at l.hazards l.i
