-- The hazards from the index on stand one place up.
use Rattle.open_memory.proofs.WalkLaws.{MovingUp}
use Rattle.open_memory.proofs.places.put_in.Given as goal

abbrev pub invariant-loop-i : goal.invariant-loop-i
invariant-loop-i l = MovingUp l.fn.job l.at l.hazards l.i
