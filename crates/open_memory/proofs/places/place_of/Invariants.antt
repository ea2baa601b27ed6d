-- The names that were passed are below the name.
use Rattle.open_memory.proofs.WalkLaws.{RankLeft}
use Rattle.open_memory.proofs.places.place_of.Given as goal

abbrev pub invariant-loop-i : goal.invariant-loop-i
invariant-loop-i l = RankLeft l.job l.name l.i
