-- The tops below v are raised, the others as they were.
-- Assumes nothing.
use Rattle.runs.proofs.TopLaws.{Raising}
use Rattle.runs.proofs.tops.Tops.raise.Given as goal

abbrev pub invariant-loop-v : goal.invariant-loop-v
invariant-loop-v l = Raising l.l.number l.end l.v l.initial.self.ends l.self.ends
