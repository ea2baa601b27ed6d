-- `queries::quantities::OfLevel`'s visit: a run of the level is noted, and one of another passed by. Assumes nothing.
use native.Mathlib.Omega.{arith}
use Rattle.queries.proofs.SumLaws.{tallying_here, tallying_by, noted_before, follows}
use Rattle.queries.proofs.quantities.OfLevelVisit.visit.Goals as goal

pub note-requires-clause-long : goal.note-requires-clause-long
note-requires-clause-long c = let n = follows _ _ _ _ _ c.requires.2 _ _ _ c.requires.3 in omega (arith, n.long)

pub note-requires-clause-ends : goal.note-requires-clause-ends
note-requires-clause-ends c = (follows _ _ _ _ _ c.requires.2 _ _ _ c.requires.3).ends

pub note-requires-clause-after : goal.note-requires-clause-after
note-requires-clause-after c = noted_before _ _ _ _ _ c.requires.2 _ _ _ c.requires.3

pub returns-then-read-self : goal.returns-then-read-self
returns-then-read-self c = λ s b n w. tallying_here s _ b _ _ n _ _ _ w _ _ _ c.if-read-self.true c.note.ensures

pub returns-else-read-self : goal.returns-else-read-self
returns-else-read-self c = λ s b n w. tallying_by s _ b _ _ n _ _ _ w c.if-read-self.false
