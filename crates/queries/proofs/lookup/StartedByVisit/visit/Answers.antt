-- `queries::lookup::StartedBy`'s visit: the run starts at the station or before it, or after it. Assumes nothing.
use Rattle.queries.proofs.PlaceLaws.{seek_by, seek_here}
use Rattle.queries.proofs.lookup.StartedByVisit.visit.Goals as goal

pub returns-then-read-self : goal.returns-then-read-self
returns-then-read-self c = λ s b n w. seek_here s _ b _ _ n _ _ w c.if-read-self.true

pub returns-else-read-self : goal.returns-else-read-self
returns-else-read-self c = λ s b n w. seek_by s _ b _ _ n _ _ w c.if-read-self.false
