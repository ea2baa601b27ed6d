-- `queries::quantity::Overlaps`'s visit: the run's overlap is added where it has the level. Assumes nothing.
use native.Mathlib.Omega.{arith}
use borrow.Author.Tests.{eq-eqb, ne_eqb}
use Rattle.queries.proofs.SingleLaws.{summing_most, summing_turn}
use Rattle.queries.proofs.StepLaws.{next_follows}
use Rattle.queries.proofs.quantity.OverlapsVisit.visit.Goals as goal

pub overflow_add-found : goal.overflow_add-found
overflow_add-found c =
    let most = rw (eq-eqb _ _ c.if-read-self.true) at (summing_most _ _ c.args.self.now.p c.args.self.now.q _ _ _ c.requires.2 _ c.requires.3) in
    let ends = (next_follows _ _ _ _ c.requires.2).ends in omega (arith, most, ends, c.overlap.ensures)

pub returns-then-read-self : goal.returns-then-read-self
returns-then-read-self c = λ s b n w. summing_turn s _ _ _ b _ _ n _ w _ (rw (c.overlap.ensures, eq-eqb _ _ c.if-read-self.true))

pub returns-else-read-self : goal.returns-else-read-self
returns-else-read-self c = λ s b n w. summing_turn s _ _ _ b _ _ n _ w _ (rw (ne_eqb _ _ c.if-read-self.false) (omega arith))
