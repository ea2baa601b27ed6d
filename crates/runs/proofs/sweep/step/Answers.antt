-- Drained up to s; then nothing is left to do, or the level rises.
-- Assumes nothing.
use Rattle.std.proofs.Common.{refl}
use Rattle.runs.proofs.MeetLaws.{skip, lift}
use Rattle.runs.proofs.sweep.step.Goals as goal

pub returns-then-l-q : goal.returns-then-l-q
returns-then-l-q c =
    let a = c.args in
    λ es u e tops' h st sound r. skip (c.drain-q.ensures.stands es a.g u h st) (record { start = a.s; end = e; level = a.l.number }) refl sound tops' r
    c.if-l-q.true

pub returns : goal.returns
returns c =
    let a = c.args in
    λ es u e tops' h st sound r.
    rw c.lift-count.ensures.1
    (lift (c.drain-q.ensures.stands es a.g u h st) (record { start = a.s; end = e; level = a.l.number }) refl sound tops' r c.if-l-q.false)
