-- The part that is lent has the break points, and the rest stands behind it.
-- Assumes nothing.
use Rattle.std.proofs.Common.{◌*◌, ◌≤◌, length, ◌∙◌, arith, length-take-le}
use Rattle.runs.proofs.SweptLaws.{swept_front}
use Rattle.runs.proofs.sweep.sweep_front.Goals as goal

pub returns : goal.returns
returns c =
    let a = c.args in
    let called = c.sweep in
    let room : a.envelopes.count * 2 ≤ length a.starts.now = omega (arith, a.envelopes.sweepable.few) in
    let long = called.auto.starts ∙ length-take-le (a.envelopes.count * 2) a.starts.now room in
    swept_front a.envelopes.keys.now a.envelopes.ends.now a.envelopes.count a.g _ _ called.result called.ensures a.starts.now room long
