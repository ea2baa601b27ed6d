-- The gap is filled, then the envelope's level set.
-- Assumes nothing.
use Rattle.std.proofs.Common.{◌≡◌, ℕ, ◌-◌, min, ap, ◌∙◌, arith}
use Rattle.runs.specs.Sweep.{above_to, lifted}
use Rattle.runs.proofs.sweep.lift.Goals as goal

pub returns : goal.returns
unfolding lifted
returns c =
    let setting = c.set_from in
    let filling = c.fill-count in
    let least = c.min in
    let near = c.above-near in
    let far = c.saturating_sub in
    let a = c.args in
    let with : least.result ≡ min (above_to a.tops.now.ends (a.s - a.g) 6) a.l.number =
    least.ensures ∙ ap (λ (n : ℕ). min n a.l.number) (near.ensures ∙ ap (λ (t : ℕ). above_to a.tops.now.ends t 6) far.ensures) in
    (omega (arith, setting.ensures.0, filling.ensures.0), rw (← with, ← filling.ensures.1) setting.ensures.1)
