-- The first state that is not sound ends the test.
use Rattle.std.proofs.Common.{refl, sym, ◌∙◌, add-one, arith}
use Rattle.std.proofs.Math.Seq.{take_all}
use Rattle.base.specs.Choice.{all_of}
use Rattle.open_job.specs.Parts.{passes}
use Rattle.open_job.proofs.StateLaws.{all_turn, one_fails}
use Rattle.open_job.proofs.memory.each_is_sound.Goals as goal

pub loop-kept-init : goal.loop-kept-init
unfolding all_of
loop-kept-init c = refl

pub returns-then-not-is_sound-clause-sound : goal.returns-then-not-is_sound-clause-sound
returns-then-not-is_sound-clause-sound c =
    one_fails (passes c.args.limits) c.args.states.now c.loop-kept.kept-index _ (omega (arith, c.told-states)) (sym c.is_sound.ensures ∙ c.if-not-is_sound.true)

pub loop-kept-preserved : goal.loop-kept-preserved
loop-kept-preserved c =
    rw add-one (all_turn (passes c.args.limits) c.args.states.now c.loop-kept.kept-index _ (omega (arith, c.told-states)) c.loop-kept.invariant
    (sym c.is_sound.ensures ∙ c.if-not-is_sound.false))

pub returns-clause-sound : goal.returns-clause-sound
returns-clause-sound c =
    let whole = take_all c.loop-kept.kept-index c.args.states.now (omega (arith, c.told-states)) in sym (rw whole at c.loop-kept.invariant)
