-- The header, then the present state, and then what is kept.
use Rattle.std.proofs.Common.{sym, ap, ◌∙◌, arith}
use borrow.Author.Tests.{le-leb, lt-leb}
use Rattle.base.specs.Choice.{all_of}
use Rattle.open_job.specs.Parts.{passes}
use Rattle.open_job.proofs.StateLaws.{eight_same}
use Rattle.open_job.proofs.WholeLaws.{sound_some, sound_none}
use Rattle.open_job.proofs.OpenStates.are_open_states.Goals as goal

pub returns-in-None-clause-sound : goal.returns-in-None-clause-sound
returns-in-None-clause-sound c = sound_none c.args.self.now c.in-None.ensures

pub returns-then-header-gt256-clause-sound : goal.returns-then-header-gt256-clause-sound
returns-then-header-gt256-clause-sound c =
    let m = c.args.self.now in
    rw (sound_some m c.in-Some.limits c.in-Some.ensures, lt-leb m.present.header.count 256 (omega arith))

pub returns-then-places_pass-clause-sound : goal.returns-then-places_pass-clause-sound
returns-then-places_pass-clause-sound c =
    let m = c.args.self.now in
    rw (sound_some m c.in-Some.limits c.in-Some.ensures, le-leb m.present.header.count 256 (omega arith), ← c.places_pass.ensures, c.if-places_pass.true)
    (c.each_is_sound.ensures.sound ∙ ap (all_of (passes c.in-Some.limits)) (sym (eight_same m.kept c.each_is_sound.ensures.size)))

pub returns-else-places_pass-clause-sound : goal.returns-else-places_pass-clause-sound
returns-else-places_pass-clause-sound c =
    let m = c.args.self.now in
    rw (sound_some m c.in-Some.limits c.in-Some.ensures, le-leb m.present.header.count 256 (omega arith), ← c.places_pass.ensures, c.if-places_pass.false)
