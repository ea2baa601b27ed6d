-- Each turn is a step of `low_after` or `bits_after`, and both together make `places_pass`.
use Rattle.std.proofs.Common.{◌-◌, take, drop, refl, add-one, arith, length-drop}
use Rattle.std.proofs.Math.Seq.{take_all}
use Rattle.open_memory.specs.Steps.{low_after, bits_after, places_pass}
use Rattle.open_memory.proofs.LimitLaws.{low_turn, bits_turn}
use Rattle.open_memory.proofs.rules.places_pass.Goals as goal

pub loop-place-init : goal.loop-place-init
unfolding low_after
loop-place-init c = refl

pub loop-place-preserved : goal.loop-place-preserved
loop-place-preserved c = let turn = low_turn c.args.limits 0 (take c.args.count c.args.places.now) c.loop-place.place-index c.loop-place-test.true in rw add-one cc

pub loop-place-2-init : goal.loop-place-2-init
unfolding bits_after
loop-place-2-init c = refl

pub loop-place-2-preserved : goal.loop-place-2-preserved
loop-place-2-preserved c =
    let n = c.args.count in
    let turn = bits_turn 0 (take (256 - n) (drop n c.args.places.now)) c.loop-place-2.place-index c.loop-place-2-test.true in rw add-one cc

pub returns : goal.returns
unfolding places_pass
returns c =
    let n = c.args.count in
    let ps = c.args.places.now in
    let before = take_all c.loop-place.place-index (take n ps) c.loop-place-test.false in
    let behind = take_all c.loop-place-2.place-index (take (256 - n) (drop n ps)) c.loop-place-2-test.false in
    let rest = take_all (256 - n) (drop n ps) (omega (arith, length-drop n ps)) in
    cc
