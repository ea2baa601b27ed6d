-- 8 before anything is read, then the side as it is accepted, and the level that its envelopes about the station require.
-- Assumes nothing.
use native.Mathlib.Omega.{arith}
use mathlib.Core.Path.{sym, ap, ◌∙◌}
use Rattle.base.specs.Answer.{accepted}
use Rattle.refusal.proofs.RefuseLaws.{passed_on}
use Rattle.planning.specs.Accept.{side_within, side_count}
use Rattle.planning.proofs.AcceptedSideLaws.{side_done, side_refused, side_sound, side_continuity}
use Rattle.station_level.proofs.LevelLaws.{level_bad_side, level_done, level_refused}
use Rattle.station_level.proofs.level.level.Goals as goal

pub returns-then-side-gt1 : goal.returns-then-side-gt1
returns-then-side-gt1 c = sym (level_bad_side c.args.job.now c.args.side c.args.station c.if-side-gt1.true)

pub returns-in_err-read : goal.returns-in_err-read
returns-in_err-read c =
    let a = c.args in
    let x = c.in_err-read.field-0.0 in
    let about = ap (side_within a.job.now a.side) (sym c.window_about-window.ensures) in
    let e = side_refused _ _ c.side_of.result a.job.now a.side _ c.side_of.ensures.answer x c.in_err-read.was in
    passed_on c.from_residual.result x c.from_residual.ensures.1
    ∙ sym (level_refused a.job.now a.side a.station (omega (arith, c.if-side-gt1.false)) x (about ∙ e))

pub required_level-requires-clause-keyed : goal.required_level-requires-clause-keyed
required_level-requires-clause-keyed c = rw (ap side_count c.in_ok-read.was) at c.side_of.ensures.keyed

pub required_level-requires-clause-all_sound : goal.required_level-requires-clause-all_sound
required_level-requires-clause-all_sound c =
    let a = c.args in
    side_sound a.job.now a.side _ _ (side_done _ _ c.side_of.result a.job.now a.side _ c.side_of.ensures.answer _ c.in_ok-read.was)

pub required_level-requires-clause-continuity_bound : goal.required_level-requires-clause-continuity_bound
required_level-requires-clause-continuity_bound c =
    let a = c.args in
    side_continuity a.job.now a.side _ _ (side_done _ _ c.side_of.result a.job.now a.side _ c.side_of.ensures.answer _ c.in_ok-read.was)

pub returns : goal.returns
returns c =
    let a = c.args in
    let about = ap (side_within a.job.now a.side) (sym c.window_about-window.ensures) in
    let e = side_done _ _ c.side_of.result a.job.now a.side _ c.side_of.ensures.answer _ c.in_ok-read.was in
    ap accepted c.required_level.ensures ∙ sym (level_done a.job.now a.side a.station (omega (arith, c.if-side-gt1.false)) _ (about ∙ e))
