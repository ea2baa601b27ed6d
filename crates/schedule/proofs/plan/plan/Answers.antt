-- 8 before anything is read, then the side as it is accepted, and its schedule.
-- Assumes nothing.
use Prim.Native.Nat.{◌≤◌}
use native.Mathlib.Omega.{arith}
use mathlib.Core.Path.{refl, ap}
use lib.ListN.{length}
use Rattle.refusal.proofs.RefuseLaws.{passed_on}
use Rattle.planning.specs.declared.window.Window.TheVariants.{All}
use Rattle.planning.specs.Accept.{side_count}
use Rattle.planning.proofs.AcceptedSideLaws.{side_done, side_refused, side_sound}
use Rattle.schedule.specs.Plan.{bytes_written}
use Rattle.schedule.proofs.PlanLaws.{plan_bad_side, plan_done, plan_refused, side_bytes}
use Rattle.schedule.proofs.plan.plan.Goals as goal

pub returns-then-side-gt1 : goal.returns-then-side-gt1
unfolding bytes_written
returns-then-side-gt1 c =
    let a = c.args in rw (plan_bad_side a.job.now a.side (length a.out.now) c.if-side-gt1.true) (record { reply = refl; out_after = refl })

pub returns-in_err-read : goal.returns-in_err-read
unfolding bytes_written
returns-in_err-read c =
    let a = c.args in
    let side : a.side ≤ 1 = omega (arith, c.if-side-gt1.false) in
    let x = c.in_err-read.field-0.0 in
    rw (plan_refused a.job.now a.side (length a.out.now) x side
    (side_refused _ _ c.side_of.result a.job.now a.side All c.side_of.ensures.answer x c.in_err-read.was))
    (record { reply = passed_on c.from_residual.result x c.from_residual.ensures.1; out_after = refl })

pub plan_side-requires-clause-count_bound : goal.plan_side-requires-clause-count_bound
plan_side-requires-clause-count_bound c = (rw (ap side_count c.in_ok-read.was) at c.side_of.ensures.keyed).few

pub plan_side-requires-clause-all_sound : goal.plan_side-requires-clause-all_sound
plan_side-requires-clause-all_sound c =
    let a = c.args in side_sound a.job.now a.side All _ (side_done _ _ c.side_of.result a.job.now a.side All c.side_of.ensures.answer _ c.in_ok-read.was)

pub plan_side-requires-clause-written_bound : goal.plan_side-requires-clause-written_bound
plan_side-requires-clause-written_bound c =
    let a = c.args in side_bytes a.job.now a.side _ (side_done _ _ c.side_of.result a.job.now a.side All c.side_of.ensures.answer _ c.in_ok-read.was)

pub returns : goal.returns
returns c =
    let a = c.args in
    let side : a.side ≤ 1 = omega (arith, c.if-side-gt1.false) in
    rw (plan_done a.job.now a.side (length a.out.now) _ side
    (side_done _ _ c.side_of.result a.job.now a.side All c.side_of.ensures.answer _ c.in_ok-read.was))
    c.plan_side.ensures
