-- With room the schedule is placed from the first byte on, and without it nothing is.
-- Assumes nothing.
use Prim.Native.Nat.{ℕ, ◌≤◌, ◌<◌}
use native.Mathlib.Omega.{arith}
use mathlib.Core.Path.{refl, ap, ◌∙◌}
use lib.ListN.{length}
use Rattle.base.specs.Answer.{accepted, refused}
use Rattle.runs.specs.RunList.{runs_of}
use Rattle.schedule.specs.Schedule.{write_schedule}
use Rattle.schedule.specs.Plan.{bytes_written}
use Rattle.schedule.proofs.PlanLaws.{fitted_fits, fitted_short, placed_first}
use Rattle.schedule.proofs.plan.place.Goals as goal

pub returns-then-out-needed : goal.returns-then-out-needed
unfolding bytes_written
returns-then-out-needed c =
    let a = c.args in
    let w = write_schedule (runs_of a.list) in
    let counted = c.bytes_needed-needed.ensures.1 c.if-out-needed.true in
    let short : length a.out.now < length w = omega (arith, c.if-out-needed.true, counted) in
    rw (fitted_short w a.overhangs (length a.out.now) short) (record { reply = ap (refused 9) counted; out_after = refl })

pub put_schedule-bytes-requires : goal.put_schedule-bytes-requires
put_schedule-bytes-requires c = c.bytes_needed-needed.ensures.0 c.if-out-needed.false

pub returns : goal.returns
unfolding bytes_written
returns c =
    let a = c.args in
    let w = write_schedule (runs_of a.list) in
    let fits : length w ≤ length a.out.now = c.bytes_needed-needed.ensures.0 c.if-out-needed.false in
    let put = c.put_schedule-bytes.ensures in
    rw (fitted_fits w a.overhangs (length a.out.now) fits)
    (record {
      reply = ap (λ (n : ℕ). accepted (record { overhangs = a.overhangs; bytes = n })) put.value;
      out_after = put.out_after ∙ placed_first a.out.now w fits;
    })
