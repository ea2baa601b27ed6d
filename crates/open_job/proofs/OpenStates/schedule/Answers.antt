-- The memory is tested, and then the call is that on the present state.
use Rattle.std.proofs.Common.{length, refl}
use Rattle.refusal.proofs.RefuseLaws.{passed_on}
use Rattle.job.specs.Job.{job_of}
use Rattle.job.specs.Writing.{write_job}
use Rattle.schedule.specs.Plan.{plan, bytes_written}
use Rattle.open_job.specs.Calls.{schedule_in}
use Rattle.open_job.proofs.WholeLaws.{test_passed, under_refused, under_passed}
use Rattle.open_job.proofs.OpenStates.schedule.Goals as goal

pub invariant_of-present : goal.invariant_of-present
invariant_of-present c = record { keeps_rules = test_passed c.args.self.now c.in_ok-test.field-0 c.in_ok-test.ensures.sound }

pub returns : goal.returns
unfolding schedule_in
returns c =
    let m = c.args.self.now in
    rw (under_passed m c.in_ok-test.field-0 (plan (write_job (job_of m.present)) c.args.side (length c.args.out.now)) c.in_ok-test.ensures.sound) c.schedule.ensures

pub returns-in_err-test : goal.returns-in_err-test
unfolding schedule_in bytes_written
returns-in_err-test c =
    let m = c.args.self.now in
    let q = c.in_err-test.field-0.0 in
    rw (under_refused m q (plan (write_job (job_of m.present)) c.args.side (length c.args.out.now)) c.in_err-test.ensures.sound)
    (record { reply = passed_on c.from_residual.result q c.from_residual.ensures.1; out_after = refl })
