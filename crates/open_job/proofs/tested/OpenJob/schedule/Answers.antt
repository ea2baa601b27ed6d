-- The side, then the hazards are walked over where they lie, and the schedule of the envelopes: as plan does of the job's writing.
use Rattle.std.proofs.Common.{◌≤◌, length, refl, ap, ◌∙◌, arith, rules}
use Rattle.refusal.proofs.RefuseLaws.{passed_on}
use Rattle.job.specs.Job.{job_of}
use Rattle.job.specs.Writing.{write_job}
use Rattle.job.proofs.RangeLaws.{header_bounds}
use Rattle.planning.specs.declared.window.Window.TheVariants.{All}
use Rattle.planning.specs.Accept.{side_count}
use Rattle.planning.proofs.AcceptedSideLaws.{side_done, side_refused, side_sound}
use Rattle.schedule.specs.Plan.{bytes_written}
use Rattle.schedule.proofs.PlanLaws.{plan_bad_side, plan_done, plan_refused, side_bytes}
use Rattle.open_memory.proofs.RuleLaws.{open_accepted}
use Rattle.open_job.proofs.CallLaws.{places_fit, stored_side}
use Rattle.open_job.proofs.tested.OpenJob.schedule.Goals as goal

pub returns-then-side-gt1-clause-reply : goal.returns-then-side-gt1-clause-reply
unfolding bytes_written
returns-then-side-gt1-clause-reply c =
    let a = c.args in rw (plan_bad_side (write_job (job_of a.self.state)) a.side (length a.out.now) c.if-side-gt1.true)

pub returns-then-side-gt1-clause-out_after : goal.returns-then-side-gt1-clause-out_after
returns-then-side-gt1-clause-out_after c =
    let a = c.args in rw (plan_bad_side (write_job (job_of a.self.state)) a.side (length a.out.now) c.if-side-gt1.true)

pub side_behind-requires : goal.side_behind-requires
side_behind-requires c =
    let job = c.args.self.state in
    let fits = open_accepted job c.args.self.keeps_rules (search rules) in
    record {
      header_fits = fits.fits.header;
      source_fits = places_fit job fits (omega (arith, (header_bounds job.header fits.fits.header).count));
      keys_len = refl;
      ends_len = refl;
    }

pub returns-in_err-read : goal.returns-in_err-read
unfolding bytes_written
returns-in_err-read c =
    let a = c.args in
    let job = a.self.state in
    let fits = open_accepted job a.self.keeps_rules (search rules) in
    let side : a.side ≤ 1 = omega (arith, c.if-side-gt1.false) in
    let x = c.in_err-read.field-0.0 in
    rw (plan_refused (write_job (job_of job)) a.side (length a.out.now) x side
    (side_refused _ _ c.side_behind.result (write_job (job_of job)) a.side All (c.side_behind.ensures.answer ∙ stored_side job fits a.side All) x c.in_err-read.was))
    (record { reply = passed_on c.from_residual.result x c.from_residual.ensures.1; out_after = refl })

pub plan_side-requires-clause-count_bound : goal.plan_side-requires-clause-count_bound
plan_side-requires-clause-count_bound c = (rw (ap side_count c.in_ok-read.was) at c.side_behind.ensures.keyed).few

pub plan_side-requires-clause-all_sound : goal.plan_side-requires-clause-all_sound
plan_side-requires-clause-all_sound c =
    let a = c.args in
    let job = a.self.state in
    let fits = open_accepted job a.self.keeps_rules (search rules) in
    side_sound (write_job (job_of job)) a.side All _
    (side_done _ _ c.side_behind.result (write_job (job_of job)) a.side All (c.side_behind.ensures.answer ∙ stored_side job fits a.side All) _ c.in_ok-read.was)

pub plan_side-requires-clause-written_bound : goal.plan_side-requires-clause-written_bound
plan_side-requires-clause-written_bound c =
    let a = c.args in
    let job = a.self.state in
    let fits = open_accepted job a.self.keeps_rules (search rules) in
    side_bytes (write_job (job_of job)) a.side _
    (side_done _ _ c.side_behind.result (write_job (job_of job)) a.side All (c.side_behind.ensures.answer ∙ stored_side job fits a.side All) _ c.in_ok-read.was)

pub returns : goal.returns
returns c =
    let a = c.args in
    let job = a.self.state in
    let fits = open_accepted job a.self.keeps_rules (search rules) in
    let side : a.side ≤ 1 = omega (arith, c.if-side-gt1.false) in
    rw (plan_done (write_job (job_of job)) a.side (length a.out.now) _ side
    (side_done _ _ c.side_behind.result (write_job (job_of job)) a.side All (c.side_behind.ensures.answer ∙ stored_side job fits a.side All) _ c.in_ok-read.was))
    c.plan_side.ensures
