-- The planned schedule of a side of an accepted job: it is the writing of the side's runs, shows the required levels, and goes by
-- approach's promise.
-- Assumes nothing.
use Prim.Native.Nat.{ℕ, ◌+◌, ◌≤◌, ◌<◌}
use native.Mathlib.Omega.{arith}
use mathlib.Core.Path.{◌≡◌, sym, subst, ap, ◌∙◌}
use mathlib.Core.Bool.{true}
use mathlib.Core.List.{List, Memᴰ}
use lib.ListN.{length}
use borrow.Author.Tests.{le-leb}
use Rattle.base.specs.Answer.{accepted}
use Rattle.approach.specs.Panel.{raised_length}
use Rattle.approach.proofs.ApproachLaws.{divisor_some}
use Rattle.approach.proofs.PanelLaws.{raised_length_below}
use Rattle.job.specs.declared.Hazard.{Hazard}
use Rattle.job.specs.Job.{Job}
use Rattle.job.proofs.RangeLaws.{header_bounds}
use Rattle.planning.specs.Envelope.{Traffic, runout, reaches, reach_of, offset_of, side_overhangs, OnRoad, Upstream}
use Rattle.planning.specs.Required.{job_level, job_runs}
use Rattle.planning.specs.Rows.{AcceptedFits}
use Rattle.planning.proofs.EnvelopeLaws.{accepted_fits, domain_of}
use Rattle.planning.proofs.FormulaLaws.{formula_level}
use Rattle.planning.proofs.JobRunLaws.{job_runs_lem, job_run_list}
use Rattle.schedule.specs.Schedule.{write_schedule, read_schedule}
use Rattle.schedule.specs.Plan.{fitted, plan}
use Rattle.schedule.specs.Planned.{Accepted, schedule_alone, Planned, schedule_level}
use Rattle.schedule.proofs.ScheduleLaws.{read_schedule_lem}

pub planned_is : (s : List ℕ) (j : Job) (side room : ℕ) → Accepted s j → side ≤ 1 → length (write_schedule (job_runs j side)) ≤ room
    → plan s side room ≡ accepted (record { schedule = write_schedule (job_runs j side); overhangs = side_overhangs j side })
unfolding plan fitted
planned_is s j side room a h r = rw (le-leb side 1 h, a, le-leb (length (write_schedule (job_runs j side))) room r)

pub planned_writing : (s : List ℕ) (j : Job) (side : ℕ) → Accepted s j → side ≤ 1 → Planned s side (write_schedule (job_runs j side))
unfolding schedule_alone
planned_writing s j side a h room r = rw (planned_is s j side room a h r)

pub planned_only : (s : List ℕ) (j : Job) (side : ℕ) (w : List ℕ) → Accepted s j → side ≤ 1 → Planned s side w → w ≡ write_schedule (job_runs j side)
planned_only s j side w a h p =
    let room = length w + length (write_schedule (job_runs j side)) in
    let e : accepted w ≡ accepted (write_schedule (job_runs j side)) = sym (p room (omega arith)) ∙ planned_writing s j side a h room (omega arith) in
    cc

-- What the writing of the side's runs reads as, and shows.
module _ (j : Job) (side : ℕ) (fits : AcceptedFits j) where
  pub job_read : read_schedule (write_schedule (job_runs j side)) ≡ accepted (job_runs j side)
  job_read = read_schedule_lem (job_runs j side) (job_run_list j side fits)

  pub job_shown : (t : ℕ) → schedule_level (write_schedule (job_runs j side)) t ≡ job_level j side t
  job_shown t = rw job_read ((job_runs_lem j side fits).shows t)

-- The planned schedule covers each millimetre of the road upstream of a hazard by less than the length that crate approach promises.
pub planned_length : (s : List ℕ) (j : Job) (side : ℕ) (w : List ℕ) → Accepted s j → side ≤ 1 → Planned s side w
    → (z : Hazard) → Memᴰ z j.hazards → z.side ≡ side → (traffic : Traffic) → reaches j.header z traffic ≡ true
    → (d t : ℕ) → Upstream traffic z d t
    → let h = j.header in d < raised_length h.panel h.along h.across h.straight (runout h traffic) (reach_of h z traffic) (offset_of h z traffic)
    → OnRoad h t → z.level ≤ schedule_level w t
planned_length s j side w a h p z m on traffic r d t u l road =
    let fits = accepted_fits s j a in
    let some = divisor_some _ _ _ _ _ _ (domain_of j fits z m traffic r) in
    let required = formula_level j fits z m traffic r d t u
    ((raised_length_below _ _ _ _ _ _ _ (header_bounds j.header fits.fits.header).panel_low some d).0 l) road in
    let shown : schedule_level w t ≡ job_level j z.side t =
    ap (λ (x : List ℕ). schedule_level x t) (planned_only s j side w a h p) ∙ job_shown j side fits t ∙ ap (λ (x : ℕ). job_level j x t) (sym on) in
    subst (λ (x : ℕ). z.level ≤ x) (sym shown) required
