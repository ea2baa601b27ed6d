-- Plan, step by step: the side, the job accepted, the room.
-- Assumes nothing.
use Prim.Native.Nat.{ℕ, ◌≤◌, ◌<◌}
use mathlib.Core.Path.{◌≡◌, refl, sym, ◌∙◌, subst, ap}
use mathlib.Core.List.{List, ◌++◌}
use borrow.Author.Tests.{le-leb, lt-leb, leb-true}
use Rattle.base.specs.Answer.{Answer, accepted, refused, ◌>>=◌}
use Rattle.refusal.specs.Refusal.{unless_refuse, refusal}
use Rattle.refusal.specs.declared.Refusal.TheVariants as Row
use Rattle.refusal.specs.declared.Refusal.{Refusal}
use Rattle.job.specs.Job.{Job}
use Rattle.job.proofs.RangeLaws.{header_bounds}
use Rattle.runs.specs.Required.{required_runs}
use Rattle.planning.specs.declared.Overhangs.{Overhangs}
use Rattle.planning.specs.Envelope.{side_overhangs, accept_job}
use Rattle.planning.specs.Required.{job_runs}
use Rattle.planning.specs.declared.window.Window.TheVariants.{All}
use Rattle.planning.specs.Window.{standing_in}
use Rattle.planning.specs.Accept.{AcceptedSide, side_within, side_of}
use Rattle.planning.proofs.AcceptedSideLaws.{side_known}
use Rattle.planning.specs.Rows.{AcceptedFits}
use Rattle.planning.proofs.JobRunLaws.{job_run_list}
use Rattle.planning.proofs.RoadLaws.{runs_on_road}
use Rattle.schedule.specs.Schedule.{write_schedule}
use Rattle.schedule.specs.Plan.{PlannedSide, fitted, plan, output_after}
use mathlib.Core.Bool.{true}
use native.Mathlib.Omega.{arith}
use native.Mathlib.Nat.{zero-add}
use lib.ListN.{length, drop, length-append, length-drop}
use lib.Dec.{leb}
use Rattle.number.specs.Number.{placed}
use Rattle.number.proofs.PlaceLaws.{placed_fits}
use Rattle.base.proofs.AnswerLaws.{bound, bind_assoc}
use Rattle.refusal.proofs.RefuseLaws.{tested}
use Rattle.schedule.proofs.LengthLaws.{road_bytes}

-- What fits is written, and what does not is refused with the bytes needed.
pub fitted_fits : (w : List ℕ) (o : Overhangs) (room : ℕ) → length w ≤ room → fitted w o room ≡ accepted (record { schedule = w; overhangs = o })
unfolding fitted
fitted_fits w o room h = rw (le-leb (length w) room h)

pub fitted_short : (w : List ℕ) (o : Overhangs) (room : ℕ) → room < length w → fitted w o room ≡ refused 9 (length w)
unfolding fitted
fitted_short w o room h = rw (lt-leb (length w) room h)

-- Bytes placed from the first on.
pub placed_first : (out w : List ℕ) → length w ≤ length out → placed out 0 w ≡ w ++ drop (length w) out
placed_first out w h = placed_fits out 0 w (omega arith) ∙ ap (λ (n : ℕ). w ++ drop n out) (zero-add (length w))

-- The output is as long as before.
plan_fits : (s : List ℕ) (side room : ℕ) (p : PlannedSide) → plan s side room ≡ accepted p → length p.schedule ≤ room
unfolding plan fitted
plan_fits s side room p e =
    let b1 = bound (unless_refuse (leb side 1) Row.Argument) _ p e in
    let b2 = bound (accept_job s) _ p b1.rest in
    let b3 = bound (unless_refuse (leb (length (write_schedule (job_runs b2.first side))) room) (Row.Room (length (write_schedule (job_runs b2.first side)))))
    _ p b2.rest in
    finish (record { schedule = write_schedule (job_runs b2.first side); overhangs = side_overhangs b2.first side })
    (tested _ (Row.Room (length (write_schedule (job_runs b2.first side)))) _ b3.taken) b3.rest
  where
    finish : (x : PlannedSide) → leb (length x.schedule) room ≡ true → accepted x ≡ accepted p → length p.schedule ≤ room
    finish x h q = let same : x ≡ p = cc in subst (λ (y : PlannedSide). length y.schedule ≤ room) same (leb-true _ _ h)

pub output_length : (s : List ℕ) (side : ℕ) (out : List ℕ) → length (output_after (plan s side (length out)) out) ≡ length out
output_length s side out = go (plan s side (length out)) refl
  where
    go : (a : Answer PlannedSide) → plan s side (length out) ≡ a → length (output_after a out) ≡ length out
    go (accepted p) e = let h = plan_fits s side (length out) p e in
        rw (length-append p.schedule (drop (length p.schedule) out), length-drop (length p.schedule) out) (omega arith)
    go (refused k v) e = refl

-- The schedule of a side that was accepted.
abbrev pub fitted_side : AcceptedSide → (room : ℕ) → Answer PlannedSide
fitted_side x room = fitted (write_schedule (required_runs x.cuts.envelopes x.continuity)) x.cuts.overhangs room

pub plan_bad_side : (s : List ℕ) (side room : ℕ) → 1 < side → plan s side room ≡ refused 8 0
unfolding plan
plan_bad_side s side room h = rw (lt-leb side 1 h)

-- By what `side_of` answers.
plan_step : (s : List ℕ) (side room : ℕ) → side ≤ 1 → plan s side room ≡ (side_of s side >>= λ x. fitted_side x room)
unfolding plan side_within standing_in job_runs
plan_step s side room h = rw (le-leb side 1 h) (sym (bind_assoc (accept_job s) _ _))

pub plan_done : (s : List ℕ) (side room : ℕ) (x : AcceptedSide) → side ≤ 1 → side_of s side ≡ accepted x → plan s side room ≡ fitted_side x room
plan_done s side room x h e = plan_step s side room h ∙ rw e

pub plan_refused : (s : List ℕ) (side room : ℕ) (x : Refusal) → side ≤ 1 → side_of s side ≡ refusal x → plan s side room ≡ refusal x
plan_refused s side room x h e = plan_step s side room h ∙ rw e

-- A planned schedule has at most 5,624 bytes.
pub planned_bytes : (j : Job) (side : ℕ) → AcceptedFits j → length (write_schedule (job_runs j side)) ≤ 5624
planned_bytes j side fits =
    road_bytes j.header.begin (job_runs j side) (job_run_list j side fits) (λ r m.
    let on = runs_on_road j side fits r m in
    (on.0, omega (arith, on.1, (header_bounds j.header fits.fits.header).road_length)))

pub side_bytes : (s : List ℕ) (side : ℕ) (x : AcceptedSide) → side_of s side ≡ accepted x
    → length (write_schedule (required_runs x.cuts.envelopes x.continuity)) ≤ 5624
unfolding job_runs standing_in
side_bytes s side x e = side_known s side All x e (λ (y : AcceptedSide). length (write_schedule (required_runs y.cuts.envelopes y.continuity)) ≤ 5624)
    (λ j fits. planned_bytes j side fits)
