-- Two jobs alike in their headers that have the same envelopes on a side: they require the same levels there, and plan answers the same.
-- Assumes nothing.
use Prim.Native.Nat.{ℕ}
use native.Mathlib.Nat.{le_antisymm}
use mathlib.Core.Path.{◌≡◌, sym, ap, ap₂, ◌∙◌}
use mathlib.Core.List.{List, Memᴰ}
use lib.Dec.{leb}
use Rattle.base.specs.Answer.{◌>>=◌}
use Rattle.refusal.specs.Refusal.{unless_refuse}
use Rattle.refusal.specs.declared.Refusal.TheVariants as Row
use Rattle.job.specs.declared.Header.{Header}
use Rattle.job.specs.declared.Hazard.{Hazard}
use Rattle.job.specs.Job.{Job}
use Rattle.runs.specs.declared.Stretch.{Stretch}
use Rattle.runs.specs.Level.{required_level}
use Rattle.runs.proofs.LevelLaws.{level_same}
use Rattle.runs.proofs.RunsOfLaws.{runs_of_unique}
use Rattle.planning.specs.declared.Overhangs.{Overhangs}
use Rattle.planning.specs.Envelope.{farther, reaches, reach_of, offset_of, lengthening, side_envelopes, overhang, side_overhangs}
use Rattle.planning.specs.Overhang.{SideHazard, Greatest}
use Rattle.planning.specs.Required.{job_level, job_runs}
use Rattle.planning.proofs.EnvelopeLaws.{accepted_fits}
use Rattle.planning.proofs.JobRunLaws.{job_runs_lem}
use Rattle.planning.proofs.OverhangLaws.{greatest_before, greatest_after, greatest_only}
use Rattle.schedule.specs.Schedule.{write_schedule}
use Rattle.schedule.specs.Plan.{fitted, plan}
use Rattle.schedule.specs.Planned.{Accepted}
use Rattle.demands.specs.Demands.{Alike}
use Rattle.demands.proofs.DemandLaws.{alike_reached, more_envelopes}

alike_overhang : (h k : Header) → Alike h k → (z : Hazard) → overhang h z ≡ overhang k z
unfolding overhang lengthening reaches reach_of offset_of farther
alike_overhang h k a z = ap (λ (x : Header). overhang x z) a

plan_accepted : (s : List ℕ) (j : Job) → Accepted s j → (side room : ℕ)
    → plan s side room ≡ (unless_refuse (leb side 1) Row.Argument >>= λ _. fitted (write_schedule (job_runs j side)) (side_overhangs j side) room)
unfolding plan
plan_accepted s j a side room = rw a

-- The second job has the first's hazards that give the side an envelope.
module _ (j₁ j₂ : Job) (alike : Alike j₁.header j₂.header) (side : ℕ) (more : (z : Hazard) → SideHazard j₁ side z → Memᴰ z j₂.hazards) where
  more_overhangs : (end : Overhangs → ℕ) (z : Hazard) → SideHazard j₁ side z
      → SideHazard j₂ side z × (end (overhang j₁.header z) ≡ end (overhang j₂.header z))
  more_overhangs end z s = (
    record { member = more z s; on_side = s.on_side; reach = sym (alike_reached j₁.header j₂.header alike z) ∙ s.reach },
    ap end (alike_overhang j₁.header j₂.header alike z),
  )

-- And the first the second's.
module _ (j₁ j₂ : Job) (alike₁ : Alike j₁.header j₂.header) (alike₂ : Alike j₂.header j₁.header) (side : ℕ)
    (more₁ : (z : Hazard) → SideHazard j₁ side z → Memᴰ z j₂.hazards) (more₂ : (z : Hazard) → SideHazard j₂ side z → Memᴰ z j₁.hazards) where
  pub same_levels : (t : ℕ) → job_level j₁ side t ≡ job_level j₂ side t
  unfolding job_level
  same_levels t =
      ap (λ (G : ℕ). required_level (side_envelopes j₁ side) G t) (ap (λ (x : Header). x.continuity) alike₁)
      ∙ level_same (side_envelopes j₁ side) (side_envelopes j₂ side) j₂.header.continuity t (more_envelopes j₁ j₂ alike₁ side more₁)
      (more_envelopes j₂ j₁ alike₂ side more₂)

  same_overhangs : side_overhangs j₁ side ≡ side_overhangs j₂ side
  same_overhangs = λ i. record {
    before = same (λ o. o.before) (greatest_before j₁ side) (greatest_before j₂ side) i;
    after = same (λ o. o.after) (greatest_after j₁ side) (greatest_after j₂ side) i;
  }
    where
      same : (end : Overhangs → ℕ) {n m : ℕ} → Greatest j₁ side end n → Greatest j₂ side end m → n ≡ m
      same end g f = le_antisymm (greatest_only j₁ j₂ side end (more_overhangs j₁ j₂ alike₁ side more₁ end) g f)
          (greatest_only j₂ j₁ side end (more_overhangs j₂ j₁ alike₂ side more₂ end) f g)

  module _ (s₁ s₂ : List ℕ) (a₁ : Accepted s₁ j₁) (a₂ : Accepted s₂ j₂) where
    same_runs : job_runs j₁ side ≡ job_runs j₂ side
    same_runs =
        let of₁ = job_runs_lem j₁ side (accepted_fits s₁ j₁ a₁) in
        let of₂ = job_runs_lem j₂ side (accepted_fits s₂ j₂ a₂) in
        runs_of_unique (job_runs j₁ side) (job_runs j₂ side) of₁ (record { rising = of₂.rising; shows = λ t. of₂.shows t ∙ sym (same_levels t) })

    pub same_plan : (room : ℕ) → plan s₁ side room ≡ plan s₂ side room
    same_plan room =
        plan_accepted s₁ j₁ a₁ side room
        ∙ ap₂ (λ (rs : List Stretch) (o : Overhangs). unless_refuse (leb side 1) Row.Argument >>= λ _. fitted (write_schedule rs) o room) same_runs
        same_overhangs
        ∙ sym (plan_accepted s₂ j₂ a₂ side room)
