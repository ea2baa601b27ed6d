-- A side that was accepted: it is that of an accepted job, whose envelopes are sound.
-- Assumes nothing.
use Rattle.std.specs.Prelude.{Result, Ok, Err}
use Prim.Native.Nat.{ℕ, ◌≤◌}
use mathlib.Core.Path.{◌≡◌, sym, subst, ◌∙◌}
use mathlib.Core.List.{List}
use Rattle.base.specs.Answer.{accepted, ◌>>=◌}
use Rattle.base.proofs.AnswerLaws.{bound, bind_assoc}
use Rattle.refusal.specs.Refusal.{refusal}
use Rattle.refusal.specs.declared.Refusal.{Refusal}
use Rattle.job.specs.Job.{Job}
use Rattle.job.proofs.RangeLaws.{header_bounds}
use Rattle.runs.specs.Required.{required_runs}
use Rattle.runs.specs.Sweep.{AllSound}
use Rattle.planning.specs.declared.accept.Side.{Side}
use Rattle.planning.specs.declared.window.Window.{Window}
use Rattle.planning.specs.Envelope.{side_envelopes, accept_job}
use Rattle.planning.specs.Required.{job_runs}
use Rattle.planning.specs.Window.{standing_in, job_within}
use Rattle.planning.specs.Reply.{cuts_of, accepted_runs}
use Rattle.planning.specs.Accept.{AcceptedSide, side_within, side_of, side_beside, side_answer}
use Rattle.planning.specs.Rows.{AcceptedFits}
use Rattle.planning.proofs.EnvelopeLaws.{accepted_fits, side_proper, side_levelled, side_ends}
use Rattle.planning.proofs.WindowLaws.{within_some}

pub job_sound : (j : Job) (side : ℕ) → AcceptedFits j → AllSound (side_envelopes j side)
job_sound j side fits e m =
    let level = side_levelled j side fits e m in
    record { long = side_proper j side fits e m; ends = side_ends j side fits e m; low = level.0; top = level.1 }

-- By what `side_of` answers.
module _ (keys ends : List ℕ) (r : Result Side Refusal) (s : List ℕ) (side : ℕ) (w : Window)
    (reply : side_answer keys ends r ≡ side_within s side w) where
  pub side_done : (t : Side) → r ≡ Ok t → side_within s side w ≡ accepted (side_beside keys ends t)
  side_done t e = sym reply ∙ rw e

  pub side_refused : (x : Refusal) → r ≡ Err x → side_within s side w ≡ refusal x
  side_refused x e = sym reply ∙ rw e

-- That of a job.
abbrev pub side_of_job : Job → (side : ℕ) → AcceptedSide
side_of_job j side = record { cuts = cuts_of j.header side j.hazards; continuity = j.header.continuity }

module _ (s : List ℕ) (side : ℕ) (w : Window) (x : AcceptedSide) (e : side_within s side w ≡ accepted x) where
  -- What holds of the side of every accepted job, by the hazards in the window, holds of it.
  pub side_known : (P : AcceptedSide → Type 0) → ((j : Job) → AcceptedFits j → P (side_of_job (job_within w j) side)) → P x
  unfolding side_within
  side_known P every =
      let b = bound (accept_job s) _ x e in
      let same : side_of_job (job_within w b.first) side ≡ x = let z = b.rest in cc in
      subst P same (every b.first (accepted_fits s b.first b.taken))

  pub side_sound : AllSound x.cuts.envelopes
  side_sound = side_known (λ (y : AcceptedSide). AllSound y.cuts.envelopes) (λ j fits y m. job_sound j side fits y (within_some w j side y m))

  pub side_continuity : x.continuity ≤ 200000
  side_continuity = side_known (λ (y : AcceptedSide). y.continuity ≤ 200000) (λ j fits. (header_bounds j.header fits.fits.header).continuity_top)

-- The runs of a side are those of its envelopes.
pub runs_side : (s : List ℕ) (side : ℕ) → accepted_runs s side ≡ (side_of s side >>= λ x. accepted (required_runs x.cuts.envelopes x.continuity))
unfolding accepted_runs side_within standing_in job_runs
runs_side s side = sym (bind_assoc (accept_job s) (λ j. accepted (side_of_job j side)) (λ x. accepted (required_runs x.cuts.envelopes x.continuity)))
