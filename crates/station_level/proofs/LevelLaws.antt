-- Level, step by step: the side, the job accepted, the level that the envelopes about the station require.
-- Assumes nothing.
use Prim.Native.Nat.{ℕ, ◌≤◌, ◌<◌}
use mathlib.Core.Path.{◌≡◌, sym, ap, ◌∙◌}
use mathlib.Core.List.{List}
use borrow.Author.Tests.{le-leb, lt-leb}
use Rattle.base.specs.Answer.{accepted, refused, ◌>>=◌}
use Rattle.base.proofs.AnswerLaws.{bind_assoc, bind_same}
use Rattle.refusal.specs.Refusal.{refusal}
use Rattle.refusal.specs.declared.Refusal.{Refusal}
use Rattle.runs.specs.Level.{required_level}
use Rattle.planning.specs.Envelope.{accept_job}
use Rattle.planning.specs.Required.{job_level}
use Rattle.planning.specs.Window.{window_about}
use Rattle.planning.specs.Accept.{AcceptedSide, side_within}
use Rattle.planning.proofs.EnvelopeLaws.{accepted_fits}
use Rattle.planning.proofs.WindowLaws.{level_about}
use Rattle.station_level.specs.Level.{level_at}

pub level_bad_side : (s : List ℕ) (side t : ℕ) → 1 < side → level_at s side t ≡ refused 8 0
unfolding level_at
level_bad_side s side t h = rw (lt-leb side 1 h)

pub level_by_job : (s : List ℕ) (side t : ℕ) → side ≤ 1 → level_at s side t ≡ (accept_job s >>= λ j. accepted (job_level j side t))
unfolding level_at
level_by_job s side t h = rw (le-leb side 1 h)

-- By what `side_of` answers of the hazards about the station.
module _ (s : List ℕ) (side t : ℕ) (h : side ≤ 1) where
  level_step : level_at s side t ≡ (side_within s side (window_about t) >>= λ x. accepted (required_level x.cuts.envelopes x.continuity t))
  unfolding side_within
  level_step =
      level_by_job s side t h
      ∙ bind_same (accept_job s) _ _ (λ j e. ap accepted (sym (level_about j side t (accepted_fits s j e))))
      ∙ sym (bind_assoc (accept_job s) _ _)

  pub level_done : (x : AcceptedSide) → side_within s side (window_about t) ≡ accepted x
      → level_at s side t ≡ accepted (required_level x.cuts.envelopes x.continuity t)
  level_done x e = level_step ∙ rw e

  pub level_refused : (x : Refusal) → side_within s side (window_about t) ≡ refusal x → level_at s side t ≡ refusal x
  level_refused x e = level_step ∙ rw e
