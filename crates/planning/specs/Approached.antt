-- One hazard of an accepted job, for the calls that ask about its adjacent approach (document 02, requests 9 and 10), and by its index for all that ask about
-- one.
-- Assumes nothing.
use Rattle.std.specs.Prelude.{ℕ, ◌+◌, ◌≤◌, ◌<◌, Bool, [], length, get_or, ltb}
use Rattle.base.specs.Answer.{Answer, accepted, ◌>>=◌}
use Rattle.refusal.specs.Refusal.{unless_refuse}
use Rattle.refusal.specs.declared.Refusal.TheVariants as Row
use Rattle.job.specs.declared.Header.{Header}
use Rattle.job.specs.declared.Hazard.{Hazard}
use Rattle.job.specs.Job.{Job, hazard_of}
use Rattle.planning.specs.Envelope.{adjacent_traffic, reaches}
use Rattle.job.specs.Fits.{HeaderFits, HazardFits}

-- The hazard with an index; zeros where there is none.
abbrev pub hazard_at : Job → (index : ℕ) → Hazard
hazard_at j i = get_or j.hazards i (hazard_of [])

abbrev pub adjacent_reaches : Header → Hazard → Bool
adjacent_reaches h z = reaches h z (adjacent_traffic h z.side)

-- "14, no such hazard or adjacent traffic doesn't reach it." It returns 0.
unfoldable pub approached_hazard : Job → (index : ℕ) → Answer Hazard
approached_hazard j i =
    unless_refuse (ltb i (length j.hazards)) Row.Hazard >>= λ _.
    unless_refuse (adjacent_reaches j.header (hazard_at j i)) Row.Hazard >>= λ _.
    accepted (hazard_at j i)

-- A hazard in its ranges that adjacent traffic reaches and that stands clear of the barrier.
pub record ApproachedFits (h : Header) (z : Hazard) : Type 0 where
  pub header : HeaderFits h
  pub hazard : HazardFits h z
  pub reach : z.near < h.zone
  pub clear : h.offset + h.deflection ≤ z.near
