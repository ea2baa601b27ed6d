-- The call smallest offset: its complete reply. Document 02, request 10.
-- Assumes nothing.
use Rattle.std.specs.Prelude.{ℕ, zero, suc, ◌+◌, ◌≤◌, Bool, ◌&&◌, List, leb, Option, Some, None, Result, if◌then◌else◌}
use Rattle.base.specs.Answer.{Answer, accepted, ◌>>=◌}
use Rattle.refusal.specs.Refusal.{answer_of}
use Rattle.refusal.specs.declared.Refusal.{Refusal}
use Rattle.job.specs.declared.Header.{Header}
use Rattle.job.specs.declared.Hazard.{Hazard}
use Rattle.job.specs.Job.{with_offset}
use Rattle.planning.specs.Envelope.{adjacent_traffic, lengthening, accept_job}
use Rattle.planning.specs.Approached.{approached_hazard}

-- The paper's words

-- The approach length of a hazard's adjacent traffic, with M for the header's barrier offset. "Panels and the straight-part rule apply": it is the
-- length by which the envelope of the planning is lengthened.
unfoldable pub length_at : Header → Hazard → (M : ℕ) → ℕ
length_at h z M = lengthening (with_offset h M) z (adjacent_traffic h z.side)

-- M is one "from 0 to 20,000 with n at least M + D whose approach length is no longer".
pub record Allowed (h : Header) (z : Hazard) (longest M : ℕ) : Type 0 where
  pub range : M ≤ 20000
  pub clear : M + h.deflection ≤ z.near
  pub no_longer : length_at h z M ≤ longest

-- The same, computed (laws least_exactly, none_exactly)

-- What is given: "the smallest M", or "none".
pub data Smallest : Type 0 where
  offset : (M : ℕ) → Smallest
  none : Smallest

-- The least of k numbers from M on that passes a test, tried from M upwards.
unfoldable pub least_of : (test : ℕ → Bool) (k M : ℕ) → Smallest
least_of test zero M = none
least_of test (suc k) M = if test M then offset M else least_of test k (M + 1)

unfoldable pub is_allowed : Header → Hazard → (longest M : ℕ) → Bool
is_allowed h z longest M = leb (M + h.deflection) z.near && leb (length_at h z M) longest

-- "Give the smallest M from 0 to 20,000 .. If there is no such M, say none, and only then. Other hazards don't count."
unfoldable pub hazard_offset : Header → Hazard → (longest : ℕ) → Smallest
hazard_offset h z longest = least_of (is_allowed h z longest) 20001 0

-- The call

-- "From an accepted job, a hazard index and a wanted longest adjacent approach". "A job that isn't accepted is refused as plan refuses it; after
-- that, no such hazard, or one that adjacent traffic doesn't reach, is 14."
unfoldable pub smallest_offset : (s : List ℕ) (index longest : ℕ) → Answer Smallest
smallest_offset s index longest =
    accept_job s >>= λ j.
    approached_hazard j index >>= λ z.
    accepted (hazard_offset j.header z longest)

-- What the code returns, in these words.
abbrev pub given : Option ℕ → Smallest
given (Some M) = offset M
given None = none

abbrev pub offset_reply : Result (Option ℕ) Refusal → Answer Smallest
offset_reply r = answer_of r >>= λ o. accepted (given o)
