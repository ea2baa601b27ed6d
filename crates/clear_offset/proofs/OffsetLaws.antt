-- The call, step by step: the hazard asked for, and what the search is asked with.
-- Assumes nothing.
use Prim.Native.Nat.{ℕ, ◌≤◌, ◌<◌}
use native.Mathlib.Omega.{arith}
use mathlib.Core.Path.{◌≡◌, refl}
use mathlib.Core.List.{List}
use Rattle.base.specs.Answer.{accepted, refused}
use Rattle.job.specs.declared.Header.{Header}
use Rattle.job.specs.declared.Hazard.{Hazard}
use Rattle.job.specs.Job.{with_offset}
use Rattle.planning.specs.Envelope.{adjacent_traffic}
use Rattle.planning.specs.Approached.{ApproachedFits}
use Rattle.planning.specs.Accept.{indexed_hazard}
use Rattle.planning.proofs.ApproachedLaws.{asked_refused, asked_unreached, asked_reached}
use Rattle.clear_offset.specs.Offset.{length_at, is_allowed, hazard_offset, smallest_offset}
use Rattle.clear_offset.specs.Steps.{Clear}

-- The header's own offset plays no part.
pub own_offset_unused : (h : Header) (M : ℕ) (z : Hazard) (longest : ℕ) → hazard_offset (with_offset h M) z longest ≡ hazard_offset h z longest
unfolding hazard_offset is_allowed length_at adjacent_traffic
own_offset_unused h M z longest = refl

pub approached_clear : {h : Header} {z : Hazard} → ApproachedFits h z → Clear h z
approached_clear a = record { header = a.header; hazard = a.hazard; reach = a.reach; free = omega (arith, a.clear) }

-- By what `indexed_hazard` answers.
module _ (s : List ℕ) (index longest : ℕ) where
  pub offset_refused : {k v : ℕ} → indexed_hazard s index ≡ refused k v → smallest_offset s index longest ≡ refused k v
  unfolding smallest_offset
  offset_refused e = asked_refused s index (λ h z. accepted (hazard_offset h z longest)) e

  module _ (h : Header) (z : Hazard) (e : indexed_hazard s index ≡ accepted (record { header = h; hazard = z })) where
    pub offset_unreached : h.zone ≤ z.near → smallest_offset s index longest ≡ refused 14 0
    unfolding smallest_offset
    offset_unreached far = asked_unreached s index (λ h z. accepted (hazard_offset h z longest)) h z e far

    pub offset_reached : z.near < h.zone → smallest_offset s index longest ≡ accepted (hazard_offset h z longest)
    unfolding smallest_offset
    offset_reached near = asked_reached s index (λ h z. accepted (hazard_offset h z longest)) h z e near
