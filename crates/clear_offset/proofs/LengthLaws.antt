-- The adjacent approach length by the barrier's offset: the promise of the approach crate, and that it falls.
-- Assumes nothing.
use Prim.Native.Nat.{ℕ, ◌+◌, ◌≤◌, min}
use native.Mathlib.Omega.{arith}
use mathlib.Core.Path.{◌≡◌, refl, sym, ◌∙◌}
use borrow.Author.Tests.{ltb-true, lt-ltb}
use Rattle.approach.specs.Approach.{Domain}
use Rattle.approach.specs.Panel.{raised_length}
use Rattle.approach.proofs.PanelLaws.{raised_length_some}
use Rattle.approach.proofs.OffsetLaws.{length_falls}
use Rattle.job.specs.declared.Header.{Header}
use Rattle.job.specs.declared.Hazard.{Hazard}
use Rattle.job.specs.Job.{with_offset}
use Rattle.job.proofs.RangeLaws.{header_bounds, hazard_bounds}
use Rattle.planning.specs.Envelope.{Traffic, forward, opposite, adjacent_traffic, runout, lengthening}
use Rattle.planning.proofs.ReachLaws.{reaches_adjacent, present_runout, runout_top}
use Rattle.planning.proofs.AdjacentLaws.{is_adjacent, adjacent_reaches_lem}
use Rattle.clear_offset.specs.Offset.{length_at}
use Rattle.clear_offset.specs.Steps.{Clear}

-- At the header's own offset it is the length by which the planning lengthens the envelope.
pub length_at_own : (h : Header) (z : Hazard) → length_at h z h.offset ≡ lengthening h z (adjacent_traffic h z.side)
unfolding length_at
length_at_own h z = refl

-- The offset changes no runout length.
runout_same : (h : Header) (M : ℕ) (t : Traffic) → runout (with_offset h M) t ≡ runout h t
runout_same h M forward = refl
runout_same h M opposite = refl

module _ (h : Header) (z : Hazard) (c : Clear h z) where
  -- An offset that leaves the deflection free lies below the reach.
  module _ (M : ℕ) (free : M + h.deflection ≤ z.near) where
    pub offset_domain : Domain h.along h.across h.straight (runout h (adjacent_traffic h z.side)) (min z.far h.zone) M
    offset_domain =
        let hf = c.header in
        let bounds = header_bounds h hf in
        let t = adjacent_traffic h z.side in
        record {
          along_low = bounds.along_low;
          along_top = bounds.along_top;
          across_top = bounds.across_top;
          straight_top = bounds.straight_top;
          runout_low = ltb-true 0 (runout h t) (sym (present_runout h hf t) ∙ (is_adjacent h z.side (hazard_bounds h z c.hazard).side).there);
          runout_top = runout_top h hf t;
          reach_top = omega (arith, bounds.clear_top);
          offset_below = omega (arith, bounds.deflection_low, c.reach, (hazard_bounds h z c.hazard).offsets);
        }

    pub length_is : length_at h z M ≡ raised_length h.panel h.along h.across h.straight (runout h (adjacent_traffic h z.side))
        (min z.far h.zone) M
    unfolding length_at lengthening adjacent_traffic
    length_is =
        let t = adjacent_traffic h z.side in
        let by = reaches_adjacent (with_offset h M) z t (is_adjacent (with_offset h M) z.side (hazard_bounds h z c.hazard).side).beside in
        rw (adjacent_reaches_lem (with_offset h M) z (hazard_bounds h z c.hazard).side ∙ lt-ltb z.near h.zone c.reach, by.1, by.2, runout_same h M t)

  pub length_at_some : (M : ℕ) → M + h.deflection ≤ z.near → 1 ≤ length_at h z M
  length_at_some M free = rw (length_is M free) (raised_length_some _ _ _ _ _ _ _ (header_bounds h c.header).panel_low (offset_domain M free))

  -- A barrier farther out needs an approach that is no longer.
  pub length_at_falls : (M k : ℕ) → M ≤ k → k + h.deflection ≤ z.near → length_at h z k ≤ length_at h z M
  length_at_falls M k l free =
      rw (length_is k free, length_is M (omega arith)) (length_falls _ _ _ _ _ _ M k (header_bounds h c.header).panel_low (offset_domain k free) l)
