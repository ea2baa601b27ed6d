-- Which traffic reaches a hazard: the paper's sentences, and where the approach length is asked.
-- Assumes nothing.
use Rattle.std.specs.Prelude.{if◌then◌else◌}
use Prim.Native.Nat.{ℕ, ◌+◌, ◌≤◌, ◌<◌, min}
use native.Mathlib.Omega.{arith}
use native.Mathlib.Nat.{add-zero}
use native.Mathlib.Decide.{ℕ_discrete}
use mathlib.Core.Path.{◌≡◌, refl, sym, ◌∙◌}
use mathlib.Core.Logic.{◌⊎◌, inl, inr}
use mathlib.Core.Bool.{Bool, true, false, ◌&&◌, ◌||◌, and-false}
use lib.Dec.{ltb, eqb}
use borrow.Author.Tests.{ltb-true, lt-ltb, le-ltb, eq-eqb}
use Rattle.base.proofs.TestLaws.{same_test}
use Rattle.std.proofs.lemmas.Bool.{and_from, and_parts, or_cases, or_left, or_right}
use Rattle.approach.specs.Approach.{approach_length, Domain}
use Rattle.base.specs.Least.{LeastMultiple}
use Rattle.approach.specs.Panel.{raised_length}
use Rattle.approach.proofs.PanelLaws.{raised_least, raised_length_fits}
use Rattle.job.specs.declared.Header.{Header}
use Rattle.job.specs.declared.Hazard.{Hazard}
use Rattle.job.specs.Fits.{HeaderFits, HazardFits}
use Rattle.job.proofs.RangeLaws.{header_bounds, hazard_bounds}
use Rattle.planning.specs.Envelope.{Traffic, forward, opposite, present, adjacent, runout, farther, reaches, reached, reach_of, offset_of, lengthening}

-- The paper's sentences

-- "Adjacent traffic reaches the hazard if n < C; then R is the lesser of f and C, and m = M."
pub reaches_adjacent :
    (h : Header) (z : Hazard) (t : Traffic) → adjacent h z.side t ≡ true
    → (reaches h z t ≡ (present h t && ltb z.near h.zone)) × (reach_of h z t ≡ min z.far h.zone) × (offset_of h z t ≡ h.offset)
unfolding reaches reach_of offset_of farther
reaches_adjacent h z t e = rw e (rw add-zero, rw add-zero, rw add-zero)

-- "Far traffic reaches it if n + W < C; then R is the lesser of f + W and C, and m = M + W."
pub reaches_far :
    (h : Header) (z : Hazard) (t : Traffic) → adjacent h z.side t ≡ false
    → (reaches h z t ≡ (present h t && ltb (z.near + h.way) h.zone))
    × (reach_of h z t ≡ min (z.far + h.way) h.zone)
    × (offset_of h z t ≡ h.offset + h.way)
unfolding reaches reach_of offset_of farther
reaches_far h z t e = rw e (refl, refl, refl)

in_zone : (h : Header) (z : Hazard) (t : Traffic) → reaches h z t ≡ true → z.near + farther h z.side t < h.zone
unfolding reaches
in_zone h z t r = ltb-true (z.near + farther h z.side t) h.zone ((and_parts (present h t) _ r).1)

adjacent_reaches_lem : (h : Header) (z : Hazard) (t : Traffic) → present h t ≡ true → adjacent h z.side t ≡ true → ltb z.near h.zone ≡ true
    → reaches h z t ≡ true
adjacent_reaches_lem h z t p a l = rw (reaches_adjacent h z t a).0 (and_from _ _ p l)

-- A hazard is reached exactly if n < C: far traffic reaches only where adjacent traffic does.
pub reached_near : (h : Header) (z : Hazard) → z.side ≤ 1 → reached h z ≡ ltb z.near h.zone
unfolding reached
reached_near h z s = same_test (reached h z) (ltb z.near h.zone) to from
  where
    to : (reaches h z forward || reaches h z opposite) ≡ true → ltb z.near h.zone ≡ true
    to r = go (or_cases (reaches h z forward) (reaches h z opposite) r)
      where
        go : (reaches h z forward ≡ true) ⊎ (reaches h z opposite ≡ true) → ltb z.near h.zone ≡ true
        go (inl q) = lt-ltb z.near h.zone (omega (arith, in_zone h z forward q))
        go (inr q) = lt-ltb z.near h.zone (omega (arith, in_zone h z opposite q))

    from : ltb z.near h.zone ≡ true → (reaches h z forward || reaches h z opposite) ≡ true
    from l = go (ℕ_discrete z.side 0) (ℕ_discrete h.opposite 0)
      where
        go : Dec (z.side ≡ 0) → Dec (h.opposite ≡ 0) → (reaches h z forward || reaches h z opposite) ≡ true
        go (yes a) b = or_left _ _ (adjacent_reaches_lem h z forward refl (or_left _ _ (eq-eqb _ _ a)) l)
        go (no a) (yes b) = or_left _ _ (adjacent_reaches_lem h z forward refl (or_right (eqb z.side 0) _ (eq-eqb _ _ b)) l)
        go (no a) (no b) =
            or_right (reaches h z forward) _ (adjacent_reaches_lem h z opposite (lt-ltb 0 h.opposite (omega arith)) (eq-eqb z.side 1 (omega arith)) l)

-- The approach length of a traffic

-- A traffic is present where its runout length is above 0.
pub present_runout : (h : Header) → HeaderFits h → (t : Traffic) → present h t ≡ ltb 0 (runout h t)
present_runout h f forward = sym (lt-ltb 0 h.forward (header_bounds h f).forward_low)
present_runout h f opposite = refl

pub runout_top : (h : Header) → HeaderFits h → (t : Traffic) → runout h t ≤ 200000
runout_top h f forward = (header_bounds h f).forward_top
runout_top h f opposite = (header_bounds h f).opposite_top

pub farther_top : (h : Header) → HeaderFits h → (side : ℕ) (t : Traffic) → farther h side t ≤ h.way
unfolding farther
farther_top h f side t = go (adjacent h side t)
  where
    go : (b : Bool) → (if b then 0 else h.way) ≤ h.way
    go true = omega arith
    go false = omega arith

-- A hazard in its ranges that stands clear of the barrier, M + D ≤ n.
module _ (h : Header) (z : Hazard) (hf : HeaderFits h) (zf : HazardFits h z) (clear : h.offset + h.deflection ≤ z.near) (t : Traffic) where
  -- A reaching traffic asks for a length in the formula's domain.
  pub reaching_domain : reaches h z t ≡ true → Domain h.along h.across h.straight (runout h t) (reach_of h z t) (offset_of h z t)
  unfolding reaches reach_of offset_of
  reaching_domain r =
      let bounds = header_bounds h hf in
      let runs : ltb 0 (runout h t) ≡ true = sym (present_runout h hf t) ∙ (and_parts (present h t) _ r).0 in
      record {
        along_low = bounds.along_low;
        along_top = bounds.along_top;
        across_top = bounds.across_top;
        straight_top = bounds.straight_top;
        runout_low = ltb-true 0 (runout h t) runs;
        runout_top = runout_top h hf t;
        reach_top = omega (arith, bounds.clear_top);
        offset_below = omega (arith, in_zone h z t r, bounds.deflection_low, (hazard_bounds h z zf).offsets);
      }

  -- Its lengthening is the length that the approach crate promises.
  pub reaching_length : reaches h z t ≡ true
      → raised_length h.panel h.along h.across h.straight (runout h t) (reach_of h z t) (offset_of h z t) ≡ lengthening h z t
  unfolding lengthening
  reaching_length r = rw r

  -- "Each approach length is raised to the least multiple of it that is not smaller."
  pub reaching_raised : reaches h z t ≡ true
      → LeastMultiple h.panel (approach_length h.along h.across h.straight (runout h t) (reach_of h z t) (offset_of h z t)) (lengthening h z t)
  unfolding lengthening raised_length
  reaching_raised r = rw r (raised_least _ _ (header_bounds h hf).panel_low)

  pub lengthening_top : lengthening h z t < 210000
  unfolding lengthening
  lengthening_top = go (reaches h z t) reaching_domain
    where
      go : (b : Bool) → (b ≡ true → Domain h.along h.across h.straight (runout h t) (reach_of h z t) (offset_of h z t))
          → (if b then raised_length h.panel h.along h.across h.straight (runout h t) (reach_of h z t) (offset_of h z t) else 0) < 210000
      go true d = raised_length_fits _ _ _ _ _ _ _ (header_bounds h hf).panel_low (d refl) (header_bounds h hf).panel_top
      go false d = omega arith

  -- The length asked for with a traffic's own numbers.
  module _ {L w R : ℕ} (p : L ≡ runout h t) (q : w ≡ farther h z.side t) (e : R ≡ min (z.far + w) h.zone) (some : 0 < L)
      (near : z.near + w < h.zone) where
    asked_reaches : reaches h z t ≡ true
    unfolding reaches
    asked_reaches = and_from _ _ (present_runout h hf t ∙ lt-ltb 0 (runout h t) (omega arith)) (lt-ltb (z.near + farther h z.side t) h.zone (omega arith))

    pub lengthening_domain : Domain h.along h.across h.straight L R (h.offset + w)
    unfolding reach_of offset_of
    lengthening_domain = rw (e, p, q) (reaching_domain asked_reaches)

    pub lengthening_asked : raised_length h.panel h.along h.across h.straight L R (h.offset + w) ≡ lengthening h z t
    unfolding reach_of offset_of
    lengthening_asked = rw (e, p, q) (reaching_length asked_reaches)

-- A traffic that does not reach lengthens by nothing.
pub lengthening_absent : (h : Header) (z : Hazard) (t : Traffic) → HeaderFits h → runout h t ≡ 0 → 0 ≡ lengthening h z t
unfolding lengthening reaches
lengthening_absent h z t f e = simp (present_runout h f t, le-ltb 0 (runout h t) (omega arith))

pub lengthening_beyond : (h : Header) (z : Hazard) (t : Traffic) → h.zone ≤ z.near + farther h z.side t → 0 ≡ lengthening h z t
unfolding lengthening reaches
lengthening_beyond h z t l = simp (le-ltb (z.near + farther h z.side t) h.zone l, and-false)
