-- Formula, rule and raising and the envelope: an envelope has exactly the hazard's own millimetres and those upstream of it by less than the
-- length in whole panels, through approach's promise.
-- Assumes nothing.
use Rattle.std.specs.Prelude.{if◌then◌else◌}
use Prim.Native.Nat.{ℕ, ◌-◌, ◌≤◌, ◌<◌}
use native.Mathlib.Omega.{arith}
use native.Mathlib.Decide.{dec_lt}
use mathlib.Core.Path.{◌≡◌, refl}
use mathlib.Core.Logic.{◌↔◌}
use mathlib.Core.Bool.{Bool, true, false}
use mathlib.Core.List.{Memᴰ}
use Rattle.std.proofs.lemmas.Bool.{or_left, or_right}
use Rattle.approach.specs.Panel.{raised_length}
use Rattle.approach.proofs.ApproachLaws.{divisor_some}
use Rattle.approach.proofs.PanelLaws.{raised_length_below}
use Rattle.job.specs.declared.Hazard.{Hazard}
use Rattle.job.specs.Job.{Job}
use Rattle.job.proofs.RangeLaws.{header_bounds, hazard_bounds}
use Rattle.runs.specs.Level.{Has}
use Rattle.runs.proofs.LeastLaws.{required_covers}
use Rattle.planning.specs.Envelope.{Traffic, forward, opposite, runout, reaches, reached, reach_of, offset_of, lengthening, envelope, cut_to_road}
use Rattle.planning.specs.Envelope.{cut_envelope, OnRoad, Upstream, BelowApproach, Asked, beside, upstream, side_envelopes}
use Rattle.planning.specs.Overhang.{SideHazard}
use Rattle.planning.specs.Required.{job_level}
use Rattle.planning.specs.Rows.{AcceptedFits}
use Rattle.planning.proofs.EnvelopeLaws.{domain_of, cut_has, to_cut, side_levelled}

module _ (j : Job) (fits : AcceptedFits j) (z : Hazard) (m : Memᴰ z j.hazards) where
  is_reached : (t : Traffic) → reaches j.header z t ≡ true → reached j.header z ≡ true
  unfolding reached
  is_reached forward r = or_left _ (reaches j.header z opposite) r
  is_reached opposite r = or_right (reaches j.header z forward) _ r

  -- A distance below the approach length in whole panels is below the lengthening, and no other is.
  nearer : (t : Traffic) → reaches j.header z t ≡ true → (d : ℕ) → BelowApproach j.header z t d → d < lengthening j.header z t
  unfolding lengthening
  nearer t r d below = rw r ((raised_length_below _ _ _ _ _ _ _ (header_bounds j.header fits.fits.header).panel_low
      (divisor_some _ _ _ _ _ _ (domain_of j fits z m t r)) d).1 below)

  lengthened : (t : Traffic) (d : ℕ) → d < lengthening j.header z t → (reaches j.header z t ≡ true) × BelowApproach j.header z t d
  unfolding lengthening
  lengthened t d l = go (reaches j.header z t) refl l
    where
      go : (b : Bool) → reaches j.header z t ≡ b
          → d < (if b then raised_length j.header.panel j.header.along j.header.across j.header.straight (runout j.header t)
          (reach_of j.header z t) (offset_of j.header z t) else 0)
          → (reaches j.header z t ≡ true) × BelowApproach j.header z t d
      go true r k = (
        r,
        (raised_length_below _ _ _ _ _ _ _ (header_bounds j.header fits.fits.header).panel_low (divisor_some _ _ _ _ _ _ (domain_of j fits z m t r)) d).0
            k,
      )
      go false r k = absurd (omega arith)

  -- A station upstream by less than the lengthening is in the envelope.
  upstream_has : (t : Traffic) (d x : ℕ) → Upstream t z d x → d < lengthening j.header z t → Has (envelope j.header z) x
  unfolding envelope
  upstream_has forward d x u l = let long = (hazard_bounds j.header z (fits.fits.hazards.each z m)).long in (omega arith, omega arith)
  upstream_has opposite d x u l = let long = (hazard_bounds j.header z (fits.fits.hazards.each z m)).long in (omega arith, omega arith)

  -- "A reached hazard's envelope is [s, e), lengthened by each reaching traffic's approach length at the end that it approaches."
  pub envelope_exactly : (t : ℕ) → Has (envelope j.header z) t ↔ Asked j.header z t
  unfolding envelope
  envelope_exactly t = (λ h. to (dec_lt t z.start) (dec_lt t z.end) h, from)
    where
      to : Dec (t < z.start) → Dec (t < z.end) → Has (envelope j.header z) t → Asked j.header z t
      to (yes a) b h = let w = lengthened forward (z.start - t - 1) (omega arith) in upstream forward w.0 (z.start - t - 1) (omega arith) w.1
      to (no a) (yes b) h = beside (omega arith) b
      to (no a) (no b) h = let w = lengthened opposite (t - z.end) (omega arith) in upstream opposite w.0 (t - z.end) (omega arith) w.1

      from : Asked j.header z t → Has (envelope j.header z) t
      from (beside a b) = (omega arith, omega arith)
      from (upstream traffic r d u l) = upstream_has traffic d t u (nearer traffic r d l)

  -- There, on the road, the hazard's level or a higher one is required.
  pub formula_level : (traffic : Traffic) → reaches j.header z traffic ≡ true → (d t : ℕ) → Upstream traffic z d t → BelowApproach j.header z traffic d
      → OnRoad j.header t → z.level ≤ job_level j z.side t
  unfolding job_level cut_envelope cut_to_road envelope
  formula_level traffic r d t u l on =
      let own : SideHazard j z.side z = record { member = m; on_side = refl; reach = is_reached traffic r } in
      required_covers (side_envelopes j z.side) j.header.continuity (side_levelled j z.side fits) (cut_envelope j.header z)
      (to_cut j z.side own) t ((cut_has j.header z t).1 (on, (envelope_exactly t).1 (upstream traffic r d u l)))
