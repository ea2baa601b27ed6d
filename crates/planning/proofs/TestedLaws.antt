-- The test of one hazard, answer by answer, and its envelope cut by sums.
-- Assumes nothing.
use Rattle.std.specs.Prelude.{if◌then◌else◌}
use Prim.Native.Nat.{ℕ, ◌+◌, ◌-◌, ◌≤◌, ◌<◌, min, max}
use native.Mathlib.Omega.{arith}
use mathlib.Core.Path.{◌≡◌, refl, sym, ap, ◌∙◌}
use mathlib.Core.Bool.{Bool, true, false, ◌&&◌, ◌||◌, and-false, or-true}
use mathlib.Core.List.{List, [], ◌∷◌}
use lib.Dec.{ltb, eqb}
use borrow.Author.Tests.{ltb-false, lt-ltb, le-ltb, eq-eqb, ne_eqb}
use Rattle.job.specs.declared.Header.{Header}
use Rattle.job.specs.declared.Hazard.{Hazard}
use Rattle.planning.specs.declared.envelope.CutEnvelope.{CutEnvelope}
use Rattle.planning.specs.declared.window.Window.{Window}
use Rattle.planning.specs.Envelope.{Traffic, forward, opposite, reaches, reached, lengthening, envelope, envelopes, cut_to_road, cut_envelope, overhang, overhangs, stands_near}
use Rattle.planning.specs.Window.{stands_in, standing_in}
use Rattle.planning.specs.Reply.{no_cuts, cuts_of}
use Rattle.planning.proofs.ReachLaws.{reached_near}
use Rattle.planning.proofs.WindowLaws.{standing_one}
use Rattle.planning.proofs.OverhangLaws.{greater_none}

-- What one hazard gives to a side.
pub own_cuts : (h : Header) (side : ℕ) (z : Hazard) → z.side ≡ side → reached h z ≡ true
    → cuts_of h side (z ∷ []) ≡ record { envelopes = cut_envelope h z ∷ []; overhangs = overhang h z }
unfolding envelopes overhangs cut_envelope
own_cuts h side z on r =
    rw (eq-eqb z.side side on, r) (λ i. record { envelopes = cut_to_road h (envelope h z) ∷ []; overhangs = greater_none (overhang h z) i })

pub no_cuts_lem : (h : Header) (side : ℕ) (z : Hazard) → (eqb z.side side && reached h z) ≡ false → cuts_of h side (z ∷ []) ≡ no_cuts
unfolding envelopes overhangs
no_cuts_lem h side z e = rw e

-- And where it is asked to stand in a window.
cuts_one : (h : Header) (side : ℕ) (w : Window) (z : Hazard) → cuts_of h side (standing_in w (z ∷ [])) ≡ cuts_of h side (if stands_in w z then z ∷ [] else [])
cuts_one h side w z = ap (λ (zs : List Hazard). cuts_of h side zs) (standing_one w z)

outside_cuts : (h : Header) (side : ℕ) (w : Window) (z : Hazard) → stands_in w z ≡ false → cuts_of h side (standing_in w (z ∷ [])) ≡ no_cuts
unfolding envelopes overhangs
outside_cuts h side w z out = cuts_one h side w z ∙ rw out

none_cuts : (h : Header) (side : ℕ) (w : Window) (z : Hazard) → cuts_of h side (z ∷ []) ≡ no_cuts → cuts_of h side (standing_in w (z ∷ [])) ≡ no_cuts
unfolding envelopes overhangs
none_cuts h side w z none = cuts_one h side w z ∙ go (stands_in w z)
  where
    go : (b : Bool) → cuts_of h side (if b then z ∷ [] else []) ≡ no_cuts
    go true = none
    go false = refl

-- A hazard that stands clear of the barrier passes it.
pub clear_passes : (h : Header) (z : Hazard) → h.offset + h.deflection ≤ z.near → stands_near h z ≡ false
unfolding stands_near
clear_passes h z l = rw (le-ltb z.near (h.offset + h.deflection) l) (and-false (reached h z))

-- And one that passes and that a traffic reaches stands clear.
pub reaching_clear : (h : Header) (z : Hazard) → stands_near h z ≡ false → (t : Traffic) → reaches h z t ≡ true → h.offset + h.deflection ≤ z.near
unfolding stands_near reached
reaching_clear h z e forward r = ltb-false _ _ (rw r at e)
reaching_clear h z e opposite r = ltb-false _ _ (let w : (reaches h z forward || true) && ltb z.near (h.offset + h.deflection) ≡ false = rw r at e in
    rw (or-true (reaches h z forward)) at w)

module _ (h : Header) (z : Hazard) (side : z.side ≤ 1) where
  -- The test by numbers.
  pub near_numbers : ltb z.near h.zone && ltb z.near (h.offset + h.deflection) ≡ stands_near h z
  unfolding stands_near
  near_numbers = rw (reached_near h z side)

  -- A reached hazard that passes it stands clear of the barrier.
  pub stands_clear : stands_near h z ≡ false → z.near < h.zone → h.offset + h.deflection ≤ z.near
  stands_clear e l = ltb-false _ _ (let w : ltb z.near h.zone && ltb z.near (h.offset + h.deflection) ≡ false = near_numbers ∙ e in
      rw (lt-ltb z.near h.zone l) at w)

  module _ (asked : ℕ) (w : Window) where
    -- It stands on the other side, or outside of the window.
    pub other_cuts : (z.side ≡ asked → ⊥) → no_cuts ≡ cuts_of h asked (standing_in w (z ∷ []))
    other_cuts off = sym (none_cuts h asked w z (no_cuts_lem h asked z (rw (ne_eqb z.side asked off))))

    pub outside_none : stands_in w z ≡ false → no_cuts ≡ cuts_of h asked (standing_in w (z ∷ []))
    outside_none out = sym (outside_cuts h asked w z out)

    -- Its envelope, cut.
    pub given_envelope : z.near < h.zone → z.side ≡ asked → stands_in w z ≡ true
        → record { envelopes = cut_envelope h z ∷ []; overhangs = overhang h z } ≡ cuts_of h asked (standing_in w (z ∷ []))
    given_envelope l on stands = let e : reached h z ≡ true = rw (reached_near h z side) (lt-ltb z.near h.zone l) in
        sym (cuts_one h asked w z ∙ rw stands (own_cuts h asked z on e))

    -- Nobody reaches it.
    pub unreached_none : h.zone ≤ z.near → no_cuts ≡ cuts_of h asked (standing_in w (z ∷ []))
    unreached_none l =
        let e : reached h z ≡ false = rw (reached_near h z side) (le-ltb z.near h.zone l) in
        sym (none_cuts h asked w z (no_cuts_lem h asked z (rw e (and-false (eqb z.side asked)))))

-- The cut ends by sums: what hangs over is taken off again.
module _ (h : Header) (z : Hazard) {before behind early late : ℕ} (p : before ≡ lengthening h z forward) (q : behind ≡ lengthening h z opposite)
    (a : early ≡ h.begin + before - z.start) (b : late ≡ z.end + behind - h.end) where
  cut_start : z.start + early - before ≡ max h.begin (z.start - lengthening h z forward)
  cut_start = omega (arith, a, p)

  cut_end : z.end + behind - late ≡ min (z.end + lengthening h z opposite) h.end
  cut_end = omega (arith, b, q)

  early_is : early ≡ h.begin + lengthening h z forward - z.start
  early_is = omega (arith, a, p)

  late_is : late ≡ z.end + lengthening h z opposite - h.end
  late_is = omega (arith, b, q)

  pub cut_by_sums : ◌≡◌ {A = CutEnvelope}
      (record {
        stretch = record { start = z.start + early - before; end = z.end + behind - late; level = z.level };
        overhangs = record { before = early; after = late };
      })
      (record { stretch = cut_envelope h z; overhangs = overhang h z })
  unfolding cut_envelope cut_to_road envelope overhang
  cut_by_sums = λ i. record {
    stretch = record { start = cut_start i; end = cut_end i; level = z.level };
    overhangs = record { before = early_is i; after = late_is i };
  }
