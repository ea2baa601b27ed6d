-- The corners of an approach: its lengths, the sizes of its numbers, and the reply by whether the flare is entered.
-- Assumes nothing.
use Rattle.std.specs.Prelude.{if◌then◌else◌}
use Prim.Native.Nat.{ℕ, ◌+◌, ◌-◌, ◌*◌, ◌/◌, ◌≤◌, ◌<◌, min}
use native.Mathlib.Omega.{arith}
use native.Mathlib.Nat.{mul-le-mul, div-le_self}
use mathlib.Core.Path.{◌≡◌}
use mathlib.Core.Bool.{Bool, true, ◌&&◌}
use lib.Dec.{ltb}
use lib.IntN.{pos, nat_abs}
use borrow.Author.Tests.{ltb-true}
use Rattle.std.proofs.lemmas.Bool.{and_parts}
use Rattle.corners.proofs.WholeLaws.{difference_size}
use Rattle.approach.specs.Approach.{approach_length, Domain}
use Rattle.approach.specs.Panel.{raised_length}
use Rattle.job.specs.declared.Header.{Header}
use Rattle.job.specs.declared.Hazard.{Hazard}
use Rattle.job.specs.Fits.{HeaderFits, HazardFits}
use Rattle.job.proofs.RangeLaws.{header_bounds}
use Rattle.planning.specs.Envelope.{Traffic, forward, opposite, adjacent, runout, reaches, lengthening}
use Rattle.planning.proofs.ReachLaws.{reaches_adjacent, reaching_domain, reaching_length, reaching_raised, lengthening_top}
use Rattle.corners.specs.declared.points.Lengths.{Lengths}
use Rattle.corners.specs.declared.reply.Corners.{Corners}
use Rattle.corners.specs.Corners.{upstream_by, length_before, flare_entered, upstream_offset, Point, point_at, approach_points}
use Rattle.corners.specs.Reply.{corner_of, corners_as}
use Rattle.corners.specs.Steps.{LengthsOf}

-- Adjacent traffic that reaches a hazard, which stands clear of the barrier, asks for its lengths with the hazard's own offsets.
module _ (h : Header) (z : Hazard) (t : Traffic) (hf : HeaderFits h) (zf : HazardFits h z) (clear : h.offset + h.deflection ≤ z.near)
    (beside : adjacent h z.side t ≡ true) (reach : reaches h z t ≡ true)
    {L R : ℕ} (p : L ≡ runout h t) (q : R ≡ min z.far h.zone) where
  pub asked_domain : Domain h.along h.across h.straight L R h.offset
  asked_domain = let e = reaches_adjacent h z t beside in rw (e.1, e.2, ← p, ← q) at (reaching_domain h z hf zf clear t reach)

  pub asked_lengths : {l : Lengths} → l.before ≡ approach_length h.along h.across h.straight L R h.offset
      → l.raised ≡ raised_length h.panel h.along h.across h.straight L R h.offset → LengthsOf h z t l
  unfolding length_before
  asked_lengths {l} before raised =
      let e = reaches_adjacent h z t beside in
      let same : l.before ≡ length_before h z t = cc (e.1, e.2) in
      let raise : l.raised ≡ lengthening h z t = cc (e.1, e.2, reaching_length h z hf zf clear t reach) in
      let not_smaller : length_before h z t ≤ lengthening h z t = (reaching_raised h z hf zf clear t reach).holds.not_smaller in
      record { before = same; raised = raise; not_smaller = omega arith; few = omega (arith, lengthening_top h z hf zf clear t) }

-- Where the flare is entered, the raised length passes T; and as code has it.
pub raised_past_straight : (h : Header) (z : Hazard) (t : Traffic) → HeaderFits h → HazardFits h z → h.offset + h.deflection ≤ z.near → reaches h z t ≡ true
    → flare_entered h z t ≡ true
    → h.straight < lengthening h z t
unfolding flare_entered length_before
raised_past_straight h z t hf zf clear reach e =
    omega (arith, ltb-true h.straight _ ((and_parts (ltb 0 h.across) _ e).1), (reaching_raised h z hf zf clear t reach).holds.not_smaller)

pub lengths_past_straight : {h : Header} {z : Hazard} {t : Traffic} {l : Lengths} → LengthsOf h z t l
    → (ltb 0 h.across && ltb h.straight l.before) ≡ true → h.straight < l.raised
lengths_past_straight {h} {l = l} is e = omega (arith, ltb-true h.straight l.before ((and_parts (ltb 0 h.across) _ e).1), is.not_smaller)

-- The numbers of an approach fit.

pub upstream_size : (t : Traffic) (z : Hazard) (d : ℕ) → nat_abs (upstream_by t z d) ≤ z.start + z.end + d
upstream_size forward z d = omega (arith, difference_size (pos z.start) (pos d))
upstream_size opposite z d = omega arith

module _ (h : Header) (hf : HeaderFits h) (l : Lengths) (few : l.raised < 210000) where
  pub across_top : h.across * (l.raised - h.straight) ≤ 10 * 210000
  across_top = mul-le-mul (header_bounds h hf).across_top (let e : l.raised - h.straight ≤ 210000 = omega arith in e)

  pub away_top : (h.across * (l.raised - h.straight)) / h.along ≤ 10 * 210000
  away_top = omega (arith, across_top, div-le_self (h.across * (l.raised - h.straight)) h.along)

-- The upstream end of an approach of a raised length n.
abbrev end_point : (x y : ℕ) → Header → Hazard → Traffic → (n : ℕ) (entered : Bool) → Point
end_point x y h z t n entered = point_at x y (upstream_by t z n) (if entered then h.offset + (h.across * (n - h.straight)) / h.along else h.offset)

-- The reply, by whether the flare is entered.
module _ (x y : ℕ) (h : Header) (z : Hazard) (t : Traffic) (l : Lengths) (is : LengthsOf h z t l) (entered : Bool)
    (test : (ltb 0 h.across && ltb h.straight l.before) ≡ entered) (r : Corners) where
  pub approach_reply : r.upstream ≡ corner_of (end_point x y h z t l.raised entered)
      → r.flare ≡ corner_of (if entered then point_at x y (upstream_by t z h.straight) h.offset else end_point x y h z t l.raised entered)
      → r.hazard ≡ corner_of (point_at x y (upstream_by t z 0) h.offset)
      → r ≡ corners_as (approach_points x y h z t)
  unfolding approach_points upstream_offset flare_entered
  approach_reply upstream flare hazard =
      let e : (ltb 0 h.across && ltb h.straight (length_before h z t)) ≡ entered = rw is.before at test in
      rw (e, ← is.raised) (λ i. record { upstream = upstream i; flare = flare i; hazard = hazard i })
