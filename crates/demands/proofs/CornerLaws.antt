-- Request 9: when the call corners refuses, exactly; where its corners lie; that their floats lose nothing; and worked jobs.
-- Assumes nothing.
use Rattle.std.specs.Prelude.{if◌then◌else◌}
use Prim.Native.Nat.{ℕ, ◌+◌, ◌-◌, ◌*◌, ◌/◌, ◌≤◌, ◌<◌}
use native.Mathlib.Omega.{arith}
use native.Mathlib.Nat.{lt-div-mul-add, div-mul-le_self}
use native.Mathlib.Decide.{dec_le}
use mathlib.Core.Path.{◌≡◌, refl, sym, subst, ap, ◌∙◌}
use mathlib.Core.Logic.{◌⊎◌, inl, inr}
use mathlib.Core.Bool.{Bool, true, false}
use mathlib.Core.List.{List, map}
use lib.IntN.{ℤ, pos, neg_ℤ, ◌+ℤ◌, ◌-ℤ◌, +ℤ_assoc, +ℤ_comm, +ℤ_idr, -ℤ-+ℤ_cancel, +ℤ-neg_ℤ_cancel}
use lib.Ieee.{binary64}
use borrow.Author.Tests.{ltb-true}
use Rattle.base.specs.Choice.{some_of, filter}
use Rattle.base.specs.Answer.{Answer, accepted, refused}
use Rattle.base.specs.Stored.{accepted_or}
use Rattle.corners.proofs.WholeLaws.{cast_exact, difference_size}
use Rattle.number.specs.Number.{write_in, write_number, scan, read_number, number_at}
use Rattle.approach.specs.Approach.{ceil_div, formula_length, approach_length}
use Rattle.base.specs.Least.{next_multiple}
use Rattle.approach.specs.Panel.{raised_length}
use Rattle.job.specs.declared.Header.{Header}
use Rattle.job.specs.declared.Hazard.{Hazard}
use Rattle.job.specs.Job.{Job, shared_ranges, header_ranges, hazard_ranges, read_fields, read_header, read_hazards, read_rest, read_job}
use Rattle.job.specs.Writing.{write_numbers}
use Rattle.job.proofs.RangeLaws.{HeaderBounds, header_bounds, hazard_bounds}
use Rattle.planning.proofs.EnvelopeLaws.{accepted_fits}
use Rattle.planning.proofs.ApproachedLaws.{reach_test, approached_fits}
use Rattle.planning.proofs.ReachLaws.{lengthening_top}
use Rattle.planning.specs.Envelope.{Traffic, forward, opposite, adjacent_traffic, farther, reach_of, offset_of, reaches, reached, lengthening, envelope}
use Rattle.planning.specs.Envelope.{stands_near, test_hazard, test_hazards, accept_job}
use Rattle.corners.specs.Corners.{upstream_by, point_at, length_before, flare_entered, upstream_offset, Points, approach_points, sheet_top, corners_of}
use Rattle.planning.specs.Approached.{hazard_at, approached_hazard, ApproachedFits}
use Rattle.corners.specs.Reply.{corner_of, no_points, corners_replied}
use Rattle.corners.specs.Steps.{StationFits}
use Rattle.corners.proofs.PointLaws.{raised_past_straight, upstream_size, away_top}
use Rattle.corners.proofs.CallLaws.{off_sheet, on_sheet_lem}
use Rattle.demands.specs.Cases.{header, hazard}
use Rattle.demands.specs.Corners.{CornersEight, NoApproach, CornersFourteen, CornersRefusals, Apart, EnvelopeEnd, hazard_end, RoundedDown, CornersLie}
use Rattle.demands.specs.Corners.{AllCornersLie, LosesNothing, CornersExact, AllCornersExact}
use Rattle.demands.specs.CornerCases.{corner_cases, drawn_corners, expected_corners}
use Rattle.demands.specs.Offset.{Approached}
use Rattle.demands.proofs.HazardLaws.{told, told_given, told_fourteen, told_refusals, told_not_eight}

-- Refusals

-- What is told of the hazard.
abbrev drawn : (x y : ℕ) → Job → Hazard → Points
drawn x y j z = approach_points x y j.header z (adjacent_traffic j.header z.side)

module _ (s : List ℕ) (i x y : ℕ) where
  told_on_sheet : x ≤ sheet_top → y ≤ sheet_top → corners_of s i x y ≡ told (drawn x y) s i
  told_on_sheet k l = on_sheet_lem x y s i k l

  -- The sheet corner lies in its range, or the call is refused by it.
  data Sheet : Type 0 where
    within : x ≤ sheet_top → y ≤ sheet_top → Sheet
    outside : (sheet_top < x) ⊎ (sheet_top < y) → corners_of s i x y ≡ refused 8 0 → Sheet

  sheet : Sheet
  sheet = go (dec_le x sheet_top) (dec_le y sheet_top)
    where
      off : (sheet_top < x) ⊎ (sheet_top < y) → Sheet
      off q = outside q (off_sheet x y s i q)

      go : Dec (x ≤ sheet_top) → Dec (y ≤ sheet_top) → Sheet
      go (yes k) (yes l) = within k l
      go (no k) l = off (inl (omega arith))
      go (yes k) (no l) = off (inr (omega arith))

pub corners_eight : CornersEight
corners_eight s i x y v = (λ e. go e (sheet s i x y), λ w. off_sheet x y s i w.1 ∙ ap (refused 8) (sym w.0))
  where
    go : corners_of s i x y ≡ refused 8 v → Sheet s i x y → (v ≡ 0) × ((sheet_top < x) ⊎ (sheet_top < y))
    go e (within k l) = absurd (told_not_eight (drawn x y) s i v (sym (told_on_sheet s i x y k l) ∙ e))
    go e (outside q p) = ((cc), q)

pub corners_fourteen : CornersFourteen
corners_fourteen s i x y v = (λ e. go e (sheet s i x y), λ w. told_on_sheet s i x y w.1 w.2 ∙ (told_fourteen (drawn x y) s i v).1 (w.0, w.3))
  where
    go : corners_of s i x y ≡ refused 14 v → Sheet s i x y → (v ≡ 0) × (x ≤ sheet_top) × (y ≤ sheet_top) × NoApproach s i
    go e (within k l) = let w = (told_fourteen (drawn x y) s i v).0 (sym (told_on_sheet s i x y k l) ∙ e) in (w.0, k, l, w.1)
    go e (outside q p) = absurd (let z : ◌≡◌ {A = ℕ} 8 14 = cc in omega arith)

pub corners_refusals : CornersRefusals
corners_refusals s i x y side room k v across along h =
    let same = told_on_sheet s i x y across along in
    let both = told_refusals (drawn x y) s i side room k v h in
    (λ e. both.0 (sym same ∙ e.0, e.1), λ e. let w = both.1 e in (same ∙ w.0, w.1))

-- Where the corners lie

swap : (a b c : ℤ) → a +ℤ b +ℤ c ≡ a +ℤ c +ℤ b
swap a b c = +ℤ_assoc a b c ∙ ap (λ (z : ℤ). a +ℤ z) (+ℤ_comm b c) ∙ sym (+ℤ_assoc a c b)

-- Two stations of an approach, from the sheet corner: one so far upstream, and the hazard's end.
apart : (t : Traffic) (z : Hazard) (d x : ℕ) → Apart t d (upstream_by t z d -ℤ pos x) (upstream_by t z 0 -ℤ pos x)
apart forward z d x =
    swap (pos z.start -ℤ pos d) (neg_ℤ (pos x)) (pos d) ∙ ap (λ (a : ℤ). a -ℤ pos x) (-ℤ-+ℤ_cancel (pos z.start) (pos d) ∙ sym (+ℤ_idr (pos z.start)))
apart opposite z d x = swap (pos z.end) (pos d) (neg_ℤ (pos x)) ∙ ap (λ (a : ℤ). a -ℤ pos x +ℤ pos d) (sym (+ℤ_idr (pos z.end)))

-- A difference of natural numbers that is not below 0.
natural : (a b : ℕ) → b ≤ a → pos a -ℤ pos b ≡ pos (a - b)
natural a b l =
    let e : a - b + b ≡ a = omega arith in
    ap (λ (n : ℕ). pos n -ℤ pos b) (sym e) ∙ +ℤ-neg_ℤ_cancel (pos (a - b)) (pos b)

envelope_end : (x : ℕ) (h : Header) (z : Hazard) (t : Traffic) → EnvelopeEnd x h z t (upstream_by t z (lengthening h z t) -ℤ pos x)
unfolding envelope
envelope_end x h z forward = λ l. ap (λ (a : ℤ). a -ℤ pos x) (natural z.start (lengthening h z forward) l)
envelope_end x h z opposite = refl

-- The hazard's end is no way upstream of itself.
at_end : (t : Traffic) (z : Hazard) → upstream_by t z 0 ≡ pos (hazard_end t z)
at_end forward z = +ℤ_idr (pos z.start)
at_end opposite z = +ℤ_idr (pos z.end)

rounded_down : (n a : ℕ) → 0 < a → RoundedDown n a (n / a)
rounded_down n a some = record { not_above = div-mul-le_self n a; next_above = let l = lt-div-mul-add {a = n} {b = a} some in omega (arith, l) }

points_lie : (x y : ℕ) (h : Header) (z : Hazard) (t : Traffic) → 0 < h.along → (flare_entered h z t ≡ true → h.straight < lengthening h z t)
    → CornersLie x y h z t (approach_points x y h z t)
unfolding approach_points upstream_offset
points_lie x y h z t some past = record {
  hazard = ap (λ (s : ℤ). point_at x y s h.offset) (at_end t z);
  distance = apart t z (lengthening h z t) x;
  upstream = envelope_end x h z t;
  entered = λ e. rw e (apart t z h.straight x, refl);
  away = λ e. rw e (
      let n = lengthening h z t - h.straight in
      let q = h.across * n / h.along in
      (n, q, omega (arith, past e), rounded_down (h.across * n) h.along some, swap (pos h.offset) (pos q) (neg_ℤ (pos y)))
      );
  straight = λ e. rw e (refl, refl);
}

-- The hazard of a reply lies in its ranges.
own_fits : (s : List ℕ) (j : Job) (i : ℕ) → Approached s j i → ApproachedFits j.header (hazard_at j i)
own_fits s j i a = let fits = accepted_fits s j a.job in approached_fits j fits i a.there (ltb-true _ _ (sym (reach_test j fits i a.there) ∙ a.reach))

approached_lie : (s : List ℕ) (j : Job) (i x y : ℕ) → Approached s j i
    → CornersLie x y j.header (hazard_at j i) (adjacent_traffic j.header (hazard_at j i).side) (drawn x y j (hazard_at j i))
approached_lie s j i x y a =
    let own = own_fits s j i a in
    points_lie x y j.header (hazard_at j i) (adjacent_traffic j.header (hazard_at j i).side)
    (omega (arith, (header_bounds j.header own.header).along_low))
    (raised_past_straight j.header (hazard_at j i) (adjacent_traffic j.header (hazard_at j i).side) own.header own.hazard own.clear a.reach)

pub corners_lie : AllCornersLie
corners_lie s j i x y p accept e = go (sheet s i x y)
  where
    Lie : Type 0
    Lie = CornersLie x y j.header (hazard_at j i) (adjacent_traffic j.header (hazard_at j i).side) p

    own : (k : Job) → Approached s k i → drawn x y k (hazard_at k i) ≡ p → k ≡ j → Lie
    own k a q same = subst (CornersLie x y j.header (hazard_at j i) (adjacent_traffic j.header (hazard_at j i).side)) (rw same at q)
        (approached_lie s j i x y (rw same at a))

    go : Sheet s i x y → Lie
    go (outside q w) = cc
    go (within k l) =
        let w = told_given (drawn x y) s i p (sym (told_on_sheet s i x y k l) ∙ e) in
        let taken = w.1.job in
        let same : w.0 ≡ j = cc in
        own w.0 w.1 w.2 same

-- What the floats say

-- A number far below 2 ^ 53 is cast exactly, and so is its distance from the sheet corner.
point_exact : (x y : ℕ) (t : Traffic) (z : Hazard) (d o : ℕ) → x ≤ sheet_top → y ≤ sheet_top → StationFits z d → o ≤ 2120000
    → LosesNothing (corner_of (point_at x y (upstream_by t z d) o)) (point_at x y (upstream_by t z d) o)
point_exact x y t z d o k l fits top = record {
  station = cast_exact binary64 (upstream_by t z d -ℤ pos x)
      (omega (arith, difference_size (upstream_by t z d) (pos x), upstream_size t z d, fits.start, fits.end, fits.near));
  offset = cast_exact binary64 (pos o -ℤ pos y) (omega (arith, difference_size (pos o) (pos y)));
}

points_exact : (x y : ℕ) (h : Header) (z : Hazard) (t : Traffic) → x ≤ sheet_top → y ≤ sheet_top → ApproachedFits h z
    → CornersExact (corners_replied (accepted (approach_points x y h z t))) (approach_points x y h z t)
unfolding corners_replied approach_points upstream_offset
points_exact x y h z t k l own = go (flare_entered h z t)
  where
    header : HeaderBounds h
    header = header_bounds h own.header

    raised : lengthening h z t < 210000
    raised = lengthening_top h z own.header own.hazard own.clear t

    at : (d o : ℕ) → d ≤ 210000 → o ≤ 2120000 → LosesNothing (corner_of (point_at x y (upstream_by t z d) o)) (point_at x y (upstream_by t z d) o)
    at d o near top =
        let hazard = hazard_bounds h z own.hazard in
        point_exact x y t z d o k l (record {
          start = omega (arith, hazard.long, hazard.ends, header.road_end);
          end = omega (arith, hazard.ends, header.road_end);
          near = near;
        }) top

    away : ℕ
    away = h.across * (lengthening h z t - h.straight) / h.along

    points : Bool → Points
    points entered =
        let upstream = point_at x y (upstream_by t z (lengthening h z t)) (if entered then h.offset + away else h.offset) in
        let flare = point_at x y (upstream_by t z h.straight) h.offset in
        record { upstream = upstream; flare = if entered then flare else upstream; hazard = point_at x y (upstream_by t z 0) h.offset }

    go : (entered : Bool) → CornersExact (corners_replied (accepted (points entered))) (points entered)
    go true = record {
      upstream = at (lengthening h z t) (h.offset + away) (omega (arith, raised))
          (omega (arith, header.offset_top, away_top h own.header (record { before = 0; raised = lengthening h z t }) raised));
      flare = at h.straight h.offset (omega (arith, header.straight_top)) (omega (arith, header.offset_top));
      hazard = at 0 h.offset (omega arith) (omega (arith, header.offset_top));
    }
    go false =
        let upstream = at (lengthening h z t) h.offset (omega (arith, raised)) (omega (arith, header.offset_top)) in
        record { upstream = upstream; flare = upstream; hazard = at 0 h.offset (omega arith) (omega (arith, header.offset_top)) }

pub corners_exact : AllCornersExact
unfolding corners_replied
corners_exact s i x y = go (corners_of s i x y) refl (sheet s i x y)
  where
    zero_exact : LosesNothing (corner_of no_points.hazard) no_points.hazard
    zero_exact = record { station = cast_exact binary64 (pos 0) (omega arith); offset = cast_exact binary64 (pos 0) (omega arith) }

    go : (a : Answer Points) → corners_of s i x y ≡ a → Sheet s i x y → CornersExact (corners_replied a) (accepted_or no_points a)
    go (refused n v) e b = record { upstream = zero_exact; flare = zero_exact; hazard = zero_exact }
    go (accepted p) e (outside q w) = cc
    go (accepted p) e (within k l) =
        let (j, a, q) = told_given (drawn x y) s i p (sym (told_on_sheet s i x y k l) ∙ e) in
        subst (λ (r : Points). CornersExact (corners_replied (accepted r)) r) q
        (points_exact x y j.header (hazard_at j i) (adjacent_traffic j.header (hazard_at j i).side) k l (own_fits s j i a))

-- Worked jobs, one theorem over the list.
pub corner_cases_hold : map drawn_corners corner_cases ≡ map expected_corners corner_cases
unfolding header hazard corner_cases drawn_corners expected_corners corners_of approached_hazard approach_points upstream_offset flare_entered length_before write_numbers
    some_of filter write_in write_number scan read_number number_at ceil_div formula_length approach_length next_multiple raised_length shared_ranges header_ranges
    hazard_ranges read_fields read_header read_hazards read_rest read_job adjacent_traffic farther reach_of offset_of reaches reached lengthening stands_near test_hazard
    test_hazards accept_job
corner_cases_hold = refl
