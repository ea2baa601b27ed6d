-- The test of the places without a branch is the memory's.
-- Assumes nothing.
use Rattle.std.specs.Prelude.{Some, None, if◌then◌else◌}
use Prim.Native.Nat.{ℕ, zero, suc, ◌+◌, ◌≤◌, ◌<◌, min}
use native.Mathlib.Omega.{arith}
use native.Mathlib.Decide.{dec_lt}
use mathlib.Core.Path.{◌≡◌, refl, sym, ap, ap₂, ◌∙◌}
use mathlib.Core.Bool.{Bool, true, false, ◌&&◌, not, and_assoc, and-true}
use mathlib.Core.List.{List, [], ◌∷◌}
use lib.ListN.{length, take, drop, get_or}
use lib.Dec.{leb, ltb, eqb}
use lib.Bits.{bit_or, or_add_and, and_le_l, and_le_r}
use borrow.Author.Tests.{lt-ltb, le-leb, le-ltb, leb-true, ltb-true, ltb-false, eqb-true, eq-eqb}
use Rattle.base.specs.Choice.{all_of}
use Rattle.base.specs.Answer.{is_accepted}
use Rattle.base.proofs.TestLaws.{same_test, not_and, not_and_intro}
use Rattle.std.proofs.lemmas.Bool.{and_from, and_parts, both_ways}
use Rattle.refusal.specs.Refusal.{unless_refuse}
use Rattle.refusal.specs.declared.Refusal.TheVariants as Row
use Rattle.job.specs.declared.Header.{Header}
use Rattle.job.specs.declared.Hazard.{Hazard}
use Rattle.job.specs.declared.NamedHazard.{NamedHazard}
use Rattle.job.specs.declared.StoredJob.{StoredJob}
use Rattle.job.specs.Job.{unnamed, counted, hazard_ranges}
use Rattle.job.specs.Reply.{unused}
use Rattle.job.specs.Fits.{in_ranges, header_in_range, hazard_in_range, HeaderFits}
use Rattle.job.proofs.RangeLaws.{from_zero, below_next, to_last, header_bounds, hazard_bounds}
use Rattle.planning.specs.Envelope.{stands_near, test_hazard}
use Rattle.planning.proofs.TestedLaws.{near_numbers}
use Rattle.open_memory.specs.declared.rules.Limits.{Limits}
use Rattle.open_memory.specs.Memory.{greatest_name, admit, admissible, is_unused, is_open_job}
use Rattle.open_memory.specs.Steps.{in_order_from, all_in_order, own_limits, limits_of, in_limits, next_low, low_after, rest_of, with_bits, bits_after, places_pass}
use Rattle.open_memory.proofs.RuleLaws.{unused_are}
use Rattle.open_memory.proofs.RangeLaws.{counted_fits}
use Rattle.open_memory.proofs.OrderLaws.{by_order, open_not_header}

-- One place

-- The step of the code.
module _ (l : Limits) (low : ℕ) (p : NamedHazard) (top : p.name ≤ greatest_name) where
  named_test : (leb low p.name && leb p.name greatest_name && in_limits l p) ≡ (leb low p.name && in_limits l p)
  named_test = rw (le-leb p.name greatest_name top, and-true (leb low p.name))

  pub low_next : leb low p.name && in_limits l p ≡ true → p.name + 1 ≡ next_low l low p
  unfolding next_low
  low_next e = rw (named_test ∙ e)

  pub low_broken : leb low p.name && in_limits l p ≡ false → 65537 ≡ next_low l low p
  unfolding next_low
  low_broken e = rw (named_test ∙ e)

-- The lesser of two bounds leaves a number alone exactly if not both lie above it.
least : (n a b : ℕ) → leb (min a b) n ≡ not (ltb n a && ltb n b)
least n a b = same_test (leb (min a b) n) (not (ltb n a && ltb n b))
    (λ e. let below : min a b ≤ n = leb-true _ _ e in not_and_intro (ltb n a) (ltb n b) (λ r. let over : n < a = ltb-true _ _ r in le-ltb n b (omega arith)))
    (λ e. le-leb (min a b) n (go (dec_lt n a) e))
  where
    go : Dec (n < a) → not (ltb n a && ltb n b) ≡ true → min a b ≤ n
    go (yes l) e = let under : b ≤ n = ltb-false _ _ (not_and (ltb n a) (ltb n b) e (lt-ltb n a l)) in omega arith
    go (no l) e = omega arith

-- A hazard that could be added is one that keeps to the limits.
module _ (h : Header) (fits : HeaderFits h) where
  -- The limits of a header that fits.
  abbrev limits : Limits
  limits = own_limits h

  module _ (p : NamedHazard) where
    abbrev z : Hazard
    z = unnamed p

    ranges : (leb z.side 1 && leb h.begin z.start && ltb z.start h.end && ltb z.start z.end && leb z.end h.end && leb z.near 60000
        && leb z.near z.far && leb z.far 60000 && leb 1 z.level && leb z.level 6) ≡ hazard_in_range h z
    unfolding hazard_in_range in_ranges hazard_ranges
    ranges = simp (and_assoc, from_zero, below_next, and-true, to_last z.start h.end (omega (arith, (header_bounds h fits).road)))

    may_ranged : hazard_in_range h z ≡ true → not (stands_near h z) ≡ admissible h p
    unfolding admit test_hazard
    may_ranged e = rw e (go (not (stands_near h z)))
      where
        go : (b : Bool) → b ≡ is_accepted (unless_refuse b (Row.NearBarrier p.name))
        go true = refl
        go false = refl

    may_unranged : hazard_in_range h z ≡ false → false ≡ admissible h p
    unfolding admit
    may_unranged e = rw e

    -- What is in the limits is in its ranges.
    limits_ranged : in_limits limits p ≡ true → hazard_in_range h z ≡ true
    unfolding in_limits
    limits_ranged e =
        let a1 = leb p.side 1 in
        let a2 = a1 && leb h.begin p.start in
        let a3 = a2 && ltb p.start p.end in
        let a4 = a3 && leb p.end h.end in
        let a5 = a4 && leb (min h.zone (h.offset + h.deflection)) p.near in
        let a6 = a5 && leb p.near p.far in
        let a7 = a6 && leb p.far 60000 in
        let a8 = a7 && leb 1 p.level in
        let e8 = (and_parts a8 (leb p.level 6) e).0 in
        let e7 = (and_parts a7 (leb 1 p.level) e8).0 in
        let e6 = (and_parts a6 (leb p.far 60000) e7).0 in
        let e5 = (and_parts a5 (leb p.near p.far) e6).0 in
        let e4 = (and_parts a4 (leb (min h.zone (h.offset + h.deflection)) p.near) e5).0 in
        let e3 = (and_parts a3 (leb p.end h.end) e4).0 in
        let e2 = (and_parts a2 (ltb p.start p.end) e3).0 in
        let long : p.start < p.end = ltb-true _ _ ((and_parts a2 (ltb p.start p.end) e3).1) in
        let ends : p.end ≤ h.end = leb-true _ _ ((and_parts a3 (leb p.end h.end) e4).1) in
        let far : p.near ≤ p.far = leb-true _ _ ((and_parts a5 (leb p.near p.far) e6).1) in
        let top : p.far ≤ 60000 = leb-true _ _ ((and_parts a6 (leb p.far 60000) e7).1) in
        sym ranges ∙ rw (
          (and_parts a1 (leb h.begin p.start) e2).0,
          (and_parts a1 (leb h.begin p.start) e2).1,
          lt-ltb p.start h.end (omega arith),
          (and_parts a2 (ltb p.start p.end) e3).1,
          (and_parts a3 (leb p.end h.end) e4).1,
          le-leb p.near 60000 (omega arith),
          (and_parts a5 (leb p.near p.far) e6).1,
          (and_parts a6 (leb p.far 60000) e7).1,
          (and_parts a7 (leb 1 p.level) e8).1,
          (and_parts a8 (leb p.level 6) e).1,
        )

    ranged_limits : hazard_in_range h z ≡ true → in_limits limits p ≡ not (stands_near h z)
    unfolding in_limits
    ranged_limits e =
        let b = hazard_bounds h z e in
        simp (
          le-leb p.side 1 b.side,
          le-leb h.begin p.start b.begins,
          lt-ltb p.start p.end b.long,
          le-leb p.end h.end b.ends,
          le-leb p.near p.far b.offsets,
          le-leb p.far 60000 b.far_top,
          le-leb 1 p.level b.level_low,
          le-leb p.level 6 b.level_top,
          and-true,
        )
        (least p.near h.zone (h.offset + h.deflection) ∙ ap not (near_numbers h z b.side))

    pub in_limits_lem : in_limits limits p ≡ admissible h p
    in_limits_lem = go (hazard_in_range h z) refl
      where
        go : (b : Bool) → hazard_in_range h z ≡ b → in_limits limits p ≡ admissible h p
        go true e = ranged_limits e ∙ may_ranged e
        go false e = out (in_limits limits p) refl ∙ may_unranged e
          where
            out : (c : Bool) → in_limits limits p ≡ c → c ≡ false
            out true i = absurd (both_ways _ e (limits_ranged i))
            out false i = refl

  -- The names rise, and the hazards could be added, where no place raised the least name above every name.

  pub broken : (l : Limits) (ps : List NamedHazard) → low_after l 65537 ps ≡ 65537
  unfolding low_after next_low
  broken l [] = refl
  broken l (p ∷ ps) = ap (λ (n : ℕ). low_after l n ps) (sym (go (leb 65537 p.name && leb p.name greatest_name) refl)) ∙ broken l ps
    where
      go : (b : Bool) → (leb 65537 p.name && leb p.name greatest_name) ≡ b → 65537 ≡ (if b && in_limits l p then p.name + 1 else 65537)
      go true e =
          let up : 65537 ≤ p.name = leb-true _ _ ((and_parts (leb 65537 p.name) (leb p.name greatest_name) e).0) in
          let top : p.name ≤ 65535 = leb-true _ _ ((and_parts (leb 65537 p.name) (leb p.name greatest_name) e).1) in
          absurd (omega arith)
      go false e = refl

  pub low_after_lem : (low : ℕ) (ps : List NamedHazard) → low ≤ 65536 → leb (low_after limits low ps) 65536 ≡ all_in_order h low ps
  unfolding low_after all_in_order next_low in_order_from
  low_after_lem low [] few = le-leb low 65536 few
  low_after_lem low (p ∷ ps) few = go (leb low p.name && leb p.name greatest_name && in_limits limits p) refl (low_after_lem (p.name + 1) ps)
    where
      test : (leb low p.name && leb p.name greatest_name && in_limits limits p) ≡ in_order_from h low p
      test = ap (λ (b : Bool). leb low p.name && leb p.name greatest_name && b) (in_limits_lem p)

      go : (b : Bool) → (leb low p.name && leb p.name greatest_name && in_limits limits p) ≡ b
          → (p.name + 1 ≤ 65536 → leb (low_after limits (p.name + 1) ps) 65536 ≡ all_in_order h (p.name + 1) ps)
          → leb (low_after limits (next_low limits low p) ps) 65536 ≡ (in_order_from h low p && all_in_order h (p.name + 1) ps)
      go true e rest =
          let top : p.name ≤ 65535 = leb-true _ _ ((and_parts (leb low p.name) (leb p.name greatest_name) ((and_parts _ (in_limits limits p) e).0)).1) in
          rw (sym test ∙ e, e) (rest (omega arith))
      go false e rest = rw (sym test ∙ e, e, broken limits ps)

-- Zeros

either_bits : (a b : ℕ) → eqb (bit_or a b) 0 ≡ (eqb a 0 && eqb b 0)
either_bits a b = same_test (eqb (bit_or a b) 0) (eqb a 0 && eqb b 0) to from
  where
    to : eqb (bit_or a b) 0 ≡ true → eqb a 0 && eqb b 0 ≡ true
    to e =
        let none : bit_or a b ≡ 0 = eqb-true _ _ e in
        let one : a ≡ 0 = omega (arith, or_add_and a b, and_le_r a b) in
        let other : b ≡ 0 = omega (arith, or_add_and a b, and_le_l a b) in
        and_from _ _ (eq-eqb a 0 one) (eq-eqb b 0 other)

    from : eqb a 0 && eqb b 0 ≡ true → eqb (bit_or a b) 0 ≡ true
    from e =
        let one : a ≡ 0 = eqb-true _ _ ((and_parts (eqb a 0) (eqb b 0) e).0) in
        let other : b ≡ 0 = eqb-true _ _ ((and_parts (eqb a 0) (eqb b 0) e).1) in
        eq-eqb (bit_or a b) 0 (ap₂ bit_or one other)

-- Numbers side by side are 0 exactly if each is.
place_unused : (p : NamedHazard) → (eqb p.start 0 && eqb p.end 0 && eqb (rest_of p) 0) ≡ is_unused p
unfolding is_unused all_of
place_unused p = same_test (zeros p) (is_unused p) to from
  where
    zeros : NamedHazard → Bool
    zeros q = eqb q.start 0 && eqb q.end 0 && eqb (rest_of q) 0

    to : zeros p ≡ true → is_unused p ≡ true
    to e =
        let two = (and_parts (eqb p.start 0 && eqb p.end 0) (eqb (rest_of p) 0) e).0 in
        let rest : rest_of p ≡ 0 = eqb-true _ _ ((and_parts (eqb p.start 0 && eqb p.end 0) (eqb (rest_of p) 0) e).1) in
        let zero : (x : ℕ) → x ≡ 0 → eqb x 0 ≡ true = λ x. eq-eqb x 0 in
        rw (
          (and_parts (eqb p.start 0) (eqb p.end 0) two).0,
          (and_parts (eqb p.start 0) (eqb p.end 0) two).1,
          zero p.near (omega arith),
          zero p.far (omega arith),
          zero p.name (omega arith),
          zero p.side (omega arith),
          zero p.level (omega arith),
        )

    from : is_unused p ≡ true → zeros p ≡ true
    from e = ap zeros (let all = unused_are (p ∷ []) (and_from (is_unused p) _ e refl) in let own : p ≡ unused = cc in own)

place_bits : (bits : ℕ) (p : NamedHazard) → eqb (with_bits bits p) 0 ≡ (eqb bits 0 && is_unused p)
unfolding with_bits
place_bits bits p =
    let one = bit_or bits p.start in
    let two = bit_or one p.end in
    either_bits two (rest_of p)
    ∙ ap (λ (b : Bool). b && eqb (rest_of p) 0) (either_bits one p.end ∙ ap (λ (b : Bool). b && eqb p.end 0) (either_bits bits p.start))
    ∙ and_assoc (eqb bits 0 && eqb p.start 0) (eqb p.end 0) (eqb (rest_of p) 0)
    ∙ and_assoc (eqb bits 0) (eqb p.start 0) (eqb p.end 0 && eqb (rest_of p) 0)
    ∙ ap (λ (b : Bool). eqb bits 0 && b) (sym (and_assoc (eqb p.start 0) (eqb p.end 0) (eqb (rest_of p) 0)) ∙ place_unused p)

pub bits_after_lem : (bits : ℕ) (ps : List NamedHazard) → eqb (bits_after bits ps) 0 ≡ (eqb bits 0 && all_of is_unused ps)
unfolding bits_after all_of
bits_after_lem bits [] = sym (and-true (eqb bits 0))
bits_after_lem bits (p ∷ ps) =
    bits_after_lem (with_bits bits p) ps ∙ ap (λ (b : Bool). b && all_of is_unused ps) (place_bits bits p) ∙ and_assoc (eqb bits 0) (is_unused p) (all_of is_unused ps)

-- The limits of a header: its numbers are in their ranges, or there are none.
limits_told : (h : Header) (l : Limits) → Some l ≡ limits_of h → (header_in_range (counted h 0) ≡ true) × (l ≡ own_limits h)
unfolding limits_of
limits_told h l = go (header_in_range (counted h 0))
  where
    go : (b : Bool) → Some l ≡ (if b then Some (own_limits h) else None) → (b ≡ true) × (l ≡ own_limits h)
    go true e = (refl, cc)
    go false e = cc

limits_none : (h : Header) → None ≡ limits_of h → header_in_range (counted h 0) ≡ false
unfolding limits_of
limits_none h = go (header_in_range (counted h 0))
  where
    go : (b : Bool) → None ≡ (if b then Some (own_limits h) else None) → b ≡ false
    go true e = cc
    go false e = refl

-- The memory

module _ (h : Header) (n : ℕ) (ps : List NamedHazard) where
  -- A state with another hazard count than its header's.
  abbrev state : StoredJob
  state = record { header = counted h n; hazards = ps }

  pub state_sound : (l : Limits) → Some l ≡ limits_of h → n ≤ 256 → places_pass l n ps ≡ is_open_job state
  unfolding places_pass
  state_sound l e few =
      let told = limits_told h l e in
      let fits : HeaderFits (counted h n) = counted_fits (counted h 0) n told.0 few in
      rw told.1 (ap₂ ◌&&◌ (low_after_lem (counted h n) fits 0 (take n ps) (omega arith)) (bits_after_lem 0 (drop n ps)) ∙ sym (by_order state fits))

  pub state_none : None ≡ limits_of h → false ≡ is_open_job state
  state_none e = go (header_in_range (counted h n)) refl
    where
      go : (b : Bool) → header_in_range (counted h n) ≡ b → false ≡ is_open_job state
      go true r = absurd (both_ways _ (limits_none h e) (counted_fits (counted h n) 0 r (omega arith)))
      go false r = open_not_header state r

  pub state_many : leb n 256 ≡ false → false ≡ is_open_job state
  state_many e = go (header_in_range (counted h n)) refl
    where
      go : (b : Bool) → header_in_range (counted h n) ≡ b → false ≡ is_open_job state
      go true r = absurd (both_ways _ e (le-leb n 256 (header_bounds (counted h n) r).count))
      go false r = open_not_header state r

-- A turn of each loop: one place more.
pub low_turn : (l : Limits) (low : ℕ) (ps : List NamedHazard) (i : ℕ) → i < length ps
    → low_after l low (take (suc i) ps) ≡ next_low l (low_after l low (take i ps)) (get_or ps i unused)
unfolding low_after
low_turn l low [] i e = absurd (omega arith)
low_turn l low (p ∷ ps) zero e = refl
low_turn l low (p ∷ ps) (suc i) e = low_turn l (next_low l low p) ps i (omega arith)

pub bits_turn : (bits : ℕ) (ps : List NamedHazard) (i : ℕ) → i < length ps
    → bits_after bits (take (suc i) ps) ≡ with_bits (bits_after bits (take i ps)) (get_or ps i unused)
unfolding bits_after
bits_turn bits [] i e = absurd (omega arith)
bits_turn bits (p ∷ ps) zero e = refl
bits_turn bits (p ∷ ps) (suc i) e = bits_turn (with_bits bits p) ps i (omega arith)
