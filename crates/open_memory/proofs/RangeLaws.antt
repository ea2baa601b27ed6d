-- The code's tests of ranges, beside each other and without those that always pass, are the tables'.
-- Assumes nothing.
use Prim.Native.Nat.{ℕ, ◌≤◌, ◌<◌}
use native.Mathlib.Omega.{arith}
use native.Mathlib.Decide.{ℕ_discrete}
use mathlib.Core.Path.{◌≡◌, refl, sym, ap, ◌∙◌}
use mathlib.Core.Bool.{Bool, true, false, ◌&&◌, ◌||◌, and_assoc, and-true}
use mathlib.Core.List.{List, [], ◌∷◌, ◌++◌}
use lib.Dec.{leb, ltb, eqb}
use borrow.Author.Tests.{le-leb, lt-ltb, ltb-true, eq-eqb, ne_eqb}
use Rattle.std.proofs.lemmas.Bool.{and_from, and_parts, both_ways}
use Rattle.job.specs.declared.Header.{Header}
use Rattle.job.specs.declared.Hazard.{Hazard}
use Rattle.job.specs.declared.Bounds.{Bounds}
use Rattle.job.specs.Job.{within, shared_ranges, header_ranges, next_in_header, shared_numbers, counted}
use Rattle.job.specs.Writing.{last_numbers}
use Rattle.job.specs.Fits.{in_ranges, header_in_range, hazard_in_range, HeaderFits}
use Rattle.job.proofs.RangeLaws.{from_zero, ranges_parts, ranges_high, HazardBounds, hazard_bounds}
use Rattle.open_memory.specs.Steps.{last_in_range}

-- Tests, one behind the other.
all_true : List Bool → Bool
all_true [] = true
all_true (b ∷ bs) = b && all_true bs

abbrev and_all : Bool → List Bool → Bool
and_all b [] = b
and_all b (c ∷ cs) = and_all (b && c) cs

and_all_lem : (b : Bool) (bs : List Bool) → and_all b bs ≡ (b && all_true bs)
unfolding all_true
and_all_lem b [] = sym (and-true b)
and_all_lem b (c ∷ cs) = and_all_lem (b && c) cs ∙ and_assoc b c (all_true cs)

-- Two of each number.
module _ (range_of : List ℕ → Bounds) where
  abbrev range_tests : (got xs : List ℕ) → List Bool
  range_tests got [] = []
  range_tests got (x ∷ xs) = leb (range_of got).low x ∷ leb x (range_of got).high ∷ range_tests (got ++ x ∷ []) xs

  all_tests : (got xs : List ℕ) → all_true (range_tests got xs) ≡ in_ranges range_of got xs
  unfolding all_true in_ranges
  all_tests got [] = refl
  all_tests got (x ∷ xs) =
      sym (and_assoc (leb (range_of got).low x) (leb x (range_of got).high) (all_true (range_tests (got ++ x ∷ []) xs)))
      ∙ ap (λ (b : Bool). within (range_of got) x && b) (all_tests (got ++ x ∷ []) xs)

  pub in_ranges_lem : (got xs : List ℕ) → and_all true (range_tests got xs) ≡ in_ranges range_of got xs
  in_ranges_lem got xs = and_all_lem true (range_tests got xs) ∙ all_tests got xs

-- The header

-- The thirteen numbers that every kind has, and then the others.
pub header_parts : (h : Header) → header_in_range h ≡ (in_ranges next_in_header [] (shared_numbers h) && last_in_range h)
unfolding header_in_range last_in_range
header_parts h =
    let plain = eqb h.kind 2 || eqb h.panel 1 in
    ap (λ (b : Bool). b && plain) (ranges_parts next_in_header [] (shared_numbers h) (last_numbers h))
    ∙ and_assoc (in_ranges next_in_header [] (shared_numbers h)) (in_ranges next_in_header (shared_numbers h) (last_numbers h)) plain

-- A road that begins behind the last station but one is out of range.
pub begin_out : (h : Header) → 999999999999 < h.begin → in_ranges next_in_header [] (shared_numbers h) ≡ false
unfolding header_ranges shared_ranges
begin_out h l = go (in_ranges next_in_header [] (shared_numbers h)) refl
  where
    go : (b : Bool) → in_ranges next_in_header [] (shared_numbers h) ≡ b → b ≡ false
    go true e = absurd (omega (arith, ranges_high next_in_header (shared_numbers h) e 1 (omega arith)))
    go false e = refl

-- The last numbers of a header, by kind.
pub last_of_two : (h : Header) → h.kind ≡ 2 → ((leb 1 h.panel && leb h.panel 10000) && leb h.count 256) ≡ last_in_range h
unfolding last_in_range in_ranges header_ranges shared_ranges
last_of_two h two = simp (eq-eqb h.kind 2 two, from_zero, and-true)

pub last_of_one : (h : Header) → (h.kind ≡ 2 → ⊥) → (leb h.count 256 && eqb h.panel 1) ≡ last_in_range h
unfolding last_in_range in_ranges header_ranges shared_ranges
last_of_one h other = simp (ne_eqb h.kind 2 other, from_zero, and-true)

-- With another hazard count the header fits too.
last_counted : (h : Header) (n : ℕ) → last_in_range h ≡ true → n ≤ 256 → last_in_range (counted h n) ≡ true
last_counted h n last few = go (ℕ_discrete h.kind 2)
  where
    go : Dec (h.kind ≡ 2) → last_in_range (counted h n) ≡ true
    go (yes two) = sym (last_of_two (counted h n) two)
        ∙ and_from _ _ ((and_parts (leb 1 h.panel && leb h.panel 10000) (leb h.count 256) (last_of_two h two ∙ last)).0) (le-leb n 256 few)
    go (no other) =
        sym (last_of_one (counted h n) other) ∙ and_from _ _ (le-leb n 256 few) ((and_parts (leb h.count 256) (eqb h.panel 1) (last_of_one h other ∙ last)).1)

pub counted_fits : (h : Header) (n : ℕ) → HeaderFits h → n ≤ 256 → HeaderFits (counted h n)
counted_fits h n fits few =
    let shared = in_ranges next_in_header [] (shared_numbers h) in
    let both : shared && last_in_range h ≡ true = sym (header_parts h) ∙ fits in
    header_parts (counted h n) ∙ and_from _ _ ((and_parts shared (last_in_range h) both).0) (last_counted h n ((and_parts shared (last_in_range h) both).1) few)

-- A hazard

-- Numbers that fit the widths of a stored hazard.
pub record Narrow (z : Hazard) : Type 0 where
  pub side : z.side < 256
  pub near : z.near < 65536
  pub far : z.far < 65536
  pub level : z.level < 256

-- The code's test of it.
abbrev is_narrow : Hazard → Bool
is_narrow z = ((ltb z.side 256 && ltb z.near 65536) && ltb z.far 65536) && ltb z.level 256

all_four : (a b c d : Bool) → ((a && b) && c) && d ≡ true → (a ≡ true) × (b ≡ true) × (c ≡ true) × (d ≡ true)
all_four a b c d e =
    let three = (and_parts ((a && b) && c) d e).0 in
    let two = (and_parts (a && b) c three).0 in
    ((and_parts a b two).0, (and_parts a b two).1, (and_parts (a && b) c three).1, (and_parts ((a && b) && c) d e).1)

pub narrow : (z : Hazard) → is_narrow z ≡ true → Narrow z
narrow z e =
    let t = all_four (ltb z.side 256) (ltb z.near 65536) (ltb z.far 65536) (ltb z.level 256) e in
    record { side = ltb-true _ _ t.0; near = ltb-true _ _ t.1; far = ltb-true _ _ t.2; level = ltb-true _ _ t.3 }

-- Where one does not, it is out of its range.
pub wide_out : (h : Header) (z : Hazard) → is_narrow z ≡ false → false ≡ hazard_in_range h z
wide_out h z e = go (hazard_in_range h z) refl
  where
    fit : HazardBounds h z → is_narrow z ≡ true
    fit b =
        rw (lt-ltb z.side 256 (omega arith), lt-ltb z.near 65536 (omega arith), lt-ltb z.far 65536 (omega arith), lt-ltb z.level 256 (omega arith))

    go : (b : Bool) → hazard_in_range h z ≡ b → false ≡ b
    go true r = absurd (both_ways _ e (fit (hazard_bounds h z r)))
    go false r = refl
