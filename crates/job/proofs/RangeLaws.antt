-- Numbers in their ranges: one by one and in parts; and what the tables say of a header and of a hazard that fit, as inequalities.
-- Assumes nothing.
use Rattle.std.specs.Prelude.{if◌then◌else◌}
use Prim.Native.Nat.{ℕ, zero, suc, ◌+◌, ◌-◌, ◌≤◌, ◌<◌, min}
use native.Mathlib.Omega.{arith}
use native.Mathlib.Decide.{dec_lt}
use mathlib.Core.Path.{◌≡◌, refl, sym, ap, ◌∙◌}
use mathlib.Core.Bool.{Bool, true, false, ◌&&◌, ◌||◌, and_assoc, false≢true}
use mathlib.Core.List.{List, [], ◌∷◌, ◌++◌, append_assoc, append-nil}
use lib.ListN.{length, get_or, take, drop}
use lib.Dec.{leb, ltb, eqb}
use borrow.Author.Tests.{leb-true, le-leb, lt-leb, lt-ltb, le-ltb, eqb-true}
use Rattle.base.specs.Choice.{all_of}
use Rattle.std.proofs.lemmas.Bool.{and_parts}
use Rattle.number.specs.Number.{greatest_number}
use Rattle.job.specs.declared.Header.{Header}
use Rattle.job.specs.declared.Hazard.{Hazard}
use Rattle.job.specs.declared.Bounds.{Bounds}
use Rattle.job.specs.Job.{within, ◌to◌, shared_ranges, header_ranges, hazard_ranges, next_in_header, next_in_hazard, shared_numbers}
use Rattle.job.specs.Writing.{last_numbers, header_numbers, hazard_numbers}
use Rattle.job.specs.Fits.{in_ranges, header_in_range, hazard_in_range, HeaderFits, HazardFits}

pub within_low : (r : Bounds) (x : ℕ) → within r x ≡ true → r.low ≤ x
within_low r x h = leb-true _ _ ((and_parts _ (leb x r.high) h).0)

pub within_high : (r : Bounds) (x : ℕ) → within r x ≡ true → x ≤ r.high
within_high r x h = leb-true _ _ ((and_parts (leb r.low x) _ h).1)

-- The code's tests of a range as the table's.
pub from_zero : (x : ℕ) → leb 0 x ≡ true
from_zero x = le-leb 0 x (omega arith)

-- A number is below another exactly if the next one is not above it, and so if it is not above the one before that.
pub below_next : (a b : ℕ) → ltb a b ≡ leb (a + 1) b
below_next a b = go (dec_lt a b)
  where
    go : Dec (a < b) → ltb a b ≡ leb (a + 1) b
    go (yes l) = lt-ltb a b l ∙ sym (le-leb (a + 1) b (omega arith))
    go (no l) = le-ltb a b (omega arith) ∙ sym (lt-leb (a + 1) b (omega arith))

pub to_last : (a b : ℕ) → 0 < b → leb a (b - 1) ≡ leb (a + 1) b
to_last a b some = go (dec_lt a b)
  where
    go : Dec (a < b) → leb a (b - 1) ≡ leb (a + 1) b
    go (yes l) = le-leb a (b - 1) (omega arith) ∙ sym (le-leb (a + 1) b (omega arith))
    go (no l) = lt-leb a (b - 1) (omega arith) ∙ sym (lt-leb (a + 1) b (omega arith))

-- What starts before an end that is not above b starts before b.
pub before_end : (a e b : ℕ) (others : Bool) → (leb (a + 1) b && (leb (a + 1) e && (leb e b && others))) ≡ (leb (a + 1) e && (leb e b && others))
before_end a e b others = spared (leb (a + 1) b) (leb (a + 1) e) (leb e b) (λ p q. le-leb (a + 1) b (omega (arith, leb-true (a + 1) e p, leb-true e b q)))
  where
    spared : (p q r : Bool) → (q ≡ true → r ≡ true → p ≡ true) → (p && (q && (r && others))) ≡ (q && (r && others))
    spared true q r h = refl
    spared false false r h = refl
    spared false true false h = refl
    spared false true true h = absurd (false≢true (h refl refl))

-- Numbers

module _ (range_of : List ℕ → Bounds) where
  pub ranges_cons : (got : List ℕ) (x : ℕ) (xs : List ℕ) → in_ranges range_of got (x ∷ xs) ≡ true
      → (within (range_of got) x ≡ true) × (in_ranges range_of (got ++ x ∷ []) xs ≡ true)
  unfolding in_ranges
  ranges_cons got x xs e =
      ((and_parts (within (range_of got) x) (in_ranges range_of (got ++ x ∷ []) xs) e).0, (and_parts (within (range_of got) x) (in_ranges range_of (got ++ x ∷ []) xs) e).1)

  -- The number at an index, by those before it.
  ranges_at : (got xs : List ℕ) → in_ranges range_of got xs ≡ true → (i : ℕ) → i < length xs → within (range_of (got ++ take i xs)) (get_or xs i 0) ≡ true
  ranges_at got [] e i l = absurd (omega arith)
  ranges_at got (x ∷ xs) e zero l = rw (append-nil got) (ranges_cons got x xs e).0
  ranges_at got (x ∷ xs) e (suc i) l = rw (append_assoc got (x ∷ []) (take i xs)) at (ranges_at (got ++ x ∷ []) xs (ranges_cons got x xs e).1 i (omega arith))

  pub ranges_low : (xs : List ℕ) → in_ranges range_of [] xs ≡ true → (i : ℕ) → i < length xs → (range_of (take i xs)).low ≤ get_or xs i 0
  ranges_low xs e i l = within_low (range_of (take i xs)) (get_or xs i 0) (ranges_at [] xs e i l)

  pub ranges_high : (xs : List ℕ) → in_ranges range_of [] xs ≡ true → (i : ℕ) → i < length xs → get_or xs i 0 ≤ (range_of (take i xs)).high
  ranges_high xs e i l = within_high (range_of (take i xs)) (get_or xs i 0) (ranges_at [] xs e i l)

  pub ranges_parts : (got xs ys : List ℕ) → in_ranges range_of got (xs ++ ys) ≡ (in_ranges range_of got xs && in_ranges range_of (got ++ xs) ys)
  unfolding in_ranges
  ranges_parts got [] ys = rw (append-nil got)
  ranges_parts got (x ∷ xs) ys =
      ap (λ (b : Bool). within (range_of got) x && b) (ranges_parts (got ++ x ∷ []) xs ys ∙ rw (append_assoc got (x ∷ []) xs))
      ∙ sym (and_assoc (within (range_of got) x) (in_ranges range_of (got ++ x ∷ []) xs) (in_ranges range_of (got ++ x ∷ xs) ys))

  pub ranges_split : (got xs ys : List ℕ) → in_ranges range_of got (xs ++ ys) ≡ true → (in_ranges range_of got xs ≡ true) × (in_ranges range_of (got ++ xs) ys ≡ true)
  ranges_split got xs ys e =
      let both : in_ranges range_of got xs && in_ranges range_of (got ++ xs) ys ≡ true = sym (ranges_parts got xs ys) ∙ e in
      ((and_parts (in_ranges range_of got xs) (in_ranges range_of (got ++ xs) ys) both).0, (and_parts (in_ranges range_of got xs) (in_ranges range_of (got ++ xs) ys) both).1)

-- Where a road that begins at A may end at most.
abbrev pub road_top : (A : ℕ) → ℕ
road_top A = min 1000000000000 (A + 2000000000)

-- A header

pub record HeaderBounds (h : Header) : Type 0 where
  pub kind_top : h.kind ≤ 2
  pub road : h.begin < h.end
  pub road_end : h.end ≤ 1000000000000
  pub road_length : h.end ≤ h.begin + 2000000000
  pub forward_low : 1 ≤ h.forward
  pub forward_top : h.forward ≤ 200000
  pub opposite_top : h.opposite ≤ 200000
  pub clear_top : h.zone ≤ 30000
  pub way_top : h.way ≤ 20000
  pub offset_top : h.offset ≤ 20000
  pub deflection_low : 1 ≤ h.deflection
  pub deflection_top : h.deflection ≤ 5000
  pub along_low : 1 ≤ h.along
  pub along_top : h.along ≤ 100
  pub across_top : h.across ≤ 10
  pub straight_top : h.straight ≤ 100000
  pub continuity_top : h.continuity ≤ 200000
  pub panel_low : 1 ≤ h.panel
  pub panel_top : h.panel ≤ 10000
  pub count : h.count ≤ 256

pub header_split : (h : Header) → HeaderFits h → (in_ranges next_in_header [] (header_numbers h) ≡ true) × (eqb h.kind 2 || eqb h.panel 1 ≡ true)
unfolding header_in_range
header_split h fits =
    let numbers = in_ranges next_in_header [] (header_numbers h) in
    let plain = eqb h.kind 2 || eqb h.panel 1 in
    ((and_parts numbers plain fits).0, (and_parts numbers plain fits).1)

pub header_bounds : (h : Header) → HeaderFits h → HeaderBounds h
unfolding header_ranges shared_ranges in_ranges
header_bounds h fits =
    let last = behind (eqb h.kind 2) refl parts.1 (header_split h fits).1 in
    record {
      kind_top = high 0 (omega arith);
      road = omega (arith, low 2 (omega arith));
      road_end = omega (arith, high 2 (omega arith));
      road_length = omega (arith, high 2 (omega arith));
      forward_low = low 3 (omega arith);
      forward_top = high 3 (omega arith);
      opposite_top = high 4 (omega arith);
      clear_top = high 5 (omega arith);
      way_top = high 6 (omega arith);
      offset_top = high 7 (omega arith);
      deflection_low = low 8 (omega arith);
      deflection_top = high 8 (omega arith);
      along_low = low 9 (omega arith);
      along_top = high 9 (omega arith);
      across_top = high 10 (omega arith);
      straight_top = high 11 (omega arith);
      continuity_top = high 12 (omega arith);
      panel_low = last.0;
      panel_top = last.1;
      count = last.2;
    }
  where
    parts : (in_ranges next_in_header [] (shared_numbers h) ≡ true) × (in_ranges next_in_header (shared_numbers h) (last_numbers h) ≡ true)
    parts = ranges_split next_in_header [] (shared_numbers h) (last_numbers h) (header_split h fits).0

    low : (i : ℕ) → i < 13 → (next_in_header (take i (shared_numbers h))).low ≤ get_or (shared_numbers h) i 0
    low = ranges_low next_in_header (shared_numbers h) parts.0

    high : (i : ℕ) → i < 13 → get_or (shared_numbers h) i 0 ≤ (next_in_header (take i (shared_numbers h))).high
    high = ranges_high next_in_header (shared_numbers h) parts.0

    behind : (t : Bool) → eqb h.kind 2 ≡ t → in_ranges next_in_header (shared_numbers h) (if t then h.panel ∷ h.count ∷ [] else h.count ∷ []) ≡ true
        → t || eqb h.panel 1 ≡ true
        → (1 ≤ h.panel) × (h.panel ≤ 10000) × (h.count ≤ 256)
    behind true e f p =
        let t = rw e at f in
        let panel = (and_parts (within (1 to 10000) h.panel) (within (0 to 256) h.count && true) t).0 in
        let count = (and_parts (within (0 to 256) h.count) true ((and_parts (within (1 to 10000) h.panel) (within (0 to 256) h.count && true) t).1)).0 in
        (within_low (1 to 10000) h.panel panel, within_high (1 to 10000) h.panel panel, within_high (0 to 256) h.count count)
    behind false e f p =
        let one = eqb-true h.panel 1 p in
        let t = rw e at f in
        (omega arith, omega arith, within_high (0 to 256) h.count ((and_parts (within (0 to 256) h.count) true t).0))

-- A hazard

pub record HazardBounds (h : Header) (z : Hazard) : Type 0 where
  pub side : z.side ≤ 1
  pub begins : h.begin ≤ z.start
  pub long : z.start < z.end
  pub ends : z.end ≤ h.end
  pub offsets : z.near ≤ z.far
  pub far_top : z.far ≤ 60000
  pub level_low : 1 ≤ z.level
  pub level_top : z.level ≤ 6

pub hazard_bounds : (h : Header) (z : Hazard) → HazardFits h z → HazardBounds h z
unfolding hazard_in_range hazard_ranges
hazard_bounds h z fits =
    record {
      side = high 0 (omega arith);
      begins = low 1 (omega arith);
      long = omega (arith, low 2 (omega arith));
      ends = high 2 (omega arith);
      offsets = low 4 (omega arith);
      far_top = high 4 (omega arith);
      level_low = low 5 (omega arith);
      level_top = high 5 (omega arith);
    }
  where
    low : (i : ℕ) → i < 6 → (next_in_hazard h (take i (hazard_numbers z))).low ≤ get_or (hazard_numbers z) i 0
    low = ranges_low (next_in_hazard h) (hazard_numbers z) fits

    high : (i : ℕ) → i < 6 → get_or (hazard_numbers z) i 0 ≤ (next_in_hazard h (take i (hazard_numbers z))).high
    high = ranges_high (next_in_hazard h) (hazard_numbers z) fits

-- No range of a list reaches beyond m.
pub highs_most : (m : ℕ) (rs : List Bounds) → all_of (λ (r : Bounds). leb r.high m) rs ≡ true → (k : ℕ) → (get_or rs k (0 to 0)).high ≤ m
unfolding all_of
highs_most m [] e k = omega arith
highs_most m (r ∷ rs) e zero = leb-true _ _ ((and_parts (leb r.high m) (all_of (λ (q : Bounds). leb q.high m) rs) e).0)
highs_most m (r ∷ rs) e (suc k) = highs_most m rs ((and_parts (leb r.high m) (all_of (λ (q : Bounds). leb q.high m) rs) e).1) k

pub header_most : (got : List ℕ) → (next_in_header got).high ≤ greatest_number
unfolding header_ranges shared_ranges all_of
header_most got = go (get_or got 0 0) (get_or got 1 0) (length got)
  where
    others : (t : Bool) → all_of (λ (r : Bounds). leb r.high greatest_number)
        (drop 3 (shared_ranges 0) ++ (if t then 1 to 10000 ∷ 0 to 256 ∷ [] else 0 to 256 ∷ [])) ≡ true
    others true = refl
    others false = refl

    go : (kind A k : ℕ) → (get_or (header_ranges kind A) k (0 to 0)).high ≤ greatest_number
    go kind A zero = omega arith
    go kind A (suc zero) = omega arith
    go kind A (suc (suc zero)) = omega arith
    go kind A (suc (suc (suc k))) = highs_most greatest_number (drop 3 (header_ranges kind 0)) (others (eqb kind 2)) k

pub hazard_most : (m : ℕ) (h : Header) → 60000 ≤ m → h.end ≤ m → (got : List ℕ) → (next_in_hazard h got).high ≤ m
unfolding hazard_ranges all_of
hazard_most m h others road got = go (get_or got 1 0) (get_or got 3 0) (length got)
  where
    go : (s n k : ℕ) → (get_or (hazard_ranges h.begin h.end s n) k (0 to 0)).high ≤ m
    go s n zero = omega arith
    go s n (suc zero) = omega arith
    go s n (suc (suc zero)) = omega arith
    go s n (suc (suc (suc k))) = omega (arith, highs_most 60000 (0 to 60000 ∷ n to 60000 ∷ 1 to 6 ∷ []) refl k)
