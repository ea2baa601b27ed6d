-- The odometer: a turn keeps the counts and their total, which is that of the layout at the place.
-- Assumes nothing.
use Prim.Native.Nat.{ℕ, zero, suc, ◌+◌, ◌-◌, ◌*◌, ◌/◌, ◌%◌, ◌≤◌, ◌<◌}
use native.Mathlib.Omega.{arith}
use native.Mathlib.Nat.{mul-le-mul, add-mul}
use native.Mathlib.Decide.{dec_lt}
use mathlib.Core.Path.{◌≡◌, refl, ap}
use mathlib.Core.List.{List, [], ◌∷◌}
use lib.ListN.{length, get_or}
use borrow.Author.Tests.{lt-ltb, le-ltb}
use Rattle.base.proofs.ListLaws.{get_d_member}
use Rattle.panels.specs.declared.odometer.Lengths.{Lengths}
use Rattle.panels.specs.declared.odometer.Odometer.{Odometer}
use Rattle.panels.specs.Layout.{total}
use Rattle.panels.specs.Promised.{StockLengths}
use Rattle.panels.specs.Steps.{layout_at, counts_shown, length_back, four_lengths, LengthsFit, Shows, ShowsLayout}

-- The lengths from the last one back

pub four_fit : (ls : List ℕ) → StockLengths ls → LengthsFit (four_lengths ls)
four_fit ls y = record { first = back 3; second = back 2; third = back 1; last = back 0 }
  where
    back : (n : ℕ) → length_back ls n ≤ 20000
    back n = go (dec_lt n (length ls))
      where
        go : Dec (n < length ls) → length_back ls n ≤ 20000
        go (yes h) = rw (lt-ltb n (length ls) h) (y.to (get_or ls (length ls - 1 - n) 0) (get_d_member ls (length ls - 1 - n) 0 (omega arith)))
        go (no h) = rw (le-ltb n (length ls) (omega arith)) (omega arith)

-- The layout shown

-- At the first place all counts are 0.
pub shows_first : (l : Lengths) → Shows l 0 (record { first = 0; second = 0; third = 0; last = 0; total = 0 })
shows_first l = record { first = refl; second = refl; third = refl; last = refl; total = omega arith }

-- The total carried along is that of the layout, of one to four lengths.
pub shows_total : (ls : List ℕ) (place : ℕ) (o : Odometer) → 1 ≤ length ls → length ls ≤ 4 → place < 65536 → Shows (four_lengths ls) place o
    → total ls (layout_at (length ls) place) ≡ o.total
unfolding total layout_at
shows_total [] p o h l b s = absurd (omega arith)
shows_total (a ∷ []) p o h l b s = rw (s.total, s.first, s.second, s.third, s.last) (omega arith)
shows_total (a ∷ b ∷ []) p o h l n s = rw (s.total, s.first, s.second, s.third, s.last) (omega arith)
shows_total (a ∷ b ∷ d ∷ []) p o h l n s = rw (s.total, s.first, s.second, s.third, s.last) (omega arith)
shows_total (a ∷ b ∷ d ∷ e ∷ []) p o h l n s =
    let top : p / 16 / 16 / 16 % 16 ≡ p / 16 / 16 / 16 = omega arith in
    rw (s.total, s.first, s.second, s.third, s.last, top) (omega arith)
shows_total (a ∷ b ∷ d ∷ e ∷ f ∷ m) p o h l n s = absurd (omega arith)

-- What it shows is the layout at the place, of one to four lengths.
pub shows_counts : (number : ℕ) {l : Lengths} (place : ℕ) (o : Odometer) → 1 ≤ number → number ≤ 4 → place < 65536 → Shows l place o
    → counts_shown number o ≡ layout_at number place
unfolding layout_at
shows_counts zero p o h n b s = absurd (omega arith)
shows_counts (suc zero) p o h n b s = rw s.last
shows_counts (suc (suc zero)) p o h n b s = rw (s.third, s.last)
shows_counts (suc (suc (suc zero))) p o h n b s = rw (s.second, s.third, s.last)
shows_counts (suc (suc (suc (suc zero)))) p o h n b s =
    let top : p / 16 / 16 / 16 % 16 ≡ p / 16 / 16 / 16 = omega arith in
    rw (s.first, s.second, s.third, s.last, top)
shows_counts (suc (suc (suc (suc (suc k))))) p o h n b s = absurd (omega arith)

-- A turn

-- What the total has of the counts that are 15, and how great it may be.
pub record TotalFits (l : Lengths) (o : Odometer) : Type 0 where
  pub few : o.first ≤ 15
  pub total : o.total ≤ 1200000
  pub last : 15 ≤ o.last → 15 * l.last ≤ o.total
  pub third : 15 ≤ o.last → 15 ≤ o.third → 15 * l.last + 15 * l.third ≤ o.total
  pub second : 15 ≤ o.last → 15 ≤ o.third → 15 ≤ o.second → 15 * l.last + 15 * l.third + 15 * l.second ≤ o.total

-- A count of 15 of a length.
full : (count length : ℕ) → 15 ≤ count → 15 * length ≤ count * length
full count length h = mul-le-mul {n₁ = 15} {m₁ = length} {n₂ = count} {m₂ = length} h (omega arith)

most : (count length : ℕ) → count ≤ 15 → length ≤ 20000 → count * length ≤ 15 * 20000
most count length c l = mul-le-mul {n₁ = count} {m₁ = length} {n₂ = 15} {m₂ = 20000} c l

pub total_fits : (l : Lengths) (o : Odometer) → LengthsFit l → ShowsLayout l o → TotalFits l o
total_fits l o f w =
    let s = w.shows in
    let b = w.below in
    let p1 = most o.first l.first (omega arith) f.first in
    let p2 = most o.second l.second (omega arith) f.second in
    let p3 = most o.third l.third (omega arith) f.third in
    let p4 = most o.last l.last (omega arith) f.last in
    record {
      few = omega arith;
      total = omega arith;
      last = λ h. omega (arith, full o.last l.last h);
      third = λ h k. omega (arith, full o.last l.last h, full o.third l.third k);
      second = λ h k m. omega (arith, full o.last l.last h, full o.third l.third k, full o.second l.second m);
    }

module _ (l : Lengths) (o : Odometer) (p : ℕ) (s : Shows l p o) where
  -- The last count goes up.
  pub last_up : o.last < 15 → Shows l (p + 1)
      (record { first = o.first; second = o.second; third = o.third; last = o.last + 1; total = o.total + l.last })
  last_up h =
      record {
        first = omega arith;
        second = omega arith;
        third = omega arith;
        last = omega arith;
        total = omega (arith, s.total, add-mul o.last 1 l.last);
      }

  -- Of a count that is 15 nothing is left.
  spent : (count length : ℕ) → count ≡ 15 → count * length ≡ 15 * length
  spent count length e = ap (λ (n : ℕ). n * length) e

  pub third_up : 15 ≤ o.last → o.third < 15
      → Shows l (p + 1) (record { first = o.first; second = o.second; third = o.third + 1; last = 0; total = o.total - 15 * l.last + l.third })
  third_up h k =
      record {
        first = omega arith;
        second = omega arith;
        third = omega arith;
        last = omega arith;
        total = omega (arith, s.total, spent o.last l.last (omega arith), add-mul o.third 1 l.third);
      }

  pub second_up : 15 ≤ o.last → 15 ≤ o.third → o.second < 15
      → Shows l (p + 1) (record { first = o.first; second = o.second + 1; third = 0; last = 0; total = o.total - 15 * l.last - 15 * l.third + l.second })
  second_up h k m =
      record {
        first = omega arith;
        second = omega arith;
        third = omega arith;
        last = omega arith;
        total = omega (arith, s.total, spent o.last l.last (omega arith), spent o.third l.third (omega arith), add-mul o.second 1 l.second);
      }

  pub first_up : 15 ≤ o.last → 15 ≤ o.third → 15 ≤ o.second
      → Shows l (p + 1) (record {
        first = o.first + 1;
        second = 0;
        third = 0;
        last = 0;
        total = o.total - 15 * l.last - 15 * l.third - 15 * l.second + l.first;
      })
  first_up h k m =
      record {
        first = omega arith;
        second = omega arith;
        third = omega arith;
        last = omega arith;
        total =
            omega (
              arith,
              s.total,
              spent o.last l.last (omega arith),
              spent o.third l.third (omega arith),
              spent o.second l.second (omega arith),
              add-mul o.first 1 l.first,
            );
      }
