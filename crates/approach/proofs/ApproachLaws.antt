-- The approach length: the least whole number not below the rule's exact value; never longer than the formula alone, nor than L; its parts in the domain.
-- Assumes nothing.
use Rattle.std.specs.Prelude.{if◌then◌else◌}
use Prim.Native.Nat.{ℕ, suc, ◌+◌, ◌-◌, ◌*◌, ◌≤◌, ◌<◌}
use native.Mathlib.Omega.{arith}
use native.Mathlib.Nat.{mul-le-mul_left, mul-le-mul, le_of_mul-le-mul_left, lt_of_not-le}
use native.Mathlib.Decide.{dec_le}
use mathlib.Core.Path.{◌≡◌, ap, ◌∙◌, refl, sym}
use mathlib.Core.Logic.{◌↔◌, inl, inr, ⊎_elim}
use mathlib.Core.Bool.{Bool, true, false}
use lib.Dec.{leb}
use borrow.Author.Tests.{le-leb, lt-leb, leb-true, leb-false}
use Rattle.approach.specs.Approach.{formula_length, approach_length, BelowFormula, BelowRule, Domain}
use Rattle.approach.specs.Steps.{flare_across}
use Rattle.approach.proofs.FormulaLaws.{formula_below, flare_adds, flare_shortens, unflared_exactly}
use Rattle.base.proofs.OrderLaws.{le_of_not_lt}

-- The rule.
-- Its two cases.
module _ (a b T L R m : ℕ) where
  pub approach_unflared : formula_length a 0 T L R m ≤ T → approach_length a b T L R m ≡ formula_length a 0 T L R m
  unfolding approach_length
  approach_unflared l = simp (le-leb (formula_length a 0 T L R m) T l)

  pub approach_flared : T < formula_length a 0 T L R m → approach_length a b T L R m ≡ formula_length a b T L R m
  unfolding approach_length
  approach_flared l = simp (lt-leb (formula_length a 0 T L R m) T l)

-- With no flare at all, the formula stands.
pub approach_plain : (a T L R m : ℕ) → approach_length a 0 T L R m ≡ formula_length a 0 T L R m
approach_plain a T L R m = go (dec_le (formula_length a 0 T L R m) T)
  where
    go : Dec (formula_length a 0 T L R m ≤ T) → approach_length a 0 T L R m ≡ formula_length a 0 T L R m
    go (yes l) = approach_unflared a 0 T L R m l
    go (no l) = approach_flared a 0 T L R m (omega arith)

module _ (a b T L R m : ℕ) (some : 0 < a * R) where
  -- A whole number is below the length exactly if it is below the rule's length before rounding: with no division, by cases.
  pub approach_below : (d : ℕ) → (d < approach_length a b T L R m) ↔ BelowRule a b T L R m d
  approach_below d = go (dec_le (formula_length a 0 T L R m) T)
    where
      unflared : (n : ℕ) → (n < formula_length a 0 T L R m) ↔ BelowFormula a 0 T L R m n
      unflared = formula_below a 0 T L R m (omega arith)

      flared : (d < formula_length a b T L R m) ↔ BelowFormula a b T L R m d
      flared = formula_below a b T L R m (omega arith) d

      within : formula_length a 0 T L R m ≤ T → BelowFormula a 0 T L R m T → ⊥
      within l f = omega (arith, (unflared T).1 f)

      go : Dec (formula_length a 0 T L R m ≤ T) → (d < approach_length a b T L R m) ↔ BelowRule a b T L R m d
      go (yes l) =
          rw (approach_unflared a b T L R m l)
          (λ h. inl (within l, (unflared d).0 h), ⊎_elim (λ w. (unflared d).1 w.1) (λ w. absurd (within l w.0)))
      go (no l) =
          rw (approach_flared a b T L R m (omega arith))
          (λ h. inr ((unflared T).0 (omega arith), flared.0 h), ⊎_elim (λ w. absurd (w.0 ((unflared T).0 (omega arith)))) (λ w. flared.1 w.1))

  -- The length is the least whole number that is not below.
  pub approach_exactly : (n : ℕ) → (approach_length a b T L R m ≤ n) ↔ (BelowRule a b T L R m n → ⊥)
  approach_exactly n = (
    λ l h. omega (arith, (approach_below n).1 h),
    λ h. le_of_not_lt (λ l. h ((approach_below n).0 l)),
  )

module _ (a b T L R m : ℕ) (some : 0 < a * R) (uncut : a * m ≤ a * R) where
  -- It is never longer than the formula with flare.
  pub approach_formula : approach_length a b T L R m ≤ formula_length a b T L R m
  approach_formula = go (dec_le (formula_length a 0 T L R m) T)
    where
      go : Dec (formula_length a 0 T L R m ≤ T) → approach_length a b T L R m ≤ formula_length a b T L R m
      go (yes l) = omega (arith, approach_unflared a b T L R m l, (flare_adds a b T L R m some uncut l).0)
      go (no l) = omega (arith, approach_flared a b T L R m (omega arith))

  -- The barrier ends in its straight part exactly where the length without flare is at most T.
  pub ends_straight : (approach_length a b T L R m ≤ T) ↔ (formula_length a 0 T L R m ≤ T)
  ends_straight = go (dec_le (formula_length a 0 T L R m) T)
    where
      go : Dec (formula_length a 0 T L R m ≤ T) → (approach_length a b T L R m ≤ T) ↔ (formula_length a 0 T L R m ≤ T)
      go (yes l) = (λ _. l, λ _. omega (arith, approach_unflared a b T L R m l))
      go (no l) =
          let h : T < formula_length a 0 T L R m = omega arith in
          (λ q. absurd (omega (arith, approach_flared a b T L R m h, (flare_shortens a b T L R m some uncut h).0)), λ q. absurd (omega arith))

  -- It is never longer than L.
  pub approach_runout : approach_length a b T L R m ≤ L
  approach_runout = go (dec_le (formula_length a 0 T L R m) T)
    where
      unflared : formula_length a 0 T L R m ≤ L
      unflared = (unflared_exactly a b T L R m some uncut L).1 (omega (arith, mul-le-mul_left L (let e : a * R + 0 * T - a * m ≤ a * R = omega arith in e)))

      go : Dec (formula_length a 0 T L R m ≤ T) → approach_length a b T L R m ≤ L
      go (yes l) = omega (arith, approach_unflared a b T L R m l, unflared)
      go (no l) = let h : T < formula_length a 0 T L R m = omega arith in
          omega (arith, approach_flared a b T L R m h, (flare_shortens a b T L R m some uncut h).1, unflared)

-- The rule's test with no division and without a: "the length without flare (b = 0) is at most T".
pub unflared_test : (a T L R m : ℕ) → 1 ≤ a → m < R → (formula_length a 0 T L R m ≤ T) ↔ (L * (R - m) ≤ T * R)
unflared_test a T L R m low below = (
  λ l. le_of_mul-le-mul_left {k = a} (omega (arith, exact.0 l, same)) (omega arith),
  λ l. exact.1 (omega (arith, mul-le-mul_left a l, same)),
)
  where
    left : a * R ≡ a * m + a * (R - m)
    left = let e : R ≡ m + (R - m) = omega arith in ap (λ (k : ℕ). a * k) e ∙ omega arith

    same : L * (a * R + 0 * T - a * m) ≡ a * (L * (R - m))
    same = let e : a * R + 0 * T - a * m ≡ a * (R - m) = omega (arith, left) in ap (λ (k : ℕ). L * k) e ∙ omega arith

    reach_some : 1 * 1 ≤ a * R
    reach_some = mul-le-mul low (let e : 1 ≤ R = omega arith in e)

    exact : (formula_length a 0 T L R m ≤ T) ↔ (L * (a * R + 0 * T - a * m) ≤ T * (a * R))
    exact = unflared_exactly a 0 T L R m (omega (arith, reach_some)) (mul-le-mul_left a (let e : m ≤ R = omega arith in e)) T

-- The formula in the domain.
-- How great its parts are: none leaves 64 bits.
pub record Sizes (a b T L R m : ℕ) : Type 0 where
  pub along_reach : a * R ≤ 100 * 30000
  pub along_offset : a * m ≤ a * R
  pub flare : b * T ≤ 10 * 100000
  pub across_runout : b * L ≤ 10 * 200000
  pub divisor : 0 < b * L + a * R
  pub dividend : L * (a * R + b * T - a * m) ≤ 200000 * (100 * 30000 + 10 * 100000)
  pub runout_reach : L * (R - m) ≤ 200000 * 30000
  pub straight_reach : T * R ≤ 100000 * 30000

-- Its subtraction is not cut off, no divisor is 0, and the length is from 1 to 200,000.
module _ (a b T L R m : ℕ) (d : Domain a b T L R m) where
  offset_within : a * suc m ≤ a * R
  offset_within = mul-le-mul_left a d.offset_below

  pub nothing_cut_off : a * m ≤ a * R
  nothing_cut_off = omega (arith, offset_within)

  pub divisor_some : 0 < a * R
  divisor_some = omega (arith, offset_within, d.along_low)

  -- The formula without flare is asked in the domain too.
  pub unflared_domain : Domain a 0 T L R m
  unflared_domain =
      record {
        along_low = d.along_low;
        along_top = d.along_top;
        across_top = omega arith;
        straight_top = d.straight_top;
        runout_low = d.runout_low;
        runout_top = d.runout_top;
        reach_top = d.reach_top;
        offset_below = d.offset_below;
      }

  dividend_some : (b : ℕ) → 1 * 1 ≤ L * (a * R + b * T - a * m)
  dividend_some b = mul-le-mul d.runout_low (let e : 1 ≤ a * R + b * T - a * m = omega (arith, offset_within, d.along_low) in e)

  formula_some : (b : ℕ) → 1 ≤ formula_length a b T L R m
  formula_some b = (formula_below a b T L R m (omega (arith, divisor_some)) 0).1 (omega (arith, dividend_some b))

  pub length_some : 1 ≤ approach_length a b T L R m
  unfolding approach_length
  length_some = go (leb (formula_length a 0 T L R m) T)
    where
      go : (t : Bool) → 1 ≤ (if t then formula_length a 0 T L R m else formula_length a b T L R m)
      go true = formula_some 0
      go false = formula_some b

  pub length_greatest : approach_length a b T L R m ≤ L
  length_greatest = approach_runout a b T L R m divisor_some nothing_cut_off

  pub length_fits : approach_length a b T L R m ≤ 200000
  length_fits = omega (arith, length_greatest, d.runout_top)

  pub sizes : Sizes a b T L R m
  sizes =
      let along_reach : a * R ≤ 100 * 30000 = mul-le-mul d.along_top d.reach_top in
      let flare : b * T ≤ 10 * 100000 = mul-le-mul d.across_top d.straight_top in
      record {
        along_reach = along_reach;
        along_offset = nothing_cut_off;
        flare = flare;
        across_runout = mul-le-mul d.across_top d.runout_top;
        divisor = omega (arith, divisor_some);
        dividend = mul-le-mul d.runout_top (let e : a * R + b * T - a * m ≤ 100 * 30000 + 10 * 100000 = omega arith in e);
        runout_reach = mul-le-mul d.runout_top (let e : R - m ≤ 30000 = omega (arith, d.reach_top) in e);
        straight_reach = mul-le-mul d.straight_top d.reach_top;
      }

-- The b that the code asks the formula with.
module _ (a b T L R m : ℕ) (d : Domain a b T L R m) where
  pub flare_domain : Domain a (flare_across b T L R m) T L R m
  unfolding flare_across
  flare_domain = go (leb (L * (R - m)) (T * R))
    where
      go : (t : Bool) → Domain a (if t then 0 else b) T L R m
      go true = unflared_domain a b T L R m d
      go false = d

  pub flare_length : formula_length a (flare_across b T L R m) T L R m ≡ approach_length a b T L R m
  unfolding flare_across
  flare_length = go (leb (L * (R - m)) (T * R)) refl
    where
      test : (formula_length a 0 T L R m ≤ T) ↔ (L * (R - m) ≤ T * R)
      test = unflared_test a T L R m d.along_low d.offset_below

      go : (t : Bool) → leb (L * (R - m)) (T * R) ≡ t → formula_length a (if t then 0 else b) T L R m ≡ approach_length a b T L R m
      go true e = sym (approach_unflared a b T L R m (test.1 (leb-true (L * (R - m)) (T * R) e)))
      go false e = sym (approach_flared a b T L R m (lt_of_not-le (λ l. omega (arith, test.0 l, leb-false (L * (R - m)) (T * R) e))))
