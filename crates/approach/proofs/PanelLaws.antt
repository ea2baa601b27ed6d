-- Raising to whole panels: one law over every panel length and every length, and what follows for approach lengths.
-- Assumes nothing.
use Prim.Native.Nat.{ℕ, ◌+◌, ◌-◌, ◌*◌, ◌/◌, ◌≤◌, ◌<◌}
use native.Mathlib.Omega.{arith}
use native.Mathlib.Nat.{div-mul_cancel, div-mul-le_self, dvd-mul_left, lt_of_not-le, one-dvd}
use mathlib.Core.Path.{◌≡◌}
use mathlib.Core.Logic.{◌↔◌}
use Rattle.base.specs.Least.{LeastMultiple, next_multiple}
use Rattle.base.proofs.LeastLaws.{least_only, next_multiple_lem}
use Rattle.approach.specs.Approach.{approach_length, Domain}
use Rattle.approach.specs.Panel.{Raising, raised_length, BelowRaised}
use Rattle.approach.proofs.ApproachLaws.{approach_below, length_some, length_fits}

-- The raising.

-- For every panel length and every length: the least multiple that is not smaller.
pub raised_least : Raising
raised_least = next_multiple_lem

-- There is no other.
pub raised_only : (p x y : ℕ) → 1 ≤ p → LeastMultiple p x y → y ≡ next_multiple p x
raised_only p x y h w = least_only w (raised_least p x h)

-- Panel length 1 raises nothing.
pub raised_one : (x : ℕ) → next_multiple 1 x ≡ x
raised_one x =
    let r = raised_least 1 x (omega arith) in
    omega (arith, r.holds.not_smaller, r.least x (record { multiple = one-dvd x; not_smaller = omega arith }))

-- A longer length is raised no less.
pub raised_monotone : (p x y : ℕ) → 1 ≤ p → x ≤ y → next_multiple p x ≤ next_multiple p y
raised_monotone p x y h l =
    let r = (raised_least p y h).holds in
    (raised_least p x h).least (next_multiple p y) (record { multiple = r.multiple; not_smaller = omega (arith, r.not_smaller) })

-- Raising adds less than a panel.
pub raised_less : (p x : ℕ) → 1 ≤ p → next_multiple p x < x + p
unfolding next_multiple
raised_less p x h = omega (arith, div-mul-le_self (x + (p - 1)) p)

-- The numbers below the raised length: no multiple up to them reaches the length.
pub raised_below : (p x d : ℕ) → 1 ≤ p → (d < next_multiple p x) ↔ ((k : ℕ) → k * p ≤ d → k * p < x)
raised_below p x d h =
    (λ l k q. lt_of_not-le (λ z. omega (arith, r.least (k * p) (record { multiple = dvd-mul_left p k; not_smaller = z }))), λ f. lt_of_not-le (λ l. back f l))
  where
    r : LeastMultiple p x (next_multiple p x)
    r = raised_least p x h

    back : ((k : ℕ) → k * p ≤ d → k * p < x) → next_multiple p x ≤ d → ⊥
    back f l =
        let e : next_multiple p x / p * p ≡ next_multiple p x = div-mul_cancel p r.holds.multiple in
        omega (arith, f (next_multiple p x / p) (omega arith), r.holds.not_smaller)

-- Approach lengths in panels.

module _ (p a b T L R m : ℕ) (panel : 1 ≤ p) (some : 0 < a * R) where
  -- The numbers below a raised approach length, with no rounding and no division.
  pub raised_length_below : (d : ℕ) → (d < raised_length p a b T L R m) ↔ BelowRaised p a b T L R m d
  unfolding raised_length
  raised_length_below d =
      let e = raised_below p (approach_length a b T L R m) d panel in
      (λ l k q. (approach_below a b T L R m some (k * p)).0 (e.0 l k q), λ f. e.1 (λ k q. (approach_below a b T L R m some (k * p)).1 (f k q)))

-- Panel length 1, which kind 1 has, leaves every approach length as it is.
pub raised_length_one : (a b T L R m : ℕ) → raised_length 1 a b T L R m ≡ approach_length a b T L R m
unfolding raised_length
raised_length_one a b T L R m = raised_one (approach_length a b T L R m)

-- In the domain it is above 0, and with panels up to 10,000 below 210,000.
module _ (p a b T L R m : ℕ) (low : 1 ≤ p) (d : Domain a b T L R m) where
  pub raised_length_some : 1 ≤ raised_length p a b T L R m
  unfolding raised_length
  raised_length_some = omega (arith, (raised_least p (approach_length a b T L R m) low).holds.not_smaller, length_some a b T L R m d)

  pub raised_length_fits : p ≤ 10000 → raised_length p a b T L R m < 210000
  unfolding raised_length
  raised_length_fits top = omega (arith, raised_less p (approach_length a b T L R m) low, length_fits a b T L R m d)
