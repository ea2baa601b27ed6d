-- The formula: the least whole number not below its quotient; with flare it is a weighted mean of the length without flare and of T.
-- Assumes nothing.
use Rattle.std.specs.Int.{div_ceil}
use Rattle.std.proofs.lemmas.Grind.{div_ceil_times}
use Prim.Native.Nat.{ℕ, suc, ◌+◌, ◌-◌, ◌*◌, ◌≤◌, ◌<◌}
use native.Mathlib.Omega.{arith}
use native.Mathlib.Nat.{lt-div-mul-add, div-lt_iff_lt-mul, mul-le-mul_left, mul-le-mul_right, lt_of_not-le, lt_of_mul-lt-mul_right}
use native.Mathlib.Decide.{dec_le}
use mathlib.Core.Path.{◌≡◌, ap, ◌∙◌}
use mathlib.Core.Logic.{◌↔◌}
use Rattle.approach.specs.Approach.{ceil_div, formula_length, BelowFormula}

-- Rounding up.
-- x ≤ ⌈x / y⌉ × y, and no smaller number has that.
pub ceil_covers : (x y : ℕ) → 0 < y → x ≤ ceil_div x y * y
unfolding ceil_div
ceil_covers x y h = let a = lt-div-mul-add {a = x + (y - 1)} {b = y} h in omega arith

pub ceil_least : (x y n : ℕ) → 0 < y → x ≤ n * y → ceil_div x y ≤ n
unfolding ceil_div
ceil_least x y n h l = let a = (div-lt_iff_lt-mul {k = y} {x = x + (y - 1)} {y = suc n} h).1 (omega arith) in omega arith

pub ceil_exactly : (x y n : ℕ) → 0 < y → (ceil_div x y ≤ n) ↔ (x ≤ n * y)
ceil_exactly x y n h = (λ l. omega (arith, ceil_covers x y h, mul-le-mul_right y l), ceil_least x y n h)

-- The quotient, and one more where there is a rest.
pub ceil_same : (x y : ℕ) → 0 < y → div_ceil x y ≡ ceil_div x y
ceil_same x y h =
    let t = div_ceil_times x y h in
    omega (arith, ceil_least x y (div_ceil x y) h t.0, lt_of_mul-lt-mul_right y (let e : div_ceil x y * y < (ceil_div x y + 1) * y = omega (arith, t.1, ceil_covers x y h) in e))

-- The formula.
-- With no division: the numbers n from its length on are those with L × (a × R + b × T − a × m) ≤ n × (b × L + a × R).
module _ (a b T L R m : ℕ) (some : 0 < b * L + a * R) where
  pub formula_exactly : (n : ℕ) → (formula_length a b T L R m ≤ n) ↔ (L * (a * R + b * T - a * m) ≤ n * (b * L + a * R))
  unfolding formula_length
  formula_exactly n = ceil_exactly (L * (a * R + b * T - a * m)) (b * L + a * R) n some

  pub formula_below : (d : ℕ) → (d < formula_length a b T L R m) ↔ BelowFormula a b T L R m d
  formula_below d = (
    λ l. lt_of_not-le (λ h. omega (arith, (formula_exactly d).1 h)),
    λ h. lt_of_not-le (λ l. omega (arith, (formula_exactly d).0 l)),
  )

-- A weighted mean.
-- With flare the formula is the mean of the length without flare, X / Y, at weight Y, and of T at weight w = b × L: it lies between the two.
-- Each law says so of the whole numbers n not below a quotient.
module _ (X Y w T n : ℕ) where
  mean_low : X ≤ T * Y → X + w * T ≤ n * (w + Y) → X ≤ n * Y
  mean_low l h = go (dec_le n T)
    where
      go : Dec (n ≤ T) → X ≤ n * Y
      go (yes q) = omega (arith, mul-le-mul_left w q)
      go (no q) = omega (arith, mul-le-mul_right Y (let e : T ≤ n = omega arith in e))

  mean_top : X ≤ T * Y → X + w * T ≤ T * (w + Y)
  mean_top l = omega arith

  mean_least : T ≤ n → X ≤ n * Y → X + w * T ≤ n * (w + Y)
  mean_least l h = omega (arith, mul-le-mul_left w l)

  mean_above : T * Y < X → X + w * T ≤ n * (w + Y) → T < n
  mean_above l h = lt_of_not-le (λ e. omega (arith, mul-le-mul_left w e, mul-le-mul_right Y e))

module _ (a b T L R m : ℕ) (some : 0 < a * R) (uncut : a * m ≤ a * R) where
  -- The length without flare and the length with it.
  with_flare : L * (a * R + b * T - a * m) ≡ L * (a * R + 0 * T - a * m) + b * L * T
  with_flare =
      let e : a * R + b * T - a * m ≡ (a * R + 0 * T - a * m) + b * T = omega arith in
      ap (λ (k : ℕ). L * k) e ∙ omega arith

  pub unflared_exactly : (n : ℕ) → (formula_length a 0 T L R m ≤ n) ↔ (L * (a * R + 0 * T - a * m) ≤ n * (a * R))
  unflared_exactly n = let e = formula_exactly a 0 T L R m (omega arith) n in (λ l. omega (arith, e.0 l), λ l. e.1 (omega arith))

  flared_exactly : (n : ℕ) → (formula_length a b T L R m ≤ n) ↔ (L * (a * R + 0 * T - a * m) + b * L * T ≤ n * (b * L + a * R))
  flared_exactly n = let e = formula_exactly a b T L R m (omega arith) n in (λ l. omega (arith, e.0 l, with_flare), λ l. e.1 (omega (arith, with_flare)))

  -- Where the length without flare is at most T, the flare adds to it, up to T at most.
  pub flare_adds : formula_length a 0 T L R m ≤ T → (formula_length a 0 T L R m ≤ formula_length a b T L R m) × (formula_length a b T L R m ≤ T)
  flare_adds l =
      let X = L * (a * R + 0 * T - a * m) in
      let n = formula_length a b T L R m in
      let x = (unflared_exactly T).0 l in (
        (unflared_exactly n).1 (mean_low X (a * R) (b * L) T n x ((flared_exactly n).0 (omega arith))),
        (flared_exactly T).1 (mean_top X (a * R) (b * L) T n x),
      )

  -- Where it is above T, the flare shortens it, but not down to T.
  pub flare_shortens : T < formula_length a 0 T L R m → (T < formula_length a b T L R m) × (formula_length a b T L R m ≤ formula_length a 0 T L R m)
  flare_shortens l =
      let X = L * (a * R + 0 * T - a * m) in
      let n = formula_length a b T L R m in
      let k = formula_length a 0 T L R m in
      let x = (unflared_exactly k).0 (omega arith) in (
        mean_above X (a * R) (b * L) T n (lt_of_not-le (λ h. omega (arith, (unflared_exactly T).1 h))) ((flared_exactly n).0 (omega arith)),
        (flared_exactly k).1 (mean_least X (a * R) (b * L) T k (omega arith) x),
      )
