-- Least numbers: there is one of a property that is decided and met, there are no two, and which multiple of a number is the least not below another.
-- Assumes nothing.
use Prim.Native.Nat.{ℕ, zero, suc, ◌+◌, ◌-◌, ◌/◌, ◌≤◌, ◌<◌, ◌∣◌}
use native.Mathlib.Omega.{arith}
use native.Mathlib.Nat.{lt-div-mul-add, div-lt_iff_lt-mul, div-mul_cancel, dvd-mul_left, mul-le-mul_right, suc-mul}
use mathlib.Core.Path.{◌≡◌}
use Rattle.base.specs.Least.{Least, LeastMultiple, next_multiple}

pub least_only : {P : ℕ → Type 0} {m n : ℕ} → Least P m → Least P n → m ≡ n
least_only {P} {m} {n} a b = omega (arith, a.least n b.holds, b.least m a.holds)

-- The least number with a property that k has.
pub record LeastTo (P : ℕ → Type 0) (k : ℕ) : Type 0 where
  pub at : ℕ
  pub is : Least P at
  pub by : at ≤ k

-- It is found where the property is decided, by trying from 0 on.
pub least_to : (P : ℕ → Type 0) → ((z : ℕ) → Dec (P z)) → (k : ℕ) → P k → LeastTo P k
least_to P dec zero h = record { at = 0; is = record { holds = h; least = λ z w. omega arith }; by = omega arith }
least_to P dec (suc k) h = go (dec 0) (least_to (λ (z : ℕ). P (suc z)) (λ z. dec (suc z)) k h)
  where
    go : Dec (P 0) → LeastTo (λ (z : ℕ). P (suc z)) k → LeastTo P (suc k)
    go (yes p) r = record { at = 0; is = record { holds = p; least = λ z w. omega arith }; by = omega arith }
    go (no p) r = record { at = suc r.at; is = record { holds = r.is.holds; least = above }; by = omega (arith, r.by) }
      where
        above : (z : ℕ) → P z → suc r.at ≤ z
        above zero w = absurd (p w)
        above (suc z) w = omega (arith, r.is.least z w)

-- "The least multiple, not below it".
pub multiple_divided : (p x : ℕ) → p ∣ next_multiple p x
unfolding next_multiple
multiple_divided p x = dvd-mul_left p _

pub multiple_from : (p x : ℕ) → 0 < p → x ≤ next_multiple p x
unfolding next_multiple
multiple_from p x h = let a = lt-div-mul-add {a = x + (p - 1)} {b = p} h in omega arith

pub multiple_least : (p x m : ℕ) → 0 < p → p ∣ m → x ≤ m → next_multiple p x ≤ m
unfolding next_multiple
multiple_least p x m h d l =
    let e = div-mul_cancel p d in
    let a = (div-lt_iff_lt-mul {k = p} {x = x + (p - 1)} {y = suc (m / p)} h).1 (omega (arith, suc-mul (m / p) p)) in
    let b = mul-le-mul_right {m = (x + (p - 1)) / p} {n = m / p} p (omega arith) in
    omega arith

pub next_multiple_lem : (p x : ℕ) → 1 ≤ p → LeastMultiple p x (next_multiple p x)
next_multiple_lem p x h =
    record {
      holds = record { multiple = multiple_divided p x; not_smaller = multiple_from p x h };
      least = λ m w. multiple_least p x m h w.multiple w.not_smaller;
    }
