-- Decimal numbers: what they stand for, no zero before the first digit, and how many digits there are.
-- Assumes nothing.
use Prim.Native.Nat.{ℕ, zero, suc, ◌+◌, ◌-◌, ◌*◌, ◌/◌, ◌≤◌, ◌<◌}
use native.Mathlib.Omega.{arith}
use native.Mathlib.Decide.{dec_lt}
use mathlib.Core.Path.{◌≡◌, refl, sym, ap, ◌∙◌}
use mathlib.Core.List.{List, [], ◌∷◌, ◌++◌}
use lib.ListN.{length, get_or, length-append, get_or-append}
use borrow.Author.Tests.{lt-ltb, le-ltb}
use Rattle.report.specs.Text.{digit, digits_in, decimal}
use Rattle.report.specs.Digits.{value_from, tens}

digits_one : (k n : ℕ) → n < 10 → digits_in (suc k) n ≡ digit n ∷ []
unfolding digits_in
digits_one k n h = rw (lt-ltb n 10 h)

digits_more : (k n : ℕ) → 10 ≤ n → digits_in (suc k) n ≡ digits_in k (n / 10) ++ digit n ∷ []
unfolding digits_in
digits_more k n h = rw (le-ltb n 10 h)

-- A number below 10 to the power k has its digits in k.
digits_enough : (k n : ℕ) → n < tens (suc k) → digits_in (suc (suc k)) n ≡ digits_in (suc k) n
digits_enough zero n h = digits_one 1 n (omega arith) ∙ sym (digits_one 0 n (omega arith))
digits_enough (suc k) n h = go (dec_lt n 10) (digits_enough k (n / 10) (omega arith))
  where
    go : Dec (n < 10) → digits_in (suc (suc k)) (n / 10) ≡ digits_in (suc k) (n / 10) → digits_in (suc (suc (suc k))) n ≡ digits_in (suc (suc k)) n
    go (yes l) r = digits_one (suc (suc k)) n l ∙ sym (digits_one (suc k) n l)
    go (no l) r = digits_more (suc (suc k)) n (omega arith) ∙ rw r (sym (digits_more (suc k) n (omega arith)))

pub decimal_one : (n : ℕ) → n < 10 → decimal n ≡ digit n ∷ []
unfolding decimal
decimal_one n h = digits_one 19 n h

pub decimal_more : (n : ℕ) → 10 ≤ n → n < tens 20 → decimal n ≡ decimal (n / 10) ++ digit n ∷ []
unfolding decimal
decimal_more n h fit = digits_more 19 n h ∙ ap (λ (l : List ℕ). l ++ digit n ∷ []) (sym (digits_enough 18 (n / 10) (omega arith)))

-- How many digits there are.
module _ (m n : ℕ) where
  last_length : n < 10 → length (digits_in (suc m) n) ≡ 1
  last_length h = ap length (digits_one m n h)

  more_length : 10 ≤ n → length (digits_in (suc m) n) ≡ length (digits_in m (n / 10)) + 1
  more_length h = ap length (digits_more m n h) ∙ length-append (digits_in m (n / 10)) (digit n ∷ [])

digits_within : (k m n : ℕ) → n < tens (suc k) → length (digits_in m n) ≤ suc k
unfolding digits_in
digits_within k zero n h = omega arith
digits_within zero (suc m) n h = omega (arith, last_length m n (omega arith))
digits_within (suc k) (suc m) n h = go (dec_lt n 10) (digits_within k m (n / 10) (omega arith))
  where
    go : Dec (n < 10) → length (digits_in m (n / 10)) ≤ suc k → length (digits_in (suc m) n) ≤ suc (suc k)
    go (yes l) r = omega (arith, last_length m n l)
    go (no l) r = omega (arith, more_length m n (omega arith))

digits_most : (m n : ℕ) → length (digits_in m n) ≤ m
unfolding digits_in
digits_most zero n = omega arith
digits_most (suc m) n = go (dec_lt n 10) (digits_most m (n / 10))
  where
    go : Dec (n < 10) → length (digits_in m (n / 10)) ≤ m → length (digits_in (suc m) n) ≤ suc m
    go (yes l) r = omega (arith, last_length m n l)
    go (no l) r = omega (arith, more_length m n (omega arith))

pub decimal_within : (k n : ℕ) → n < tens (suc k) → length (decimal n) ≤ suc k
unfolding decimal
decimal_within k n h = digits_within k 20 n h

pub decimal_most : (n : ℕ) → length (decimal n) ≤ 20
unfolding decimal
decimal_most n = digits_most 20 n

-- The digits stand for the number.
value_last : (n : ℕ) (ds : List ℕ) (d : ℕ) → value_from n (ds ++ d ∷ []) ≡ 10 * value_from n ds + (d - 48)
unfolding value_from
value_last n [] d = refl
value_last n (e ∷ ds) d = value_last (10 * n + (e - 48)) ds d

digits_value : (k n : ℕ) → n < tens (suc k) → value_from 0 (digits_in (suc k) n) ≡ n
unfolding value_from
digits_value zero n h = rw (digits_one 0 n (omega arith)) (omega arith)
digits_value (suc k) n h = go (dec_lt n 10) (digits_value k (n / 10) (omega arith))
  where
    go : Dec (n < 10) → value_from 0 (digits_in (suc k) (n / 10)) ≡ n / 10 → value_from 0 (digits_in (suc (suc k)) n) ≡ n
    go (yes l) r = rw (digits_one (suc k) n l) (omega arith)
    go (no l) r = rw (digits_more (suc k) n (omega arith), value_last 0 (digits_in (suc k) (n / 10)) (digit n)) (omega arith)

pub decimal_value : (n : ℕ) → n < tens 20 → value_from 0 (decimal n) ≡ n
unfolding decimal
decimal_value n h = digits_value 19 n h

-- The first digit of a number above 0 is not 0.
digits_some : (m n : ℕ) → 0 < length (digits_in (suc m) n)
digits_some m n = go (dec_lt n 10)
  where
    go : Dec (n < 10) → 0 < length (digits_in (suc m) n)
    go (yes l) = omega (arith, last_length m n l)
    go (no l) = omega (arith, more_length m n (omega arith))

digits_first : (k n : ℕ) → 0 < n → n < tens (suc k) → 48 < get_or (digits_in (suc k) n) 0 0
digits_first zero n some h = rw (digits_one 0 n (omega arith)) (omega arith)
digits_first (suc k) n some h = go (dec_lt n 10) (digits_first k (n / 10))
  where
    go : Dec (n < 10) → (0 < n / 10 → n / 10 < tens (suc k) → 48 < get_or (digits_in (suc k) (n / 10)) 0 0) → 48 < get_or (digits_in (suc (suc k)) n) 0 0
    go (yes l) r = rw (digits_one (suc k) n l) (omega arith)
    go (no l) r =
        rw (digits_more (suc k) n (omega arith), get_or-append (digits_in (suc k) (n / 10)) (digit n ∷ []) 0 0 (digits_some k (n / 10)))
        (r (omega arith) (omega arith))

pub decimal_first : (n : ℕ) → 0 < n → n < tens 20 → 48 < get_or (decimal n) 0 0
unfolding decimal
decimal_first n some h = digits_first 19 n some h
