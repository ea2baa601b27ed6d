-- The writing of a number: group by group, and how long it is.
-- Assumes nothing.
use Prim.Native.Nat.{ℕ, zero, suc, ◌+◌, ◌*◌, ◌/◌, ◌%◌, ◌^◌, ◌≤◌, ◌<◌}
use native.Mathlib.Nat.{pow-le-pow_right, pow-succ'}
use lib.Pow.{pow-add, pow_mono}
use lib.Count.{leading_of_zero, leading_top}
use native.Mathlib.Omega.{arith}
use native.Mathlib.Decide.{dec_lt}
use mathlib.Core.Path.{◌≡◌, refl, sym, ap, ◌∙◌}
use mathlib.Core.List.{List, [], ◌∷◌}
use lib.ListN.{length}
use borrow.Author.Tests.{lt-ltb, le-ltb}
use Rattle.number.specs.Number.{write_in, write_number, most_groups, greatest_number, group_count}

-- One group

pub write_last : (k n : ℕ) → n < 128 → write_in (suc k) n ≡ n ∷ []
unfolding write_in
write_last k n h = rw (lt-ltb n 128 h)

pub write_more : (k n : ℕ) → 128 ≤ n → write_in (suc k) n ≡ (n % 128 + 128) ∷ write_in k (n / 128)
unfolding write_in
write_more k n h = rw (le-ltb n 128 h)

-- More groups allowed change no writing that needs none of them.
pub write_wider : (k m n : ℕ) → k ≤ m → n < 128 ^ suc k → write_in (suc k) n ≡ write_in (suc m) n
write_wider zero m n le h = write_last 0 n (omega arith) ∙ sym (write_last m n (omega arith))
write_wider (suc k) zero n le h = absurd (omega arith)
write_wider (suc k) (suc m) n le h = go (dec_lt n 128) (write_wider k m (n / 128))
  where
    go : Dec (n < 128) → (k ≤ m → n / 128 < 128 ^ suc k → write_in (suc k) (n / 128) ≡ write_in (suc m) (n / 128))
        → write_in (suc (suc k)) n ≡ write_in (suc (suc m)) n
    go (yes l) r = write_last (suc k) n l ∙ sym (write_last (suc m) n l)
    go (no l) r = write_more (suc k) n (omega arith) ∙ rw (r (omega arith) (omega arith)) (sym (write_more (suc m) n (omega arith)))

-- A number that five groups hold, as all did before document 02's request 11, is written as it was.
pub write_five : (n : ℕ) → n < 128 ^ 5 → write_number n ≡ write_in 5 n
unfolding write_number
write_five n h = sym (write_wider 4 5 n (omega arith) h)

pub write_one : (n : ℕ) → n < 128 → write_number n ≡ n ∷ []
unfolding write_number
write_one n h = write_last 5 n h

pub write_step : (n : ℕ) → 128 ≤ n → n ≤ greatest_number → write_number n ≡ (n % 128 + 128) ∷ write_number (n / 128)
unfolding write_number
write_step n h fit = write_more 5 n h ∙ ap (λ (l : List ℕ). (n % 128 + 128) ∷ l) (write_wider 4 5 (n / 128) (omega arith) (omega arith))

-- Length

-- "No longer at the value": the groups make no value that is greater.
pub groups_hold : greatest_number + 1 ≡ 128 ^ most_groups
groups_hold = refl

-- Below 128 ^ (g + 1), g + 1 groups are enough.
pub length_below : (k g n : ℕ) → n < 128 ^ suc g → length (write_in k n) ≤ suc g
unfolding write_in
length_below zero g n h = omega arith
length_below (suc k) zero n h = omega (arith, ap length (write_last k n (omega arith)))
length_below (suc k) (suc g) n h = go (dec_lt n 128) (length_below k g (n / 128))
  where
    go : Dec (n < 128) → (n / 128 < 128 ^ suc g → length (write_in k (n / 128)) ≤ suc g) → length (write_in (suc k) n) ≤ suc (suc g)
    go (yes l) r = omega (arith, ap length (write_last k n l))
    go (no l) r = omega (arith, r (omega arith), ap length (write_more k n (omega arith)))

-- From 128 ^ g on, g groups are too few.
pub length_above : (k g n : ℕ) → g < k → 128 ^ g ≤ n → g < length (write_in k n)
length_above zero g n few h = absurd (omega arith)
length_above (suc k) zero n few h = go (dec_lt n 128)
  where
    go : Dec (n < 128) → 0 < length (write_in (suc k) n)
    go (yes l) = omega (arith, ap length (write_last k n l))
    go (no l) = omega (arith, ap length (write_more k n (omega arith)))
length_above (suc k) (suc g) n few h =
    let some : 1 ≤ 128 ^ g = pow-le-pow_right {n = 128} (omega arith) {i = 0} {j = g} (omega arith) in
    omega (arith, ap length (write_more k n (omega arith)), length_above k g (n / 128) (omega arith) (omega arith))

pub number_length : (n : ℕ) → length (write_number n) ≤ 6
unfolding write_number write_in
number_length n = write_length 6 n
  where
    write_length : (k m : ℕ) → length (write_in k m) ≤ k
    write_length zero m = omega arith
    write_length (suc k) m = go (dec_lt m 128) (write_length k (m / 128))
      where
        go : Dec (m < 128) → length (write_in k (m / 128)) ≤ k → length (write_in (suc k) m) ≤ suc k
        go (yes l) r = omega (arith, ap length (write_last k m l))
        go (no l) r = omega (arith, ap length (write_more k m (omega arith)))

pub small_length : (n : ℕ) → n < 128 → length (write_number n) ≡ 1
small_length n h = ap length (write_one n h)

pub middle_length : (n : ℕ) → n < 16384 → length (write_number n) ≤ 2
unfolding write_number
middle_length n h = length_below 6 1 n (omega arith)

-- Only from 2 to the 35th on does a number take a sixth byte.
pub long_length : (n : ℕ) → length (write_number n) ≤ 5 + n / 34359738368
unfolding write_number
long_length n = go (dec_lt n 34359738368)
  where
    go : Dec (n < 34359738368) → length (write_number n) ≤ 5 + n / 34359738368
    go (yes l) = omega (arith, length_below 6 4 n (omega arith))
    go (no l) = omega (arith, number_length n)

-- The groups of a number by its bits: j + 1 bits take j / 7 + 1 groups.
seven_bits : (g : ℕ) → 128 ^ g ≡ 2 ^ (7 * g)
seven_bits zero = refl
seven_bits (suc g) = pow-succ' 128 g ∙ ap (λ (m : ℕ). 128 * m) (seven_bits g) ∙ sym (pow-add 2 7 (7 * g)) ∙ ap (λ (m : ℕ). 2 ^ m) (omega arith)

groups_of_bits : (n j : ℕ) → 2 ^ j ≤ n → n < 2 ^ suc j → j < 42 → length (write_number n) ≡ j / 7 + 1
unfolding write_number
groups_of_bits n j lo hi few =
    let g = j / 7 in
    let low : 2 ^ (7 * g) ≤ 2 ^ j = pow_mono (omega arith) in
    let high : 2 ^ suc j ≤ 2 ^ (7 * suc g) = pow_mono (omega arith) in
    omega (
      arith,
      seven_bits g,
      seven_bits (suc g),
      length_below 6 g n (omega (arith, seven_bits (suc g))),
      length_above 6 g n (omega arith) (omega (arith, seven_bits g)),
    )

-- "A number takes as many groups as its bits need, and 0 takes one."
pub group_count_lem : (n : ℕ) → n ≤ greatest_number → length (write_number n) ≡ group_count n
unfolding group_count
group_count_lem zero h = small_length 0 (omega arith) ∙ rw (leading_of_zero 64)
group_count_lem (suc n) h =
    let (j, top, lo, hi) = leading_top 64 (suc n) (omega arith) (omega arith) in
    groups_of_bits (suc n) j lo hi (few j lo (dec_lt j 42)) ∙ omega arith
  where
    few : (j : ℕ) → 2 ^ j ≤ suc n → Dec (j < 42) → j < 42
    few j lo (yes l) = l
    few j lo (no l) = let big : 2 ^ 42 ≤ 2 ^ j = pow_mono {i = 42} {j = j} (omega arith) in absurd (omega arith)
